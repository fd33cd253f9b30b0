-- What a latest word holds. h is the lifetime of the home, for which blocks are lent, i the name by which notes say whether a
-- block was shown, Q what is said of a value that it may name. It owns no block: it has a name of one, as any number of words may.
use Rattle.std.specs.Prelude.{ℕ}
use base.Stored.{Coded, coded×, coded_ℕ, coded_via}
use base.Fml.{Fml, fsep, fex}
use denote.Builtin.{unit}
use denote.RattleType.{RattleType}
use denote.RawPtr.{Ptr, block_ptr, null_ptr}
use Rattle.table_cell.specs.Notes.{free, fixed}
use Rattle.table_cell.specs.Words.{is_so, testable, named}

-- a latest word: the home of the blocks that it names, and the name by which notes speak of it
pub record LatestView : Type 0 where
  pub home : ℕ
  pub id : ℕ

abbrev pub latest_coded : Coded LatestView
latest_coded =
    coded_via (coded× coded_ℕ coded_ℕ)
    (λ (l : LatestView). (l.home, l.id))
    (λ x y e i. record { home = (e i).0; id = (e i).1 })

-- no block was shown yet, and the right to show the first; or one was, for good
abbrev pub unshown : ℕ → Fml
unshown i = free unit i

abbrev pub was_shown : ℕ → Fml
was_shown i = fixed unit i tt

module _ (R : RattleType) (h : ℕ) where
  module _ (Q : R.Denot → Type 0) where
    -- a block that may be read as long as the home is there, and whose value is one that may be named
    abbrev pub named_so : Ptr → R.Denot → Fml
    named_so p x = fsep (named R h p x) (is_so (Q x))

    -- a block that a latest word may name: it may be compared with null
    abbrev pub nameable : Ptr → Fml
    nameable p = fsep (testable p) (fex R.Denot (named_so p))

  -- beside its address: at null nothing was shown; at a block one was, and it may be named
  module _ (i : ℕ) (Q : R.Denot → Type 0) where
    abbrev pub last : Ptr → Fml
    last null_ptr = unshown i
    last (block_ptr b o) = fsep (was_shown i) (nameable Q (block_ptr b o))
