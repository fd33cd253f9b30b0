-- What a word owns: what stands beside its address. h is the lifetime of the home, for which blocks are lent, k the right to
-- free a block. What a contract sees of a word is its `WordView`.
-- None of it names the lifetime of a `&` to the word, so it is the same whether the word is shared or not.
use Rattle.std.specs.Prelude.{◌≡◌, ℕ, [], ◌∷◌, Bool, true, false, Option, Some, None}
use base.Stored.{Coded, coded×, coded_ℕ, coded_bool, coded_via}
use base.Fml.{Share, Fml, ftrue, fsep, fex, flft, flent}
use mir.Syntax.{Ty}
use denote.RattleType.{RattleType}
use denote.RawPtr.{Ptr, block_ptr, null_ptr, Testable}
use denote.Struct.Lending.{lent_at}
use Rattle.std_alloc.specs.Box.Ownership.{box_owns}
use Rattle.table_cell.specs.Notes.{Agrees, free, fixed}

-- a word: the allocator and the home of its block, the name by which notes speak of it, whether it owns the block, and
-- the value in the block if it is known
pub record WordView (A X : Type 0) : Type 0 where
  pub from : A
  pub home : ℕ
  pub id : ℕ
  pub owning : Bool
  pub value : Option X

-- a word of a known value: no note speaks of it
abbrev pub word_view : {A X : Type 0} → A → ℕ → Bool → Option X → WordView A X
word_view a h y v = record { from = a; home = h; id = 0; owning = y; value = v }

abbrev pub view_coded : {A X : Type 0} → Coded A → Coded (Option X) → Coded (WordView A X)
view_coded c d =
    coded_via (coded× c (coded× coded_ℕ (coded× coded_ℕ (coded× coded_bool d))))
    (λ (w : WordView _ _). (w.from, (w.home, (w.id, (w.owning, w.value)))))
    (λ x y e i. record {
      from = (e i).0;
      home = (e i).1.0;
      id = (e i).1.1.0;
      owning = (e i).1.1.1.0;
      value = (e i).1.1.1.1;
    })

-- what a word may show: its known value, if one is known, and always a value that fits its home
abbrev pub Shows : {A X : Type 0} → (X → ℕ → Type 0) → WordView A X → X → Type 0
Shows fits w x = Agrees w.value x × fits x w.home

-- a fact, with nothing owned beside it
abbrev pub is_so : Type 0 → Fml
is_so fact = fex fact (λ _. ftrue)

-- p may be compared with null
abbrev pub testable : Ptr → Fml
testable p = is_so (Testable p)

-- a word whose value isn't known may be compared with null
abbrev pub tested : {X : Type 0} → Option X → Ptr → Fml
tested None p = testable p
tested (Some x) p = ftrue

-- how a set word was lent its value: the value, the lifetime that the setter can end, and what is here of its token
abbrev pub Loan : RattleType → Type 0
Loan R = R.Denot × ℕ × Share

module _ (R : RattleType) (h : ℕ) where
  -- the value at p may be read as long as the home and a lifetime of the setter's, s.1, are there. The setter ends the
  -- latter to take its block back if it comes second
  abbrev pub view : Ptr → Loan R → Fml
  view p s = fsep (flft (s.1 ∷ []) s.2) (lent_at R p s.0 (s.1 ∷ h ∷ []))

  -- a name: the value at p may be read as long as the home is there
  abbrev pub named : Ptr → R.Denot → Fml
  named p x = lent_at R p x (h ∷ [])

-- beside a word whose value isn't known: no value yet, or x for good
module _ (R : RattleType) (i : ℕ) where
  abbrev pub blank : Option R.Denot → Fml
  blank None = free R i
  blank (Some y) = ftrue

  abbrev pub fixes : Option R.Denot → R.Denot → Fml
  fixes None x = fixed R i x
  fixes (Some y) x = ftrue

module _ (R : RattleType) (k : Ty → Ptr → Fml) where
  -- a block with the right to free it
  abbrev pub freeable : Ptr → R.Denot → Fml
  freeable = box_owns k R

  module _ (h : ℕ) where
    -- the owning word has the right to the block, once the home has ended
    abbrev pub right : Bool → Ptr → R.Denot → ℕ → Fml
    right true p x ν = flent (ν ∷ h ∷ []) (freeable p x)
    right false p x ν = ftrue

    module _ (i : ℕ) (y : Bool) (v : Option R.Denot) (Q : R.Denot → Type 0) where
      -- a set word: the value may be read, an owning word has the right to the block, and the value is one it may show
      abbrev pub held : Ptr → Loan R → Fml
      held p s = fsep (view R h p s) (fsep (right y p s.0 s.1) (fex (Q s.0) (λ _. fixes R i v s.0)))

      -- beside its address: a word that is null has no known value
      abbrev pub kept : Ptr → Fml
      kept null_ptr = fex (v ≡ None) (λ _. blank R i v)
      kept (block_ptr b o) =
          fsep (tested v (block_ptr b o)) (fex (Loan R) (held (block_ptr b o)))
