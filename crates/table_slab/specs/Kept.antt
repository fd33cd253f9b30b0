-- What a row of slots owns, and what a `&` to it holds.
-- Each time the row is shared, each slot takes a turn: a lifetime, and a name that tracks the value. One invariant for each slot, which holds no memory of its own, has the borrow of the value while the right to it is at rest, and a view of it once it is written.
use Rattle.core.specs.Prelude.{◌≡◌, ℕ, ◌+◌, ◌*◌, ◌^◌, List, [], ◌∷◌, length}
use Rattle.core.specs.Mem.{type_size}
use base.Fraction.{full_share}
use base.Stored.{Gv, gnil, gnum, gcons}
use base.Fml.{Lft, GName, Share, Fml, ftrue, ffalse, fsep, fex, flt, froom, fobs, fauth, fres, fbor, flft, flent, finv}
use base.Before.{before}
use mir.Syntax.{Ty, ty_array}
use mir.Raw.{raw}
use denote.RattleType.{RattleType}
use denote.Memory.{lone, part_at, shared_of}
use denote.RawPtr.{Ptr, block_ptr, null_ptr}
use denote.Sharing.{nothing, said, beside}
use Rattle.core.specs.declared.option.Option.{Option}
use Rattle.core.specs.declared.option.Option.TheVariants.{None, Some}
use Rattle.std.specs.Coded.{coded_option}
use Rattle.table_slab.specs.Rights.{mark}

-- no value; its right is at work; a value that its right can take back; a value for good
pub data Phase (X : Type 0) : Type 0 where
  idle : Phase X
  out : Phase X
  held : X → Phase X
  full : X → Phase X

-- with the name of the element that has one owner
abbrev pub Stage : Type 0 → Type 0
Stage X = GName × Phase X

abbrev pub Turn : Type 0
Turn = Lft × GName

abbrev pub fact : Type 0 → Fml
fact φ = fex φ (λ _. ftrue)

module _ (R : RattleType) where
  -- memory for one value, o bytes into the block b, and what lies there
  abbrev pub place : ℕ → ℕ → Option R.Denot → Fml
  place b o (Some x) = part_at R full_share x b o
  place b o None = froom (raw (lone R.mir)) b o

  abbrev pub sign : Phase R.Denot → Gv
  sign idle = gnil
  sign out = gnum 1
  sign (held x) = gcons (R.coded.code x) gnil
  sign (full x) = gcons (R.coded.code x) gnil

  abbrev pub codes : Option R.Denot → Gv
  codes = (coded_option R.coded).code

  abbrev pub Lies : Option R.Denot → Phase R.Denot → Type 0
  Lies v idle = v ≡ None
  Lies v out = Unit {0}
  Lies v (held x) = v ≡ Some x
  Lies v (full x) = v ≡ Some x

  module _ (γ : GName) where
    abbrev pub told : GName → Phase R.Denot → Fml
    told ε idle = ftrue
    told ε out = ftrue
    told ε (held x) = ftrue
    told ε (full x) = fres γ (mark R ε (Some x))

    abbrev pub named : Stage R.Denot → Fml
    named s = fsep (fauth γ (gcons (gnum s.0) (sign s.1))) (told s.0 s.1)

    -- a slot that nobody shares
    abbrev pub rests : ℕ → ℕ → Option R.Denot × Stage R.Denot → Fml
    rests b o s = fsep (place b o s.0) (fsep (named s.1) (fact (Lies s.0 s.1.1)))

    abbrev pub resting : ℕ → ℕ → Fml
    resting b o = fex (Option R.Denot × Stage R.Denot) (rests b o)

    module _ (t : Turn) (b o : ℕ) where
      abbrev pub Value : Fml
      Value = fex (Option R.Denot) (λ v. fsep (place b o v) (fauth t.1 (codes v)))

      abbrev pub tie : Phase R.Denot → Fml
      tie idle = fobs t.1 (codes None)
      tie out = ftrue
      tie (held x) = fobs t.1 (codes (Some x))
      tie (full x) = fres t.1 (codes (Some x))

      -- the value may be read as long as the turn lasts, and a lifetime of the right's
      abbrev pub view : R.Denot → ℕ × Share → Fml
      view x s = fsep (flft (s.0 ∷ []) s.1) (shared_of R x b o (s.0 ∷ t.0))

      -- who has this can take the borrow back
      abbrev pub mine : R.Denot → ℕ → Fml
      mine x ν = fsep (view x (ν, full_share)) (flent (ν ∷ t.0) (fbor t.0 Value))

      abbrev pub lent : Phase R.Denot → Fml
      lent idle = fbor t.0 Value
      lent out = ftrue
      lent (held x) = fex ℕ (mine x)
      lent (full x) = fex (ℕ × Share) (view x)

      abbrev pub tied : Stage R.Denot → Fml
      tied s = fsep (named s) (tie s.1)

      abbrev pub standing : Stage R.Denot → Fml
      standing s = fsep (tied s) (lent s.1)

      abbrev pub Cell : Fml
      Cell = fex (Stage R.Denot) standing

      abbrev pub kept : Lft → Fml
      kept κ = fsep (before κ t.0) (finv (fbor t.0 Cell))

    -- a slot that is shared
    abbrev pub shared_at : ℕ → ℕ → Lft → Fml
    shared_at b o κ = fex Turn (λ t. kept t b o κ)

  abbrev pub row : ℕ → ℕ → List GName → Fml
  row b o [] = ftrue
  row b o (γ ∷ γs) = fsep (resting γ b o) (row b (o + type_size R) γs)

  abbrev pub shared_row : ℕ → ℕ → List GName → Lft → Fml
  shared_row b o [] = nothing
  shared_row b o (γ ∷ γs) = beside (shared_at γ b o) (shared_row b (o + type_size R) γs)

  -- the slots take fewer than 2 ^ 63 bytes
  abbrev pub fit : List GName → Fml
  fit γs = flt (length γs * type_size R) (2 ^ 63)

  abbrev pub row_owns : Ptr → List GName → Fml
  row_owns (block_ptr b o) γs = fsep (fit γs) (row b o γs)
  row_owns null_ptr γs = ffalse

  abbrev pub row_shares : Ptr → List GName → Lft → Fml
  row_shares (block_ptr b o) γs = beside (said (fit γs)) (shared_row b o γs)
  row_shares null_ptr γs = said ffalse

  -- the allocator's right to free the block of n slots
  abbrev pub deed_owns : (Ty → Ptr → Fml) → Ptr → ℕ → Fml
  deed_owns right p n = right (raw (ty_array (lone R.mir) n)) p
