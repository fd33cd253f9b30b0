-- What a word holds says the same to every thread.
use Rattle.std.proofs.Common.{ℕ, Bool, true, false, Option, Some, None, ◌∷◌, []}
use mir.Raw.{raw}
use mir.Syntax.{Ty}
use base.Fml.{Fml}
use base.Fraction.{full_share}
use base.Shift.{Keyless}
use denote.RattleType.{RattleType}
use denote.Memory.{lone}
use denote.RawPtr.{Ptr, block_ptr, null_ptr}
use denote.Param.Send.{IsSend, IsSync, part_keyless}
use Rattle.table_cell.specs.Notes.{learnt}
use Rattle.table_cell.specs.Words.{tested, right, blank, fixes, kept}
use Rattle.table_cell.specs.Latest.{last}

module _ (R : RattleType) (i : ℕ) where
  pub learnt_keyless : (k : Option R.Denot) → Keyless (learnt R i k)
  learnt_keyless None = tt
  learnt_keyless (Some x) = tt

  blank_keyless : (v : Option R.Denot) → Keyless (blank R i v)
  blank_keyless None = (tt, tt)
  blank_keyless (Some x) = tt

  fixes_keyless : (v : Option R.Denot) (x : R.Denot) → Keyless (fixes R i v x)
  fixes_keyless None x = (tt, tt)
  fixes_keyless (Some y) x = tt

module _ (R : RattleType) (s : IsSend R) (y : IsSync R) (k : Ty → Ptr → Fml) (frees : (t : Ty) (p : Ptr) → Keyless (k t p)) (h : ℕ) where
  tested_keyless : (v : Option R.Denot) (p : Ptr) → Keyless (tested v p)
  tested_keyless None p = λ _. tt
  tested_keyless (Some x) p = tt

  right_keyless : (w : Bool) (b o : ℕ) (x : R.Denot) (ν : ℕ) → Keyless (right R k h w (block_ptr b o) x ν)
  right_keyless true b o x ν = (part_keyless R s full_share x b o, frees (raw (lone R.mir)) (block_ptr b o))
  right_keyless false b o x ν = tt

  pub kept_keyless : (i : ℕ) (w : Bool) (v : Option R.Denot) (Q : R.Denot → Type 0) (p : Ptr) → Keyless (kept R k h i w v Q p)
  kept_keyless i w v Q null_ptr = λ _. blank_keyless R i v
  kept_keyless i w v Q (block_ptr b o) = (tested_keyless v (block_ptr b o), λ t. ((tt, (tt, y.shared t.0 b o (t.1 ∷ h ∷ []))), (right_keyless w b o t.0 t.1, λ _. fixes_keyless R i v t.0)))

pub last_keyless : (R : RattleType) → IsSync R → (h i : ℕ) (Q : R.Denot → Type 0) (p : Ptr) → Keyless (last R h i Q p)
last_keyless R y h i Q null_ptr = (tt, tt)
last_keyless R y h i Q (block_ptr b o) = ((tt, tt), (λ _. tt, λ x. ((tt, y.shared x b o (h ∷ [])), λ _. tt)))
