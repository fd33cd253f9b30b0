-- A right that was given up with a value in its slot. Nobody has it twice, so who keeps it knows that no other number has the slot.
use Rattle.std.specs.Prelude.{ℕ, List, [], ◌∷◌, Some}
use base.Fml.{GName, Fml, ftrue, fsep, fex, fres, fown}
use denote.RattleType.{RattleType}
use Rattle.table_slab.specs.Rights.{once, mark}
use Rattle.table_slab.specs.Shelved.{Spot, IsSpot, chunk}
use Rattle.table_slab.specs.Slabs.{SlabView}

module _ (R : RattleType) where
  -- ε is the name of the element that has one owner
  abbrev pub spent_as : GName → R.Denot → GName → Fml
  spent_as γ x ε = fsep (fres γ (mark R ε (Some x))) (fown once ε tt)

  -- the slot γ holds x for good, and nobody has the right to it
  abbrev pub spent_room : GName → R.Denot → Fml
  spent_room γ x = fex GName (spent_as γ x)

module _ (R : RattleType) (s : SlabView) (number : ℕ) where
  abbrev pub spent_at : R.Denot → Spot → Fml
  spent_at x z = fsep (chunk z.cell z.names) (fsep (spent_room R z.of x) (fex (IsSpot s number z) (λ _. ftrue)))

  -- the number holds x for good, and nobody has the right to it
  abbrev pub spent : R.Denot → Fml
  spent x = fex Spot (spent_at x)

module _ (R : RattleType) (s : SlabView) where
  -- the same of each of these numbers, with the value that it holds
  abbrev pub spents : List (ℕ × R.Denot) → Fml
  spents [] = ftrue
  spents (e ∷ es) = fsep (spent R s e.0 e.1) (spents es)
