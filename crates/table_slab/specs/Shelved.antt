-- What a history keeps of a number of a slab: the right to it, or that it holds a value for good. A slot that has the number says where both are.
use Rattle.std.specs.Prelude.{ℕ, List, [], ◌∷◌, Option, Some}
use Rattle.std.specs.Coded.{Coded, coded_option, coded_list, coded_ℕ}
use base.Stored.{coded_via}
use base.Fml.{Fml, ftrue, fsep, fex, fres}
use denote.RattleType.{RattleType}
use Rattle.table_slab.specs.Rights.{room, written}
use Rattle.table_slab.specs.Slabs.{SlabView, IsSlot}

-- a slab as a list of numbers, and back
abbrev pub names_of : SlabView → List ℕ
names_of s = s.bits ∷ s.cells

abbrev pub slab_of : List ℕ → SlabView
slab_of [] = record { bits = 0; cells = [] }
slab_of (bits ∷ cells) = record { bits = bits; cells = cells }

abbrev pub coded_slab : Coded SlabView
coded_slab = coded_via (coded_list coded_ℕ) names_of (λ s t e i. slab_of (e i))

-- a cell, the names of the slots of the chunk that it holds, and one of them
pub record Spot : Type 0 where
  pub cell : ℕ
  pub names : List ℕ
  pub of : ℕ

-- the slot is the one of this number
abbrev pub IsSpot : SlabView → ℕ → Spot → Type 0
IsSpot s number z = IsSlot s number z.cell z.names z.of

-- the cell holds a chunk whose slots have these names, for good
abbrev pub chunk : ℕ → List ℕ → Fml
chunk cell names = fres cell ((coded_option (coded_list coded_ℕ)).code (Some names))

module _ (R : RattleType) (s : SlabView) (number : ℕ) where
  abbrev pub right_at : Option R.Denot → Spot → Fml
  right_at v z = fsep (chunk z.cell z.names) (fsep (room R z.of v) (fex (IsSpot s number z) (λ _. ftrue)))

  abbrev pub standing_at : R.Denot → Spot → Fml
  standing_at x z = fsep (chunk z.cell z.names) (fsep (written R z.of x) (fex (IsSpot s number z) (λ _. ftrue)))

  -- the right to the number, with what lies there
  abbrev pub right : Option R.Denot → Fml
  right v = fex Spot (right_at v)

  -- the number holds x for good
  abbrev pub standing : R.Denot → Fml
  standing x = fex Spot (standing_at x)
