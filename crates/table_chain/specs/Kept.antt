-- What stands beside a history: the right to the number of each value, given up, so that the value lies in the slab for good. The names are the slab's.
use Rattle.std.specs.Prelude.{ℕ, zero, suc, List, [], ◌∷◌, Option, Some, None}
use base.Fml.{Fml, ftrue, fsep}
use denote.RattleType.{RattleType}
use Rattle.table_slab.specs.Shelved.{slab_of, right}
use Rattle.table_slab.specs.Spent.{spent}
use Rattle.table_chain.specs.declared.event.Event.{Event}
use Rattle.table_chain.specs.declared.event.Stored.{Stored}
use Rattle.table_chain.specs.declared.event.Stored.TheVariants.{Shown, End}

module _ (R : RattleType) (names : List ℕ) where
  abbrev pub kept_in : ℕ → Option (Stored R.Denot) → Fml
  kept_in k None = ftrue
  kept_in k (Some (Shown x)) = spent R (slab_of names) k x
  kept_in k (Some End) = ftrue

  abbrev pub all_kept : List (Event R.Denot) → Fml
  all_kept [] = ftrue
  all_kept (e ∷ es) = fsep (kept_in e.number e.value) (all_kept es)

  -- the right to what an entry asks for
  abbrev pub right_in : ℕ → Option (Stored R.Denot) → Fml
  right_in k None = ftrue
  right_in k (Some (Shown x)) = right R (slab_of names) k (Some x)
  right_in k (Some End) = ftrue

  abbrev pub right_of : List (Event R.Denot) → Fml
  right_of [] = ftrue
  right_of (e ∷ es) = right_in e.number e.value

  -- what a client gets back: the right as it was, where its update did not run, and else nothing
  abbrev pub traded : List (Event R.Denot) → ℕ → Fml
  traded about zero = right_of about
  traded about (suc n) = ftrue
