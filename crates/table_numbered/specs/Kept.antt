-- What stands beside a history: that each entry lies in its slot for good. The names are those of the slab.
use Rattle.std.specs.Prelude.{ℕ, zero, suc, List, [], ◌∷◌, Option, Some, None}
use base.Fml.{Fml, ftrue, fsep}
use denote.RattleType.{RattleType}
use Rattle.table_slab.specs.Shelved.{slab_of, right, standing}
use Rattle.table_slab.specs.Spent.{spent}
use Rattle.table_numbered.specs.declared.event.Event.{Event}
use Rattle.table_numbered.specs.declared.event.Stored.{Stored}
use Rattle.table_numbered.specs.declared.event.Stored.TheVariants.{Entry, Closed}
use Rattle.table_numbered.specs.declared.event.Numbered.{Numbered}

module _ (R : RattleType) (names : List ℕ) where
  abbrev pub kept_in : Option (Stored (Numbered R.Denot)) → Fml
  kept_in None = ftrue
  kept_in (Some (Entry e)) = standing R (slab_of names) e.number e.value
  kept_in (Some Closed) = ftrue

  abbrev pub all_kept : List (Event (Stored (Numbered R.Denot))) → Fml
  all_kept [] = ftrue
  all_kept (e ∷ es) = fsep (kept_in e.value) (all_kept es)

  -- the right to the slot of an entry
  abbrev pub right_in : Option (Stored (Numbered R.Denot)) → Fml
  right_in None = ftrue
  right_in (Some (Entry e)) = right R (slab_of names) e.number (Some e.value)
  right_in (Some Closed) = ftrue

  abbrev pub right_of : List (Event (Stored (Numbered R.Denot))) → Fml
  right_of [] = ftrue
  right_of (e ∷ es) = right_in e.value

  -- what is left of that right once it is given up
  abbrev pub receipt_in : Option (Stored (Numbered R.Denot)) → Fml
  receipt_in None = ftrue
  receipt_in (Some (Entry e)) = spent R (slab_of names) e.number e.value
  receipt_in (Some Closed) = ftrue

  abbrev pub receipt_of : List (Event (Stored (Numbered R.Denot))) → Fml
  receipt_of [] = ftrue
  receipt_of (e ∷ es) = receipt_in e.value

  -- what a client has once its update has run: the receipt of the entry that it asked for, or the right as it was
  abbrev pub traded : List (Event (Stored (Numbered R.Denot))) → ℕ → Fml
  traded about zero = right_of about
  traded about (suc n) = receipt_of about
