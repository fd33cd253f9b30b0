-- What becomes of values that threads insert.
use Rattle.std.specs.Prelude.{◌≡◌, ℕ, ◌+◌, ◌≤◌, ◌++◌, Bool, true, List, length, vec_capacity, Contains}
use Rattle.std.specs.declared.vec.Vec.{Vec}
use Rattle.std.specs.List.{flat_map}
use Rattle.std.specs.List.Sorted.{IsPermutation}
use Rattle.table_terms.specs.Laws.{AllApart}
use Rattle.table_numbered.specs.History.{History, IsEntry}
use Rattle.table_numbered.specs.declared.event.Numbered.{Numbered}
use Rattle.shared_set.specs.Known.{SharedView, SomePasses}
use Rattle.shared_set.specs.Accounts.{placed_values}
use Rattle.demo_examples.specs.declared.accounts.Work.{Work}

-- the values of all lists
abbrev pub handed_in : {V A : Type 0} → List (Vec V A) → List V
handed_in lists = flat_map (λ (list : Vec _ _). list.items) lists

module _ {V L A : Type 0} where
  -- the values that were placed, found and refused
  abbrev pub worked : Work V L A → List V
  worked w = placed_values w.account ++ (w.found.items ++ w.refused.items)

  -- so many more values fit into either list without a request for memory
  abbrev pub HasRoom : ℕ → Work V L A → Type 0
  HasRoom n w = (length w.found.items + n ≤ vec_capacity w.found) × (length w.refused.items + n ≤ vec_capacity w.refused)

module _ {V : Type 0} (same : V → V → Bool) where
  -- each of the values is the same as an entry
  abbrev pub AreFound : History (Numbered V) → List V → Type 0
  AreFound log found = (v : V) → Contains found v → SomePasses (same v) (IsEntry log)

  -- work on this set: what was found is known to the account
  pub record IsWork {L A : Type 0} (set : SharedView) (w : Work V L A) : Type 0 where
    pub of : w.account.of ≡ set
    pub found : AreFound w.account.history w.found.items

  -- one of the values is the same as this one
  abbrev pub HasSame : List V → V → Type 0
  HasSame values v = (w : V) × Contains values w × (same v w ≡ true)

  -- what became of the values that were given: each came out, was found or was refused, once, and nothing else came out; no two that came
  -- out are the same; and for each that was found the same one came out
  pub record AreAccounted (given out found refused : List V) : Type 0 where
    pub all : IsPermutation given (out ++ (found ++ refused))
    pub apart : AllApart same out
    pub same_out : (v : V) → Contains found v → HasSame out v
