-- What the fast structures of the code know.
use Rattle.std.specs.Prelude.{ℕ, ◌≡◌, List, Option, Some, nat_eq}
use Rattle.std.specs.HashMap as map
use Rattle.std.specs.HashMap.{HashMap}
use Rattle.std.specs.HashSet as set
use Rattle.std.specs.HashSet.{HashSet}
use Rattle.table_core.specs.Calls.{Call, is_used_value}
use Rattle.table_core.specs.Bound.{position_of, sharing_among, owning_among, Doubles, capacities}
use Rattle.table_core.specs.Generations.{Gen, entries_of, last_of}
use Rattle.table_terms.specs.Capacities.{IsFirstCapacity}
use Rattle.table_core.specs.declared.generation.Entry.{Entry}

-- where each call stands, which values are used, and how many calls hold the lock
pub record IsIndexed {S T : Type 0} (calls : List Call) (positions : HashMap ℕ ℕ S)
    (values : HashSet ℕ T) (sharing owning : ℕ) : Type 0 where
  pub numbered : (n : ℕ) → map.get nat_eq positions n ≡ position_of n calls
  pub valued : (v : ℕ) → set.contains nat_eq values v ≡ is_used_value v calls
  pub shared : sharing ≡ sharing_among calls
  pub owned : owning ≡ owning_among calls

-- the generations of a table, the one being built, and the entries that are copied into it
pub record IsTable (first : ℕ) (gens : List Gen) (growing : Option Gen)
    (source : List Entry) : Type 0 where
  pub allowed : IsFirstCapacity first
  pub doubles : Doubles first (capacities gens growing)
  pub copies : (g : Gen) → growing ≡ Some g → source ≡ entries_of (last_of gens)
