-- A held table without entries is lawful: what the raw table promises as a table held alone.
use Rattle.std.specs.Prelude.{◌≡◌, ℕ, zero, suc, List, [], ◌∷◌, Option, Some, None}
use Rattle.std.proofs.Common.{arith}
use Rattle.std.proofs.lemmas.List.{length-map, nil_from_length}
use Rattle.table_generations.specs.Buckets.{values, value_at}
use Rattle.table_held.specs.Shown.{LawfulWithoutEntries}
use Rattle.table_held.specs.Table as table
use Rattle.table_held.specs.Table.{held}

module _ {X : Type 0} where
  -- where nothing is there of a list of places, no place holds anything
  none_at : (ps : List (Option X)) (i : ℕ) (v : X) → values ps ≡ [] → value_at ps i ≡ Some v → ⊥
  none_at [] i v n e = cc
  none_at (None ∷ ps) zero v n e = cc
  none_at (None ∷ ps) (suc i) v n e = none_at ps i v n e
  none_at (Some w ∷ ps) i v n e = cc

pub held_without_entries : {T U : Type 0} (target : T → U) → LawfulWithoutEntries held target
held_without_entries target t none same hash_of =
    let nothing : table.marked t ≡ [] = nil_from_length (table.marked t) (rw length-map at none) in
    record {
      reached = λ i e h. absurd (none_at t.buckets i e nothing h);
      marked = λ i e h. absurd (none_at t.buckets i e nothing h);
      apart = λ x. rw nothing (omega arith);
    }
