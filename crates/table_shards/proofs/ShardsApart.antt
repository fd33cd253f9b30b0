-- No two entries over all shards are the same: equal ones have one hash, and so lie in one shard.
use Rattle.std.proofs.Common.{◌≡◌, ℕ, zero, suc, ◌<◌, ◌≤◌, Bool, true, List, [], ◌∷◌, length, sym, ap, ◌∙◌, arith, inl, inr, get_or}
use Rattle.std.specs.Prelude.{Contains, count_by}
use Rattle.std.specs.List.{flat_map}
use Rattle.std.proofs.lemmas.Bool.{cases_Bool}
use Rattle.std.proofs.lemmas.List.Sums.{sum_by-append}
use Rattle.table_cell.specs.declared.bucket.Entry.{Entry}
use Rattle.table_generations.proofs.Entries.{contains_value}
use Rattle.table_terms.specs.Laws.{IsLaw, AllApart}
use Rattle.table_held.specs.Table as table
use Rattle.table_held.specs.Table.{HeldTable, empty_table}
use Rattle.table_shards.specs.Shards.{AreLawful, shard_of, shard_at, marked}
use Rattle.table_held.proofs.Apart.{none_counts}
use Rattle.table_shards.proofs.Shards.{flat_map-Contains}

module _ {X V : Type 0} (f : X → List V) (passes : V → Bool) (d : X) where
  -- none passes, where none of an element's does
  none_there : (vs : List V) → ((v : V) → Contains vs v → passes v ≡ true → ⊥) → count_by passes vs ≡ 0
  none_there vs none = none_counts passes vs (λ v among. elim (cases_Bool (passes v)) [
    | inl passed ↦ absurd (none v among passed)
    | inr not_passed ↦ not_passed
  ])

  -- where all that pass are of one element, of which one passes, one passes of all
  one_of_all : (xs : List X) (home : ℕ) → ((k : ℕ) (v : V) → k < length xs → Contains (f (get_or xs k d)) v → passes v ≡ true → k ≡ home)
      → ((k : ℕ) → k < length xs → count_by passes (f (get_or xs k d)) ≤ 1) → count_by passes (flat_map f xs) ≤ 1
  one_of_all [] home at_home few = omega arith
  one_of_all (x ∷ xs) zero at_home few =
      let rest : count_by passes (flat_map f xs) ≡ 0 = none_there (flat_map f xs) (λ v among passed.
      let at = flat_map-Contains f xs d v among in
      let same : suc at.0 ≡ zero = at_home (suc at.0) v (omega (arith, at.1)) at.2 passed in omega arith) in
      let here : count_by passes (f x) ≤ 1 = few zero (omega arith) in
      rw sum_by-append (omega arith)
  one_of_all (x ∷ xs) (suc home) at_home few =
      let here : count_by passes (f x) ≡ 0 = none_there (f x) (λ v among passed. let same : zero ≡ suc home = at_home zero v (omega arith) among passed in omega arith) in
      let rest : count_by passes (flat_map f xs) ≤ 1 = one_of_all xs home (λ k v within among passed. let same : suc k ≡ suc home = at_home (suc k) v (omega arith) among passed in omega arith) (λ k within. few (suc k) (omega arith)) in
      rw sum_by-append (omega arith)

pub shards_apart : {T U : Type 0} (target : T → U) (same : U → U → Bool) (hash_of : U → ℕ) → IsLaw same hash_of
    → (ts : List (HeldTable T)) → AreLawful target same hash_of ts → AllApart (λ y (e : Entry T). same y (target e.value)) (marked ts)
shards_apart {T} target same hash_of law ts lawful y =
    one_of_all table.marked (λ (e : Entry T). same y (target e.value)) (empty_table 0) ts (shard_of (length ts) (hash_of y))
    (λ k e within among passed. sym (lawful.home k e.value within (contains_value (table.marked (shard_at ts k)) e among)) ∙ ap (λ h. shard_of (length ts) h) (sym (law.agrees y (target e.value) passed)))
    (λ k within. (lawful.each k within).apart y)
