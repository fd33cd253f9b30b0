-- Where a probe passed every bucket, each of them is set.
use Rattle.std.proofs.Common.{◌≡◌, ℕ, ◌+◌, ◌-◌, ◌%◌, Bool, ◌<◌, inl, inr, List, Option, length, sym, ◌∙◌, arith}
use Rattle.std.proofs.lemmas.Bool.{cases_lt}
use Rattle.std.proofs.Math.Nat.{mod-add-mod, add-mod_right, mod-eq_of_lt, mod-lt}
use Rattle.table_generations.specs.Buckets.{values}
use Rattle.table_generations.specs.Probe.{IsPassed}
use Rattle.table_terms.specs.Probes.{bucket_at}
use Rattle.table_cell.specs.declared.bucket.Entry.{Entry}
use Rattle.table_generations.proofs.Entries.{all_set}

module _ {X : Type 0} (ps : List (Option X)) (hash : ℕ) where
  -- each bucket lies on the way of each hash
  way_to : (i : ℕ) → i < length ps → (k : ℕ) × (k < length ps) × (bucket_at (length ps) hash k ≡ i)
  way_to i lt =
      let n : ℕ = length ps in
      let r : ℕ = hash % n in
      let below : r < n = mod-lt hash (let h : 0 < n = omega arith in h) in
      elim (cases_lt i r) [
        | inl before ↦ (i + n - r, (omega arith), sym (mod-add-mod hash n (i + n - r)) ∙ (let e : r + (i + n - r) ≡ i + n = omega arith in rw e (add-mod_right i n ∙ mod-eq_of_lt lt)))
        | inr behind ↦ (i - r, (omega arith), sym (mod-add-mod hash n (i - r)) ∙ (let e : r + (i - r) ≡ i = omega arith in rw e (mod-eq_of_lt lt)))
      ]

-- where a probe passed every bucket, each bucket is set
pub full_values : {T U : Type 0} (target : T → U) (answers : U → Bool → Type 0) (ps : List (Option (Entry T))) (hash : ℕ) → IsPassed target answers ps hash (length ps) → length (values ps) ≡ length ps
full_values target answers ps hash passed = all_set ps (λ i lt.
    let w = way_to ps hash i lt in
    let a = passed.refused w.0 w.1 in
    (a.entry, rw w.2 at a.held))
