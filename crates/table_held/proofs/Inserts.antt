-- A lawful insert keeps the generation lawful, and places or refuses a value only where no entry is the same.
use Rattle.std.proofs.Common.{◌≡◌, cond, ℕ, ◌<◌, Bool, false, Some, length, sym, ap, ◌∙◌, subst, inl, inr}
use Rattle.std.specs.Prelude.{slice_set, Contains}
use Rattle.std.proofs.lemmas.Bool.{cases_Bool}
use Rattle.std.proofs.lemmas.List.Sorted.{sum_by-IsPermutation}
use Rattle.table_terms.specs.Laws.{IsLaw}
use Rattle.table_terms.specs.Hashes.{bits_of}
use Rattle.table_generations.specs.Buckets.{value_at}
use Rattle.table_generations.specs.Ways.{IsReached, IsLawfulFor}
use Rattle.table_generations.specs.Probe.{IsPassed, IsVacant}
use Rattle.table_generations.specs.Growth.{entry_of}
use Rattle.table_held.specs.Held.{IsLawfulInsert, IsNew}
use Rattle.table_held.specs.Table.{HeldTable, IsLawful, entries, marked}
use Rattle.table_cell.specs.declared.bucket.Entry.{Entry}
use Rattle.table_generations.proofs.Entries.{values-set, place_of, contains_value, entry_with}
use Rattle.table_held.proofs.Apart.{apart_more}
use Rattle.table_generations.proofs.Laws.{before_vacant, passed_refuses, reached_after, marked_after}

module _ {T U : Type 0} (target : T → U) (same : U → U → Bool) (hash_of : U → ℕ) (law : IsLaw same hash_of) where
  -- a lawful insert into the table t
  module _ (eq : U → U → Bool → Type 0) (rehash : U → ℕ → Type 0) (t : HeldTable T) (hash : ℕ) (value : T)
      (l : IsLawfulInsert target same hash_of eq rehash (IsLawful target same hash_of t) (entries t) hash value) where
    asks : (e : Entry T) (answer : Bool) → Contains (marked t) e → eq (target value) (target e.value) answer → answer ≡ same (target value) (target e.value)
    asks e answer h a = l.eq_is e.value answer (contains_value (marked t) e h) a

    not_passed : (d : ℕ) → IsPassed target (eq (target value)) t.buckets hash d → (far : (j : ℕ) (e : Entry T) → value_at t.buckets j ≡ Some e → (r : IsReached t.buckets hash j) → r.steps < d)
        → (e : Entry T) → Contains (marked t) e → same (target value) (target e.value) ≡ false
    not_passed d passed far e h = elim (cases_Bool (same (target value) (target e.value))) [
      | inl found ↦ (let at = place_of t.buckets e h in
          let hashed : hash ≡ hash_of (target e.value) = l.hash_is ∙ law.agrees _ _ found in
          let r = subst (λ n. IsReached t.buckets n at.0) (sym hashed) (l.table_is.reached at.0 e at.1) in
          let bits : e.bits ≡ bits_of hash = l.table_is.marked at.0 e at.1 ∙ sym (ap bits_of hashed) in
          passed_refuses target (eq (target value)) t.buckets hash (λ x. same (target value) x) asks d passed at.0 e at.1 bits r (far at.0 e at.1 r))
      | inr f ↦ f
    ]

    unlike_at_vacant : (i : ℕ) → IsVacant target (eq (target value)) t.buckets hash i → (e : Entry T) → Contains (marked t) e → same (target value) (target e.value) ≡ false
    unlike_at_vacant i v = not_passed v.steps v.passed (λ j e at r. before_vacant target (eq (target value)) t.buckets hash i v.steps v.is v.vacant j e at r)

    is_new : ((e : Entry T) → Contains (marked t) e → same (target value) (target e.value) ≡ false) → IsNew target same hash_of (entries t) value
    is_new unlike v h = let x = entry_with (marked t) v h in rw (← x.2) (unlike x.0 x.1)

    -- where the probe ended at an empty bucket, or passed every bucket, no entry is the same as the value
    pub new_at_vacant : (i : ℕ) → IsVacant target (eq (target value)) t.buckets hash i → IsNew target same hash_of (entries t) value
    new_at_vacant i v = is_new (unlike_at_vacant i v)

    pub new_if_full : IsPassed target (eq (target value)) t.buckets hash (length t.buckets) → IsNew target same hash_of (entries t) value
    new_if_full passed = is_new (not_passed (length t.buckets) passed (λ j e at r. r.within))

    -- the value's entry in that empty bucket keeps the generation lawful
    pub lawful_after : (i : ℕ) → IsVacant target (eq (target value)) t.buckets hash i → i < length t.buckets → IsLawfulFor target same hash_of (slice_set t.buckets i (Some (entry_of value hash)))
    lawful_after i v fits = record {
      reached = reached_after target (eq (target value)) t.buckets hash hash_of i (entry_of value hash) fits v l.hash_is l.table_is.reached;
      marked = marked_after target hash_of t.buckets i (entry_of value hash) fits (ap bits_of l.hash_is) l.table_is.marked;
      apart = λ x. rw (sum_by-IsPermutation (λ e. cond (same x (target e.value)) 1 0) _ _ (values-set t.buckets i (entry_of value hash) fits v.vacant))
          (apart_more (λ (e : Entry T). target e.value) same hash_of law (marked t) l.table_is.apart (entry_of value hash) (unlike_at_vacant i v) x);
    }
