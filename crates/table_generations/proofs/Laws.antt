-- What a probe says of the buckets on its way, and that a set bucket stays on it.
use Rattle.std.proofs.Common.{◌≡◌, ℕ, ◌+◌, ◌<◌, ◌%◌, Bool, false, List, Option, Some, None, length, sym, ap, ◌∙◌, subst, arith, inl, inr, get_or-set_other, get_or-set_same}
use Rattle.std.specs.Prelude.{slice_set, Contains}
use Rattle.std.proofs.lemmas.Bool.{cases_lt, cases_eq}
use Rattle.std.proofs.lemmas.List.{length-set}
use Rattle.table_terms.specs.Hashes.{bits_of}
use Rattle.table_terms.specs.Probes.{bucket_at}
use Rattle.table_generations.specs.Buckets.{values, value_at}
use Rattle.table_generations.specs.Ways.{IsHeld, IsReached, AllReached, AllMarked}
use Rattle.table_generations.specs.Probe.{IsPassed, IsVacant}
use Rattle.table_cell.specs.declared.bucket.Entry.{Entry}
use Rattle.table_generations.proofs.Entries.{Contains-values, some_same, not_both, value_at-set}

module _ {X : Type 0} where
  -- a bucket that is set stays set where an empty one is set
  held_set : (ps : List (Option X)) (i j : ℕ) (v : X) → i < length ps → IsHeld ps j → IsHeld (slice_set ps i (Some v)) j
  held_set ps i j v lt (w, e) = elim (cases_eq j i) [
    | inl same ↦ (v, rw same (get_or-set_same ps i (Some v) None lt))
    | inr other ↦ (w, get_or-set_other ps i j (Some v) None other ∙ e)
  ]

  bucket_at-set : (ps : List (Option X)) (i hash k : ℕ) (v : X) → bucket_at (length (slice_set ps i (Some v))) hash k ≡ bucket_at (length ps) hash k
  bucket_at-set ps i hash k v = ap (λ n. (hash + k) % n) (length-set ps i (Some v))

  -- a bucket that is reached stays reached where an empty one is set
  reached_set : (ps : List (Option X)) (i j hash : ℕ) (v : X) → i < length ps → IsReached ps hash j → IsReached (slice_set ps i (Some v)) hash j
  reached_set ps i j hash v lt r = record {
    steps = r.steps;
    within = rw length-set r.within;
    is = r.is ∙ sym (bucket_at-set ps i hash r.steps v);
    way = λ k h. rw (bucket_at-set ps i hash k v) (held_set ps i _ v lt (r.way k h));
  }

module _ {T U : Type 0} (target : T → U) (answers : U → Bool → Type 0) (ps : List (Option (Entry T))) (hash : ℕ) where
  -- where a probe ended at an empty bucket, that bucket is one of the generation
  pub vacant_fits : (i : ℕ) → 0 < length ps → IsVacant target answers ps hash i → i < length ps
  vacant_fits i room v = rw v.is (omega arith)

  -- an empty bucket where a probe ended is reached by its hash
  vacant_reached : (i : ℕ) → IsVacant target answers ps hash i → IsReached ps hash i
  vacant_reached i v = record { steps = v.steps; within = v.within; is = v.is; way = λ k h. (let a = v.passed.refused k h in (a.entry, a.held)) }

  -- no entry reached by this hash stands at or behind the first empty bucket
  pub before_vacant : (i : ℕ) → (d : ℕ) → i ≡ bucket_at (length ps) hash d → value_at ps i ≡ None → (j : ℕ) (w : Entry T) → value_at ps j ≡ Some w → (r : IsReached ps hash j) → r.steps < d
  before_vacant i d at vacant j w e r = elim (cases_lt r.steps d) [
    | inl lt ↦ lt
    | inr ge ↦ absurd (elim (cases_eq d r.steps) [
      | inl same ↦ not_both w (value_at ps i) (rw (at, same, ← r.is) e) vacant
      | inr other ↦ (let h = r.way d (omega arith) in not_both h.0 (value_at ps i) (rw at h.1) vacant)
    ])
  ]

  module _ (p : U → Bool)
      (asks : (e : Entry T) (answer : Bool) → Contains (values ps) e → answers (target e.value) answer → answer ≡ p (target e.value)) where
    -- an entry with the bits of the hash that a probe has passed was not accepted
    pub passed_refuses : (d : ℕ) → IsPassed target answers ps hash d → (j : ℕ) (w : Entry T) → value_at ps j ≡ Some w → w.bits ≡ bits_of hash → (r : IsReached ps hash j) → r.steps < d → p (target w.value) ≡ false
    passed_refuses d passed j w e marked r lt =
        let a = passed.refused r.steps lt in
        let same : a.entry ≡ w = some_same _ _ (value_at ps j) (rw r.is a.held) e in
        elim a.refused [
          | inl other ↦ absurd (other (rw same marked))
          | inr refused ↦ (let q : false ≡ p (target a.entry.value) = asks a.entry false (Contains-values ps _ _ a.held) refused in rw same at (sym q))
        ]

  -- an entry in the first empty bucket of its hash keeps every entry reached
  pub reached_after : (hash_of : U → ℕ) (i : ℕ) (e : Entry T) → i < length ps → IsVacant target answers ps hash i → hash ≡ hash_of (target e.value) → AllReached target hash_of ps → AllReached target hash_of (slice_set ps i (Some e))
  reached_after hash_of i e fits v is all j w h =
      let after : List (Option (Entry T)) = slice_set ps i (Some e) in
      let here : IsReached after hash i = reached_set ps i i hash e fits (vacant_reached i v) in
      elim (value_at-set ps i e fits j w h) [
        | inl new ↦ subst (λ x. IsReached after (hash_of (target x.value)) j) (sym new.1) (subst (λ n. IsReached after n j) is (rw new.0 here))
        | inr old ↦ reached_set ps i j _ e fits (all j w old.1)
      ]

-- an entry with the bits of its hash keeps every entry marked
pub marked_after : {T U : Type 0} (target : T → U) (hash_of : U → ℕ) (ps : List (Option (Entry T))) (i : ℕ) (e : Entry T) → i < length ps → e.bits ≡ bits_of (hash_of (target e.value)) → AllMarked target hash_of ps → AllMarked target hash_of (slice_set ps i (Some e))
marked_after target hash_of ps i e fits is all j w h = elim (value_at-set ps i e fits j w h) [
  | inl new ↦ rw new.1 is
  | inr old ↦ all j w old.1
]
