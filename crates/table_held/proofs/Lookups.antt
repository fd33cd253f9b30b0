-- A look-up shows an entry that its test accepted, and one that finds nothing has met every entry that it accepts.
use Rattle.std.proofs.Common.{◌≡◌, ℕ, ◌<◌, Bool, [], Some, length, refl, ap, ◌∙◌, subst, arith, inl, inr}
use Rattle.std.proofs.lemmas.Bool.{cases_Bool}
use Rattle.table_terms.specs.Hashes.{bits_of}
use Rattle.table_generations.specs.Buckets.{value_at}
use Rattle.table_generations.specs.Ways.{IsReached}
use Rattle.table_generations.specs.Probe.{IsPassed, IsAccepted, IsVacant, ProbeGives}
use Rattle.table_generations.specs.declared.fixed.ProbeEnd.{ProbeEnd}
use Rattle.table_generations.specs.declared.fixed.ProbeEnd.TheVariants.{Accepted, Vacant, Full}
use Rattle.std.specs.Borrow.{Bor}
use Rattle.table_held.specs.Held.{FindsOne, FindsNone}
use Rattle.table_held.specs.Table.{HeldTable, IsLawful, entries, marked}
use Rattle.table_cell.specs.declared.bucket.Entry.{Entry}
use Rattle.table_generations.proofs.Entries.{Contains-values, place_of, some_same, contains_value, entry_with}
use Rattle.table_generations.proofs.Laws.{before_vacant, passed_refuses}

module _ {T U : Type 0} (target : T → U) (same : U → U → Bool) (hash_of : U → ℕ) (answers : U → Bool → Type 0) (t : HeldTable T) (hash : ℕ) where
  -- no entry is accepted by a lawful test
  abbrev none_found : Type 0
  none_found = FindsNone target same hash_of answers (IsLawful target same hash_of t) (entries t) hash

  none_passed : (d : ℕ) → IsPassed target answers t.buckets hash d → (far : (j : ℕ) (e : Entry T) → value_at t.buckets j ≡ Some e → (r : IsReached t.buckets hash j) → r.steps < d) → none_found
  none_passed d passed far p l v h = elim (cases_Bool (p (target v))) [
    | inl found ↦ (let x = entry_with (marked t) v h in
        let at = place_of t.buckets x.0 x.1 in
        let hashed : hash_of (target x.0.value) ≡ hash = rw x.2 (l.hash_is v h found) in
        let r = subst (λ n. IsReached t.buckets n at.0) hashed (l.table_is.reached at.0 x.0 at.1) in
        let bits : x.0.bits ≡ bits_of hash = l.table_is.marked at.0 x.0 at.1 ∙ ap bits_of hashed in
        rw (← x.2) (passed_refuses target answers t.buckets hash p (λ e a k. l.test_is e.value a (contains_value (marked t) e k)) d passed at.0 x.0 at.1 bits r (far at.0 x.0 at.1 r)))
    | inr f ↦ f
  ]

  none_at_vacant : (i : ℕ) → IsVacant target answers t.buckets hash i → none_found
  none_at_vacant i v = none_passed v.steps v.passed (λ j e at r. before_vacant target answers t.buckets hash i v.steps v.is v.vacant j e at r)

  none_if_full : IsPassed target answers t.buckets hash (length t.buckets) → none_found
  none_if_full passed = none_passed (length t.buckets) passed (λ j e at r. r.within)

  pub none_if_empty : t.buckets ≡ [] → none_found
  none_if_empty e p l v (k, lt, q) = absurd (let none : length (entries t) ≡ 0 = rw e refl in omega arith)

  pub found_one : (i : ℕ) (shown : U) (e : Entry T) → IsAccepted target answers t.buckets hash i → value_at t.buckets i ≡ Some e → shown ≡ target e.value → FindsOne target answers (entries t) shown
  found_one i shown e a at is = record {
    entry = e.value;
    among = contains_value (marked t) e (Contains-values t.buckets i e at);
    shown_is = is;
    accepted = (let one : a.accepted.entry ≡ e = some_same _ _ _ a.accepted.held at in rw one at a.accepted.accepted);
  }

  -- a probe that accepts nothing finds none
  pub none_unless_accepted : (s : ProbeEnd T) → ProbeGives target answers t.buckets hash s → ((i : ℕ) (e : Bor (Entry T)) → s ≡ Accepted i e → ⊥) → none_found
  none_unless_accepted (Accepted i e) gives no_accepted = absurd (no_accepted i e refl)
  none_unless_accepted (Vacant i) gives no_accepted = none_at_vacant i gives
  none_unless_accepted Full gives no_accepted = none_if_full gives
