-- A generation that is made of another's entries keeps them, and each is reached.
use Rattle.std.proofs.Common.{◌≡◌, ℕ, zero, suc, ◌+◌, ◌-◌, ◌<◌, ◌≤◌, inl, inr, List, [], ◌∷◌, ◌++◌, Some, None, length, take, refl, ◌∙◌, arith, replicate}
use Rattle.std.specs.Prelude.{slice_set, ⊤}
use Rattle.std.proofs.lemmas.List.{map-set, append-nil}
use Rattle.std.proofs.lemmas.List.Elements.{Contains-append_left, Contains-push}
use Rattle.std.proofs.lemmas.List.Sorted.{IsPermutation-refl, IsPermutation-trans, IsPermutation-append_left}
use Rattle.table_generations.specs.Buckets.{Content, vacant, named, values, content_at, shown, shown_all}
use Rattle.table_generations.specs.Growth.{IsRehashed, PutsName, PutsShown, RehashesOn}
use Rattle.table_generations.specs.Windows.{NoneShown}
use Rattle.table_cell.specs.declared.bucket.Entry.{Entry}
use Rattle.table_generations.proofs.Entries.{values-set, values-take_more, values-replicate, value_at-replicate, not_both}
use Rattle.table_generations.proofs.Laws.{vacant_fits, reached_after}
use Rattle.table_generations.proofs.Contents.{length-shown_all, shown_at, shown-replicate}

module _ {T U : Type 0} (target : T → U) (rehash : U → ℕ → Type 0) (old : List (Content T)) where
  -- of no bucket no entry is kept
  pub rehashed_none : (n : ℕ) → IsRehashed target rehash (take 0 (shown_all old)) (shown_all (replicate n vacant))
  rehashed_none n = rw (shown-replicate n) (record {
    kept = rw (values-replicate n) (IsPermutation-refl _);
    reached = λ hash_of p i v h. absurd (not_both v _ h (value_at-replicate n i));
  })

  -- an empty bucket adds nothing
  one_skipped : (i : ℕ) (new : List (Content T)) → i < length old → shown (content_at old i) ≡ None → RehashesOn target rehash (shown_all old) i (i + 1) new new
  one_skipped i new lt e r =
      let within : i < length (shown_all old) = rw length-shown_all lt in
      let same : values (take (i + 1) (shown_all old)) ≡ values (take i (shown_all old)) = values-take_more (shown_all old) i within ∙ rw (shown_at old i, e) (append-nil _) in
      record { kept = rw same r.kept; reached = λ hash_of p. r.reached hash_of (λ x h c. p x h (rw same c)) }

  -- one entry's name is put where its hash leads
  one_put : (i hash : ℕ) (before after : List (Content T)) (e : Entry T) → i < length old → shown (content_at old i) ≡ Some e → rehash (target e.value) hash
      → PutsName target before after hash (named e) → RehashesOn target rehash (shown_all old) i (i + 1) before after
  one_put i hash before after e lt at asked (j, vac, set_is) r =
      let within : i < length (shown_all old) = rw length-shown_all lt in
      let more : values (take (i + 1) (shown_all old)) ≡ values (take i (shown_all old)) ++ e ∷ [] = values-take_more (shown_all old) i within ∙ rw (shown_at old i, at) refl in
      let shows : shown_all after ≡ slice_set (shown_all before) j (Some e) = rw set_is (map-set shown before j _) in
      let fits : j < length (shown_all before) = vacant_fits target (λ _ _. ⊤) (shown_all before) hash j (let some = vac.within in omega arith) vac in
      rw shows (record {
        kept = rw more (IsPermutation-trans _ _ _ (IsPermutation-append_left (e ∷ []) _ _ r.kept) (values-set (shown_all before) j e fits vac.vacant));
        reached = λ hash_of p. reached_after target (λ _ _. ⊤) (shown_all before) hash hash_of j e fits vac
            (p e hash (rw more (Contains-push _ e)) asked)
            (r.reached hash_of (λ x h c. p x h (rw more (Contains-append_left _ _ x c))));
      })

  -- a bucket was rehashed by a hash of the entry that it shows
  one_hashed : (i hash : ℕ) (before after : List (Content T)) → i < length old → ((e : Entry T) → shown (content_at old i) ≡ Some e → rehash (target e.value) hash)
      → PutsShown target old i hash before after → RehashesOn target rehash (shown_all old) i (i + 1) before after
  one_hashed i hash before after lt asked (inl (none, same)) = rw same (one_skipped i before lt none)
  one_hashed i hash before after lt asked (inr (e, at, put)) = one_put i hash before after e lt at (asked e at) put

  -- buckets that show nothing are passed
  pub past_none : (n i k : ℕ) (new : List (Content T)) → k ≡ i + n → k ≤ length old → NoneShown old i k → RehashesOn target rehash (shown_all old) i k new new
  past_none zero i k new is fits none = λ r. (let same : k ≡ i = omega arith in rw same r)
  past_none (suc n) i k new is fits none = λ r. past_none n (i + 1) k new (omega arith) fits (λ j from to. none j (omega arith) to)
      (one_skipped i new (omega arith) (none i (omega arith) (omega arith)) r)

  -- the entry of the first bucket that shows one was put
  pub next_hashed : (i k hash : ℕ) (before after : List (Content T)) → i ≤ k → k < length old → NoneShown old i k → ((e : Entry T) → shown (content_at old k) ≡ Some e → rehash (target e.value) hash)
      → PutsShown target old k hash before after → RehashesOn target rehash (shown_all old) i (k + 1) before after
  next_hashed i k hash before after on lt none asked step = λ r. one_hashed k hash before after lt asked step (past_none (k - i) i k before (omega arith) (omega arith) none r)
