-- The buckets of a generation: which are set, and what they show.
use Rattle.std.proofs.Common.{◌≡◌, ℕ, zero, suc, ◌+◌, ◌^◌, ◌<◌, ◌≤◌, inr, List, [], ◌∷◌, ◌++◌, Option, Some, None, length, refl, sym, ap, ◌∙◌, arith, replicate}
use Rattle.std.specs.Prelude.{option_map, slice_set}
use Rattle.std.specs.Int.{IsPowerOfTwo}
use Rattle.std.proofs.Math.ListN.{get_or-map}
use Rattle.std.proofs.lemmas.List.{length-append, length-map, length-replicate, map-set}
use Rattle.std.proofs.lemmas.List.Elements.{All-replicate}
use Rattle.std.proofs.lemmas.List.Sorted.{length_permutation}
use Rattle.table_cell.specs.Contents.{BucketView, bucket, naming}
use Rattle.table_cell.specs.declared.bucket.Entry.{Entry}
use Rattle.table_generations.specs.Generations.{IsGeneration, IsName, OwnsNone, AllOwnNone}
use Rattle.table_generations.specs.Buckets.{Content, vacant, own, named, values, value_at, content_at, owned, owned_values, shown, shown_all, shown_entries}
use Rattle.table_generations.proofs.Entries.{no_values, values-set, values-replicate}

-- no more places are set than there are
length-values : {X : Type 0} (ps : List (Option X)) → length (values ps) ≤ length ps
length-values [] = omega arith
length-values (None ∷ ps) = let h = length-values ps in omega arith
length-values (Some v ∷ ps) = let h = length-values ps in omega arith

module _ {T : Type 0} where
  -- a generation shows as many places as it has buckets
  pub length-shown_all : (ps : List (Content T)) → length (shown_all ps) ≡ length ps
  length-shown_all ps = length-map ps shown

  -- empty buckets show nothing
  pub shown-replicate : (n : ℕ) → shown_all {T = T} (replicate n vacant) ≡ no_values n
  shown-replicate zero = refl
  shown-replicate (suc n) = ap (λ os. None ∷ os) (shown-replicate n)

  -- what a generation shows at an index is what its bucket there shows
  pub shown_at : (ps : List (Content T)) (i : ℕ) → value_at (shown_all ps) i ≡ shown (content_at ps i)
  shown_at ps i = get_or-map shown ps i vacant

  -- a bucket that shows nothing is empty
  pub shows_none : (p : Content T) → shown p ≡ None → p ≡ vacant
  shows_none vacant e = refl
  shows_none (own x) e = absurd (cc)
  shows_none (named x) e = absurd (cc)

  -- a name shows an entry
  pub name_shows : (p : Content T) → IsName p → (e : Entry T) × (shown p ≡ Some e) × (p ≡ named e)
  name_shows vacant n = absurd n
  name_shows (own x) n = absurd n
  name_shows (named x) n = (x, refl, refl)

  -- no more buckets show an entry than there are
  pub few_shown : (ps : List (Content T)) → length (shown_entries ps) ≤ length ps
  few_shown ps = let few = length-values (shown_all ps) in let long = length-shown_all ps in omega arith

  -- an empty bucket that is set shows one entry more
  pub shown_more : (ps : List (Content T)) (i : ℕ) (p : Content T) (e : Entry T) → i < length ps → value_at (shown_all ps) i ≡ None → shown p ≡ Some e
      → length (shown_entries (slice_set ps i p)) ≡ length (shown_entries ps) + 1
  shown_more ps i p e lt empty shows =
      let set : shown_all (slice_set ps i p) ≡ slice_set (shown_all ps) i (Some e) = map-set shown ps i p ∙ ap (slice_set (shown_all ps) i) shows in
      let within : i < length (shown_all ps) = rw length-shown_all lt in
      let counts : length (values (shown_all ps) ++ e ∷ []) ≡ length (values (slice_set (shown_all ps) i (Some e))) = sym (length_permutation _ _ (values-set (shown_all ps) i e within empty)) in
      rw set (sym counts ∙ length-append (shown_entries ps) (e ∷ []))

  -- a bucket that owns nothing adds no value
  pub owned_skipped : (p : Content T) (ps : List (Content T)) → None ≡ option_map (λ (e : Entry T). e.value) (owned p) → owned_values (p ∷ ps) ≡ owned_values ps
  owned_skipped vacant ps none = refl
  owned_skipped (own e) ps none = absurd (cc)
  owned_skipped (named e) ps none = refl

  -- of empty buckets none owns an entry
  pub own_none-replicate : (n : ℕ) → AllOwnNone {T = T} (replicate n vacant)
  own_none-replicate n = All-replicate OwnsNone n vacant tt

module _ {A T : Type 0} where
  -- a bucket that names another's entry shows it
  pub naming_shows : (from : A) (home : ℕ) (p : Content T) (b : BucketView A T) → Some b ≡ option_map (bucket from home) (naming p) → (e : Entry T) × (b.content ≡ named e) × (shown p ≡ Some e)
  naming_shows from home vacant b is = absurd (cc)
  naming_shows from home (own x) b is = (x, (let same : b ≡ bucket from home (named x) = cc in ap (λ b. b.content) same), refl)
  naming_shows from home (named x) b is = (x, (let same : b ≡ bucket from home (named x) = cc in ap (λ b. b.content) same), refl)

module _ {T : Type 0} where
  -- empty buckets, a power of two of them, are a generation
  pub generation-replicate : (n : ℕ) → n < 2 ^ 64 → IsPowerOfTwo n → IsGeneration {T = T} (replicate n vacant) 0
  generation-replicate n fits two = record {
    powered = inr (rw length-replicate two);
    fits = rw length-replicate fits;
    counted = rw (shown-replicate {T = T} n, values-replicate {X = Entry T} n) refl;
  }

  -- the size of a generation fits
  pub size_fits : (ps : List (Content T)) (size : ℕ) → IsGeneration ps size → size < 2 ^ 64
  size_fits ps size g = let few = few_shown ps in let counted = g.counted in let fits = g.fits in omega arith
