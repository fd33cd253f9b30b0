-- What is kept of the generations of every table, where a bucket is set, a generation is opened, or one more is made.
use Rattle.std.proofs.Common.{◌≡◌, ℕ, ◌+◌, ◌-◌, ◌*◌, ◌^◌, ◌<◌, ◌≤◌, inl, inr, max, List, [], ◌∷◌, ◌++◌, Some, None, length, map, refl, sym, ◌∙◌, arith, replicate, append-nil, append_assoc}
use Rattle.std.specs.Prelude.{slice_set}
use Rattle.std.specs.List.{sum_by, flat_map}
use Rattle.std.specs.List.Sorted.{IsPermutation}
use Rattle.std.proofs.lemmas.Grind.{flat_map-append}
use Rattle.std.proofs.lemmas.List.{length-map, length-append, length-set, length-replicate, map-append, map-set}
use Rattle.std.proofs.lemmas.List.Sums.{sum_by-append}
use Rattle.std.proofs.lemmas.List.Sorted.{IsPermutation-refl, IsPermutation-sym, IsPermutation-trans, IsPermutation-append_left, IsPermutation-append_right, length_permutation}
use Rattle.std.proofs.Math.ListN.{get_or-map}
use Rattle.table_generations.specs.Buckets.{Content, vacant, own, values, value_at, owned, shown, shown_all, shown_entries, values_of}
use Rattle.table_terms.specs.Capacities.{IsFirstCapacity}
use Rattle.table_held.specs.Capacity.{IsDoubled, IsSized}
use Rattle.table_generations.specs.Generations.{AllOwnNone}
use Rattle.table_generations.specs.Growth.{IsRehashed}
use Rattle.table_held.specs.Growth.{IsGrown, IsOpened, KeepsPlaces, with_entry}
use Rattle.table_held.specs.Table.{table_of, empty_table, shown_rows, owned_rows, IsKept, IsBuilt}
use Rattle.table_cell.specs.declared.bucket.Entry.{Entry}
use Rattle.table_generations.proofs.Entries.{values-set, values-replicate, no_values}
use Rattle.table_generations.proofs.Contents.{own_none-replicate, shown_at, shown-replicate}
use Rattle.table_held.proofs.Rows.{rows_set, rows_more, row_kept, owned_more, owned_none, owns_none}
use Rattle.table_held.proofs.Sizes.{total_set, sized_of, none_of, sized_set, sized_more, sized_first, some_capacity, small_capacity, few_buckets}

module _ {T : Type 0} (first : ℕ) (gs : List (List (Content T))) (cur : List (Content T)) (size : ℕ) (kept : IsKept first gs cur size) where
  pub doubled : IsDoubled first (length cur)
  doubled = elim kept.built [
    | inl none ↦ inl (rw none.1 refl)
    | inr sized ↦ inr (length gs, sized.doubled)
  ]

  -- the counts of a table that has a generation
  module _ (some : 0 < length cur) where
    pub sizes : IsSized first (length gs) (length cur) (sum_by length (shown_rows gs cur)) (length (shown_entries cur))
    sizes = sized_of first gs cur some kept.built

    first_fits : first ≤ length cur
    first_fits = some_capacity first (length gs) (length cur) _ _ kept.first_is sizes

    pub buckets_are : length cur - first + length cur ≡ sum_by length (shown_rows gs cur)
    buckets_are = let fits = first_fits in let all = sizes.all in omega arith

    pub buckets_few : sum_by length (shown_rows gs cur) ≤ max first (8 * length (values_of (shown_entries cur)) - first)
    buckets_few =
        let n : length (shown_entries cur) ≡ length (values_of (shown_entries cur)) = sym (length-map (shown_entries cur) (λ e. e.value)) in
        rw (← n) (few_buckets first (length gs) (length cur) _ _ kept.first_is sizes)

    pub buckets_sum : length cur - first + length cur + first ≡ 2 * length (shown_all cur)
    buckets_sum = rw length-map (let fits = first_fits in let e : length cur - first + length cur + first ≡ 2 * length cur = omega arith in e)

    pub buckets_fit : length cur < 2 ^ 64 → length cur - first + length cur < 2 ^ 64
    buckets_fit small =
        let most : length cur ≤ 2 ^ 63 = small_capacity first (length gs) (length cur) _ _ kept.first_is sizes small in
        let least = kept.first_is.1 in
        let fits = first_fits in
        omega arith

  abbrev owned_before : List (Entry T)
  owned_before = flat_map values (map (λ ps. map owned ps) gs)

  all_owned : (c : List (Content T)) → flat_map values (owned_rows gs c) ≡ owned_before ++ values (map owned c)
  all_owned c = rw map-append (flat_map-append values (map (λ ps. map owned ps) gs) (map owned c ∷ []) ∙ rw append-nil refl)

  -- an entry was placed in an empty bucket of the current generation
  module _ (i : ℕ) (e : Entry T) (fits : i < length cur) (empty : value_at (shown_all cur) i ≡ None) where
    abbrev placed : List (Content T)
    placed = slice_set cur i (own e)

    pub shows_placed : shown_all placed ≡ slice_set (shown_all cur) i (Some e)
    shows_placed = map-set shown cur i (own e)

    owned_placed : map owned placed ≡ slice_set (map owned cur) i (Some e)
    owned_placed = map-set owned cur i (own e)

    one_more_shown : IsPermutation (shown_entries cur ++ e ∷ []) (shown_entries placed)
    one_more_shown = rw shows_placed (values-set (shown_all cur) i e (rw length-map fits) empty)

    one_more_owned : IsPermutation (values (map owned cur) ++ e ∷ []) (values (map owned placed))
    one_more_owned = rw owned_placed (values-set (map owned cur) i e (rw length-map fits) (get_or-map owned cur i vacant ∙ owns_none _ (sym (shown_at cur i) ∙ empty)))

    whole_placed : IsPermutation (flat_map values (owned_rows gs placed)) (shown_entries placed)
    whole_placed =
        let was : IsPermutation (owned_before ++ values (map owned cur)) (shown_entries cur) = rw all_owned at kept.whole in
        let here : IsPermutation (owned_before ++ values (map owned placed)) ((owned_before ++ values (map owned cur)) ++ e ∷ []) =
        rw append_assoc (IsPermutation-append_right (owned_before) _ _ (IsPermutation-sym _ _ one_more_owned)) in
        rw (all_owned placed) (IsPermutation-trans _ _ _ here (IsPermutation-trans _ _ _ (IsPermutation-append_left (e ∷ []) _ _ was) one_more_shown))

    count_placed : length (shown_entries placed) ≡ size + 1
    count_placed = length_permutation _ _ one_more_shown ∙ rw (length-append, ← kept.counted) refl

    built_placed : IsBuilt first gs placed
    built_placed =
        let some : 0 < length cur = omega arith in
        let n : length (shown_entries placed) ≡ length (shown_entries cur) + 1 = rw (← kept.counted) count_placed in
        inr (rw (length-set, total_set gs cur i (own e), n) (sized_set first (length gs) (length cur) _ _ kept.first_is (sizes some)))

    pub kept_placed : IsKept first gs placed (size + 1)
    kept_placed = record {
      first_is = kept.first_is;
      built = built_placed;
      whole = whole_placed;
      counted = sym count_placed;
    }

    pub table_placed : table_of first gs placed (size + 1) ≡ with_entry (table_of first gs cur size) i e
    table_placed = rw (shows_placed, rows_set gs cur i e) refl

    pub places_kept : KeepsPlaces (table_of first gs cur size) (table_of first gs placed (size + 1))
    places_kept p x h = row_kept gs cur i e empty p.generation p.index x h

  -- a generation of twice the capacity was made of names
  module _ {U : Type 0} {target : T → U} {rehash : U → ℕ → Type 0} (new : List (Content T)) (some : 0 < length cur) (wanted : length cur ≤ 2 * size) (twice : length new ≡ 2 * length cur)
      (names : AllOwnNone new) (made : IsRehashed target rehash (shown_all cur) (shown_all new)) where
    pub count_grown : length (shown_entries new) ≡ size
    count_grown = length_permutation _ _ made.kept ∙ sym kept.counted

    built_grown : IsBuilt first (gs ++ cur ∷ []) new
    built_grown =
        let n : length (shown_entries new) ≡ length (shown_entries cur) = count_grown ∙ kept.counted in
        let total : sum_by length (shown_rows (gs ++ cur ∷ []) new) ≡ sum_by length (shown_rows gs cur) + length new =
        rw rows_more (sum_by-append length (shown_rows gs cur) (shown_all new ∷ []) ∙ rw length-map (omega arith)) in
        let counted = kept.counted in
        inr (rw (total, length-append) (sized_more first (length gs) (length cur) _ _ kept.first_is (sizes some) (length new) _ twice n (omega arith)))

    whole_grown : IsPermutation (flat_map values (owned_rows (gs ++ cur ∷ []) new)) (shown_entries new)
    whole_grown =
        let owned_all : flat_map values (owned_rows (gs ++ cur ∷ []) new) ≡ flat_map values (owned_rows gs cur) =
        rw (owned_more gs cur new names) (flat_map-append values (owned_rows gs cur) (no_values (length new) ∷ []) ∙ rw (values-replicate, append-nil) refl) in
        rw owned_all (IsPermutation-trans _ _ _ kept.whole made.kept)

    pub kept_grown : IsKept first (gs ++ cur ∷ []) new size
    kept_grown = record {
      first_is = kept.first_is;
      built = built_grown;
      whole = whole_grown;
      counted = sym count_grown;
    }

    pub table_grown : IsGrown target rehash (table_of first gs cur size) (table_of first (gs ++ cur ∷ []) new size)
    table_grown = record {
      rehashed = made;
      doubled = rw (length-map new shown, length-map cur shown) twice;
      generations = rows_more gs cur new;
      size = refl;
      first_capacity = refl;
    }

-- the first generation was opened
module _ {T : Type 0} (first : ℕ) (gs : List (List (Content T))) (cur : List (Content T)) (size : ℕ) (kept : IsKept first gs cur size) (none : length cur ≡ 0) where
  no_generation : (gs ≡ []) × (cur ≡ [])
  no_generation = none_of first gs cur (let some = kept.first_is.1 in omega arith) none kept.built

  table_empty : table_of first gs cur size ≡ empty_table first
  table_empty =
      let count : size ≡ 0 = kept.counted ∙ rw no_generation.1 refl in
      rw (no_generation.0, no_generation.1, count) refl

module _ (T : Type 0) (first : ℕ) where
  owned_opened : map (owned {T = T}) (replicate first vacant) ≡ no_values first
  owned_opened = rw length-replicate at (owned_none {T = T} (replicate first vacant) (own_none-replicate first))

  table_opened : table_of {T = T} first [] (replicate first vacant) 0 ≡ record { first_capacity = first; buckets = replicate first None; generations = replicate first None ∷ []; size = 0 }
  table_opened = rw (shown-replicate {T = T} first) refl

  kept_opened : IsFirstCapacity first → IsKept {T = T} first [] (replicate first vacant) 0
  kept_opened is = record {
    first_is = is;
    built = inr (rw (length-replicate {A = Content T} first vacant, shown-replicate {T = T} first) (sized_first first _ _ (rw length-replicate (omega arith))));
    whole = rw (owned_opened, shown-replicate {T = T} first, values-replicate) (IsPermutation-refl _);
    counted = rw (shown-replicate {T = T} first, values-replicate) refl;
  }

-- opening a table without a generation
module _ {T : Type 0} (first : ℕ) (gs : List (List (Content T))) (cur : List (Content T)) (size : ℕ) (kept : IsKept first gs cur size) (none : length cur ≡ 0) (contents : List (Content T)) (count : ℕ)
    (made : contents ≡ replicate first vacant) (zero_is : count ≡ 0) where
  pub kept_open : IsKept first gs contents count
  kept_open = rw (made, zero_is, (no_generation first gs cur size kept none).0) (kept_opened T first kept.first_is)

  pub table_open : IsOpened (table_of first gs cur size) (table_of first gs contents count)
  table_open = inl (table_empty first gs cur size kept none, rw (made, zero_is, (no_generation first gs cur size kept none).0) (table_opened T first))

-- a generation without buckets shows nothing
pub shows_nothing : {T : Type 0} (cur : List (Content T)) → length cur ≡ 0 → shown_all cur ≡ []
shows_nothing [] e = refl
shows_nothing (p ∷ cur) e = absurd (omega arith)
