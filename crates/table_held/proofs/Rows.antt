-- What the buckets of a row of generations show and own.
use Rattle.std.proofs.Common.{◌≡◌, ℕ, zero, suc, ◌+◌, ◌-◌, ◌<◌, ◌≤◌, inl, inr, List, [], ◌∷◌, ◌++◌, Option, Some, None, length, map, refl, sym, ap, ◌∙◌, arith, get_or-set_other}
use Rattle.std.specs.Prelude.{IsSome, option_map, slice_set, slice_index_or}
use Rattle.std.proofs.lemmas.Bool.{cases_eq, cases_lt}
use Rattle.std.proofs.lemmas.List.{get_or_append_left, get_or_past, length-append, length-map, map-append, map-set}
use Rattle.std.proofs.lemmas.List.{get_or-map as get_or-map-within}
use Rattle.std.proofs.lemmas.List.Elements.{All-head, All-tail}
use Rattle.std.proofs.Math.Seq.{get_or-append_seam}
use Rattle.table_generations.specs.Buckets.{Content, vacant, own, named, value_at, content_at, owned, shown_all, shown}
use Rattle.table_generations.specs.Generations.{GenerationView, OwnsNone, AllOwnNone}
use Rattle.table_held.specs.Table.{HeldTable, table_of, contents_in, shown_rows, owned_rows, marked_at, entry_at}
use Rattle.table_held.specs.Shown.{ShowsAt}
use Rattle.table_held.specs.declared.place.Place.{Place}
use Rattle.table_cell.specs.declared.bucket.Entry.{Entry}
use Rattle.table_generations.proofs.Entries.{no_values, not_both}
use Rattle.table_generations.proofs.Contents.{shown_at}

set_last : {X : Type 0} (xs : List X) (y z : X) → slice_set (xs ++ y ∷ []) (length xs) z ≡ xs ++ z ∷ []
set_last [] y z = refl
set_last (x ∷ xs) y z = ap (λ l. x ∷ l) (set_last xs y z)

module _ {T : Type 0} (gs : List (List (Content T))) (cur : List (Content T)) where
  rows_end : shown_rows gs cur ≡ map shown_all gs ++ shown_all cur ∷ []
  rows_end = map-append shown_all gs (cur ∷ [])

  last_row : length (shown_rows gs cur) - 1 ≡ length (map shown_all gs)
  last_row = rw (rows_end, length-append) (omega arith)

  -- where a bucket of the current generation is set to an own entry, it shows the entry
  pub rows_set : (i : ℕ) (e : Entry T) →
      shown_rows gs (slice_set cur i (own e)) ≡ slice_set (shown_rows gs cur) (length (shown_rows gs cur) - 1) (slice_set (slice_index_or (shown_rows gs cur) (length (shown_rows gs cur) - 1) []) i (Some e))
  rows_set i e =
      let rest : slice_index_or (shown_rows gs cur) (length (shown_rows gs cur) - 1) [] ≡ shown_all cur = rw (last_row, rows_end) (get_or-append_seam (map shown_all gs) (shown_all cur) [] []) in
      let left : shown_rows gs (slice_set cur i (own e)) ≡ map shown_all gs ++ slice_set (shown_all cur) i (Some e) ∷ [] = rw (map-append, map-set) refl in
      rw (left, rest, last_row, rows_end) (sym (set_last (map shown_all gs) (shown_all cur) (slice_set (shown_all cur) i (Some e))))

  -- what the current generation shows
  pub current_row : slice_index_or (shown_rows gs cur) (length gs) [] ≡ shown_all cur
  current_row =
      let long : length (map shown_all gs) ≡ length gs = length-map gs shown_all in
      rw (rows_end, ← long) (get_or-append_seam (map shown_all gs) (shown_all cur) [] [])

-- with one generation more, the others show what they showed
pub rows_more : {T : Type 0} (gs : List (List (Content T))) (cur new : List (Content T)) → shown_rows (gs ++ cur ∷ []) new ≡ shown_rows gs cur ++ shown_all new ∷ []
rows_more gs cur new = map-append shown_all (gs ++ cur ∷ []) (new ∷ [])

module _ {T : Type 0} where
  -- names alone own nothing
  owned_name : (p : Content T) → OwnsNone p → owned p ≡ None
  owned_name vacant n = refl
  owned_name (own e) n = absurd n
  owned_name (named e) n = refl

  pub owned_none : (ps : List (Content T)) → AllOwnNone ps → map owned ps ≡ no_values (length ps)
  owned_none [] n = refl
  owned_none (p ∷ ps) n = rw (owned_name p (All-head OwnsNone p ps n)) (ap (λ os. None ∷ os) (owned_none ps (All-tail OwnsNone p ps n)))

  -- a generation of names alone owns nothing
  pub owned_more : (gs : List (List (Content T))) (cur new : List (Content T)) → AllOwnNone new → owned_rows (gs ++ cur ∷ []) new ≡ owned_rows gs cur ++ no_values (length new) ∷ []
  owned_more gs cur new n = map-append (λ ps. map owned ps) (gs ++ cur ∷ []) (new ∷ []) ∙ ap (λ os. owned_rows gs cur ++ os ∷ []) (owned_none new n)

  -- a bucket that shows nothing owns nothing
  pub owns_none : (p : Content T) → shown p ≡ None → owned p ≡ None
  owns_none vacant e = refl
  owns_none (own x) e = absurd (cc)
  owns_none (named x) e = refl

  -- where a bucket that showed nothing is set, each other shows what it showed
  pub row_kept : (gs : List (List (Content T))) (cur : List (Content T)) (i : ℕ) (e : Entry T) → value_at (shown_all cur) i ≡ None → (g k : ℕ) (x : Entry T)
      → value_at (slice_index_or (shown_rows gs cur) g []) k ≡ Some x → value_at (slice_index_or (shown_rows gs (slice_set cur i (own e))) g []) k ≡ Some x
  row_kept [] cur i e none zero k x h = elim (cases_eq k i) [
    | inl same ↦ absurd (not_both x (value_at (shown_all cur) i) (rw same at h) none)
    | inr other ↦ rw (map-set shown cur i (own e)) (get_or-set_other (shown_all cur) i k (Some e) None other ∙ h)
  ]
  row_kept [] cur i e none (suc g) k x h = h
  row_kept (ps ∷ gs) cur i e none zero k x h = h
  row_kept (ps ∷ gs) cur i e none (suc g) k x h = row_kept gs cur i e none g k x h

-- what an earlier generation shows
pub earlier_row : {A T : Type 0} (xs : List (GenerationView A T)) (cur : List (Content T)) (g : ℕ) (x : GenerationView A T) → g < length xs → slice_index_or xs g x ≡ x → slice_index_or (shown_rows (contents_in xs) cur) g [] ≡ shown_all x.contents
earlier_row xs cur g x lt is =
    let wide : length (contents_in xs) ≡ length xs = length-map xs (λ g. g.contents) in
    let within : g < length (map shown_all (contents_in xs)) = rw length-map (omega arith) in
    let at : slice_index_or (contents_in xs) g [] ≡ x.contents = get_or-map-within (λ b. b.contents) xs g x [] lt ∙ ap (λ b. b.contents) is in
    rw (map-append shown_all (contents_in xs) (cur ∷ []), get_or_append_left (map shown_all (contents_in xs)) (shown_all cur ∷ []) [] g within, get_or-map-within shown_all (contents_in xs) g [] [] (omega arith), at) refl

module _ {X : Type 0} where
  -- what is shown is shown by one of the buckets
  index_within : (ps : List (Option X)) (i : ℕ) (x : X) → value_at ps i ≡ Some x → i < length ps
  index_within ps i x h = elim (cases_lt i (length ps)) [
    | inl lt ↦ lt
    | inr ge ↦ absurd (let past : value_at ps i ≡ None = get_or_past ps i None ge in not_both x (value_at ps i) h past)
  ]

  -- of one of the generations
  row_within : (rows : List (List (Option X))) (g i : ℕ) (x : X) → value_at (slice_index_or rows g []) i ≡ Some x → g < length rows
  row_within rows g i x h = elim (cases_lt g (length rows)) [
    | inl lt ↦ lt
    | inr ge ↦ absurd (let past : value_at (slice_index_or rows g []) i ≡ None = rw (get_or_past rows g [] ge) refl in not_both x (value_at (slice_index_or rows g []) i) h past)
  ]

module _ {T : Type 0} where
  pub some_entry : (o : Option (Entry T)) → IsSome (option_map (λ e. e.value) o) → (e : Entry T) × (o ≡ Some e)
  some_entry None s = absurd (cc)
  some_entry (Some e) s = (e, refl)

  -- a place that shows an entry is a bucket of the table
  module _ {A : Type 0} (first : ℕ) (xs : List (GenerationView A T)) (cur : List (Content T)) (size : ℕ) (t : HeldTable T) (is : table_of first (contents_in xs) cur size ≡ t) (p : Place) (s : IsSome (entry_at t p)) where
    shown_there : (e : Entry T) × (value_at (slice_index_or (shown_rows (contents_in xs) cur) p.generation []) p.index ≡ Some e)
    shown_there = rw (← is) at (some_entry (marked_at t p) s)

    pub generation_within : p.generation ≤ length xs
    generation_within =
        let (e, h) = shown_there in
        let lt = row_within (shown_rows (contents_in xs) cur) p.generation p.index e h in
        let long : length (shown_rows (contents_in xs) cur) ≡ length xs + 1 = length-map (contents_in xs ++ cur ∷ []) shown_all ∙ length-append (contents_in xs) (cur ∷ []) ∙ ap (λ n. n + 1) (length-map xs (λ g. g.contents)) in
        omega arith

    -- and the generation's bucket shows it
    pub bucket_within : (ps : List (Content T)) → shown_all ps ≡ slice_index_or (shown_rows (contents_in xs) cur) p.generation [] → (p.index < length ps) × (shown (content_at ps p.index) ≡ marked_at t p)
    bucket_within ps row =
        let (e, h) = shown_there in
        let within : p.index < length (shown_all ps) = index_within (shown_all ps) p.index e (rw row h) in
        let long : length (shown_all ps) ≡ length ps = length-map ps shown in
        (omega arith, rw (← is) (sym (shown_at ps p.index) ∙ ap (λ os. value_at os p.index) row))

-- what is shown at a place is the entry's target
pub shows_target : {T U : Type 0} (target : T → U) (o : Option (Entry T)) (e : Entry T) (u : U) → o ≡ Some e → u ≡ target e.value → ShowsAt (option_map (λ e. e.value) o) (λ v. u ≡ target v)
shows_target target o e u is shows = rw is shows
