-- Steps of a walk over the buckets of a table, and the values that its generations own together.
use Rattle.std.proofs.Common.{◌≡◌, ℕ, ◌<◌, ◌++◌, List, [], ◌∷◌, length, map, append_assoc, append-nil, ◌^◌, arith}
use Rattle.std.specs.List.{flat_map}
use Rattle.std.specs.List.Sorted.{IsPermutation}
use Rattle.std.specs.declared.boxed.Box.{Box}
use Rattle.std.proofs.lemmas.List.{map-append, length-map}
use Rattle.std.proofs.lemmas.List.Sorted.{IsPermutation-refl, IsPermutation-sym, IsPermutation-trans, IsPermutation-map, IsPermutation-append_comm, length_permutation}
use Rattle.table_generations.specs.Buckets.{Content, values, owned, owned_values, shown_entries, values_of}
use Rattle.table_generations.specs.Generations.{GenerationView}
use Rattle.table_held.specs.Table.{HeldTable, IsKept, table_of, contents_in, owned_rows, entries, held}
use Rattle.table_held.specs.Walks.{WalksAsList, GivesEntries}
use Rattle.table_held.proofs.Answered.{walks_as_list}
use Rattle.table_generations.specs.Values.{all_owned, with_later}

module _ {T : Type 0} where
  -- the entries as they stand answer a walk as each list that the table stands for does
  pub entries_walk_as_list : (t : HeldTable T) (es : List T) → es ≡ entries t → WalksAsList t es
  entries_walk_as_list t es is = walks_as_list held t es (rw is (IsPermutation-refl (entries t)))

module _ {A T : Type 0} where
  -- the values that all generations own are those of the entries at home in them
  pub all_owned-rows : (gs : List (GenerationView A T)) (current : List (Content T)) → values_of (flat_map values (owned_rows (contents_in gs) current)) ≡ all_owned gs ++ owned_values current
  all_owned-rows [] current = rw (append-nil (values (map owned current)))
  all_owned-rows (g ∷ gs) current = rw (map-append, append_assoc, all_owned-rows gs current)

  -- what a kept table's generations own, the current one first, are its entries
  pub owned-are_entries : (first : ℕ) (gs : List (GenerationView A T)) (current : List (Content T)) (size : ℕ) → IsKept first (contents_in gs) current size → IsPermutation (entries (table_of first (contents_in gs) current size)) (owned_values current ++ all_owned gs)
  owned-are_entries first gs current size kept =
      let owned_ones = flat_map values (owned_rows (contents_in gs) current) in
      let shown_ones = shown_entries current in
      let valued = IsPermutation-map (λ e. e.value) owned_ones shown_ones kept.whole in
      let split = rw (all_owned-rows gs current) at valued in
      IsPermutation-trans _ _ _ (IsPermutation-sym _ _ split) (IsPermutation-append_comm (all_owned gs) (owned_values current))

  -- they are as many as the table counts
  pub length-owned : (first : ℕ) (gs : List (GenerationView A T)) (current : List (Content T)) (size : ℕ) → IsKept first (contents_in gs) current size → size ≡ length (owned_values current ++ all_owned gs)
  length-owned first gs current size kept =
      let permuted = owned-are_entries first gs current size kept in
      omega (arith, length_permutation _ _ permuted, length-map (shown_entries current) (λ e. e.value), kept.counted)

  -- a kept table gives its entries, the current generation's own ones first
  pub owned-give_entries : (first : ℕ) (gs : List (GenerationView A T)) (current : List (Content T)) (size : ℕ) → size < 2 ^ 64 → IsKept first (contents_in gs) current size → GivesEntries (table_of first (contents_in gs) current size) (owned_values current ++ all_owned gs)
  owned-give_entries first gs current size small kept =
      let permuted = owned-are_entries first gs current size kept in
      record {
        gives = record { permuted = permuted; as_list = walks_as_list held _ _ permuted };
        fits = omega (arith, length-owned first gs current size kept);
      }

  -- no generation lies in a block
  pub none_later : (gs : List (GenerationView A T)) (blocks : List (Box (GenerationView A T) A)) → blocks ≡ [] → with_later gs blocks ≡ gs
  none_later gs blocks none = rw none (append-nil gs)
