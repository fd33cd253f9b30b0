-- What callers may conclude: a count answers as the list object.
use Rattle.std.proofs.Common.{◌≡◌, ℕ, ◌≤◌, length, refl, arith}
use Rattle.std.proofs.lemmas.List.Sorted.{length_permutation}
use Rattle.table_terms.specs.ListObject.{greatest_length}
use Rattle.table_held.specs.Table.{HeldTable, CountsAsList, entries}

module _ {T : Type 0} where
  -- the size, which is below 2^64, is the length of each list that the table stands for
  pub counts_as_list : (t : HeldTable T) (k : ℕ) → k ≤ greatest_length → k ≡ t.size → CountsAsList t k
  counts_as_list t k small is equal M s =
      let same : length M ≡ length (entries t) = length_permutation _ _ s.permuted in
      let counted = s.counted in
      (omega arith, refl)
