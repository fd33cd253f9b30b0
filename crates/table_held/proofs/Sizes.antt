-- How many buckets and entries a row of generations has.
use Rattle.std.proofs.Common.{◌≡◌, ℕ, add-one, mul_assoc, ◌+◌, ◌-◌, ◌*◌, ◌^◌, mul-pos, ◌<◌, ◌≤◌, inl, inr, max, List, [], ◌∷◌, length, map, refl, sym, ◌∙◌, arith, le-mul_of_pos_right}
use Rattle.std.specs.Prelude.{slice_set}
use Rattle.std.specs.List.{sum_by}
use Rattle.std.proofs.lemmas.Bool.{cases_lt}
use Rattle.std.proofs.lemmas.Nat.{pow-add, pow_pos}
use Rattle.std.proofs.Math.Nat.{pow-suc, le-max_left, le-max_right, le_trans}
use Rattle.std.proofs.Math.Pow.{pow_mono}
use Rattle.std.proofs.lemmas.List.{length-map, length-set, map-append}
use Rattle.std.proofs.lemmas.List.Sums.{sum_by-append}
use Rattle.table_generations.specs.Buckets.{Content, shown_all, shown_entries}
use Rattle.table_terms.specs.Capacities.{IsFirstCapacity}
use Rattle.table_held.specs.Capacity.{IsSized}
use Rattle.table_held.specs.Table.{shown_rows, IsBuilt}

module _ {T : Type 0} where
  -- the current generation has its buckets beside those of the earlier ones
  total_split : (gs : List (List (Content T))) (cur : List (Content T)) → sum_by length (shown_rows gs cur) ≡ sum_by length (map shown_all gs) + length cur
  total_split gs cur = rw map-append (sum_by-append length (map shown_all gs) (shown_all cur ∷ []) ∙ rw length-map (omega arith))

  -- where a bucket is set, each generation has as many buckets as before
  pub total_set : (gs : List (List (Content T))) (cur : List (Content T)) (i : ℕ) (p : Content T) → sum_by length (shown_rows gs (slice_set cur i p)) ≡ sum_by length (shown_rows gs cur)
  total_set gs cur i p = rw (total_split gs (slice_set cur i p), total_split gs cur, length-set) refl

-- a power of two that fits a word of 64 bits is at most 2^63
small_power : (k : ℕ) → 2 ^ k < 2 ^ 64 → k < 64
small_power k small = elim (cases_lt k 64) [
  | inl lt ↦ lt
  | inr ge ↦ absurd (let h : 2 ^ 64 ≤ 2 ^ k = pow_mono ge in omega arith)
]

module _ (first grown c total n : ℕ) (is : IsFirstCapacity first) (sized : IsSized first grown c total n) where
  -- the capacity is a power of two
  pub capacity_power : c ≡ 2 ^ (is.0.0 + grown)
  capacity_power = sized.doubled ∙ (rw (is.0.1) (sym (pow-add 2 is.0.0 grown)))

  pub some_capacity : first ≤ c
  some_capacity = rw sized.doubled (le-mul_of_pos_right first (pow_pos grown))

  -- a capacity that fits a word of 64 bits is at most 2^63
  pub small_capacity : c < 2 ^ 64 → c ≤ 2 ^ 63
  small_capacity small =
      let all : is.0.0 + grown < 64 = small_power (is.0.0 + grown) (rw capacity_power at small) in
      rw capacity_power (pow_mono (let le : is.0.0 + grown ≤ 63 = omega arith in le))

  -- the buckets of all generations are few for the entries
  pub few_buckets : total ≤ max first (8 * n - first)
  few_buckets = let all = sized.all in elim sized.wanted [
    | inl e ↦ le_trans (let le : total ≤ first = omega arith in le) (le-max_left first (8 * n - first))
    | inr le ↦ le_trans (let le : total ≤ 8 * n - first = omega arith in le) (le-max_right first (8 * n - first))
  ]

  -- with one entry more
  pub sized_set : IsSized first grown c total (n + 1)
  sized_set = record {
    doubled = sized.doubled;
    all = sized.all;
    wanted = elim sized.wanted [ inl e ↦ inl e | inr le ↦ inr (omega arith) ];
  }

  -- with one generation more of twice the capacity, if at least half of the buckets are set
  pub sized_more : (m k : ℕ) → m ≡ 2 * c → k ≡ n → c ≤ 2 * n → IsSized first (grown + 1) m (total + m) k
  sized_more m k twice same wanted = record {
    doubled = rw (twice, add-one, pow-suc, ← mul_assoc, ← sized.doubled) (omega arith);
    all = (let all = sized.all in omega arith);
    wanted = inr (omega arith);
  }

-- the first generation
pub sized_first : (first n total : ℕ) → total ≡ first → IsSized first 0 first total n
sized_first first n total e = record { doubled = omega arith; all = omega arith; wanted = inl refl }

-- where there is a bucket, the generations have the sizes that growth gives them
pub sized_of : {T : Type 0} (first : ℕ) (gs : List (List (Content T))) (cur : List (Content T)) → 0 < length cur → IsBuilt first gs cur → IsSized first (length gs) (length cur) (sum_by length (shown_rows gs cur)) (length (shown_entries cur))
sized_of first gs cur some (inl none) = absurd (let e : length cur ≡ 0 = rw none.1 refl in omega arith)
sized_of first gs cur some (inr sized) = sized

-- where there is none, there is no generation
pub none_of : {T : Type 0} (first : ℕ) (gs : List (List (Content T))) (cur : List (Content T)) → 0 < first → length cur ≡ 0 → IsBuilt first gs cur → (gs ≡ []) × (cur ≡ [])
none_of first gs cur some e (inl none) = none
none_of first gs cur some e (inr sized) = absurd (let c = sized.doubled in let p : 0 < first * 2 ^ length gs = mul-pos some (pow_pos (length gs)) in omega arith)
