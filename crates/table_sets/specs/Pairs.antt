-- Pairs, by what is the same and the hash of each part.
use Rattle.std.specs.Prelude.{◌≡◌, ℕ, ◌+◌, ◌%◌, ◌^◌, ◌&&◌, Bool, true}
use Rattle.std.proofs.Common.{arith}
use Rattle.std.proofs.lemmas.Grind.{common_steps}
use Rattle.table_terms.specs.Laws.{IsLaw, number_hash, number_hash_small}

-- one hash of two: the second is added to the hash of the first, and the sum is hashed
abbrev pub mixed_hash : ℕ → ℕ → ℕ
mixed_hash first second = number_hash ((number_hash first + second) % 2 ^ 64)

module _ {V W : Type 0} where
  -- both parts are the same
  abbrev pub same_parts : (V → V → Bool) → (W → W → Bool) → V × W → V × W → Bool
  same_parts same also a b = same a.0 b.0 && also a.1 b.1

  -- the hashes of both parts, mixed
  abbrev pub pair_hash : (V → ℕ) → (W → ℕ) → V × W → ℕ
  pair_hash first second a = mixed_hash (first a.0) (second a.1)

  pub pairs_lawful : {same : V → V → Bool} {hash_of : V → ℕ} {also : W → W → Bool} {hash_also : W → ℕ}
      → IsLaw same hash_of → IsLaw also hash_also
      → IsLaw (same_parts same also) (pair_hash hash_of hash_also)
  pairs_lawful first second = record {
    reflexive = λ a. grind (arith, common_steps, first.reflexive a.0, second.reflexive a.1);
    symmetric = λ a b h. grind (arith, common_steps, first.symmetric a.0 b.0, second.symmetric a.1 b.1);
    transitive = λ a b c h k. grind (arith, common_steps, first.transitive a.0 b.0 c.0, second.transitive a.1 b.1 c.1);
    small = λ a. number_hash_small _;
    agrees = λ a b h. grind (arith, common_steps, first.agrees a.0 b.0, second.agrees a.1 b.1);
  }

module _ {I J V W : Type 0} where
  -- each part meets its part of the key
  abbrev pub meets_parts : (I → V → Bool) → (J → W → Bool) → I × J → V × W → Bool
  meets_parts meets also key a = meets key.0 a.0 && also key.1 a.1

  -- where each part that meets its key has the hash of the key, so has a pair
  pub pairs_agree : {meets : I → V → Bool} {hash_of : V → ℕ} {key_hash : I → ℕ}
      {also : J → W → Bool} {hash_also : W → ℕ} {key_also : J → ℕ}
      → ((k : I) (v : V) → meets k v ≡ true → hash_of v ≡ key_hash k)
      → ((k : J) (w : W) → also k w ≡ true → hash_also w ≡ key_also k)
      → (k : I × J) (a : V × W) → meets_parts meets also k a ≡ true
      → pair_hash hash_of hash_also a ≡ pair_hash key_hash key_also k
  pairs_agree first second = λ k a h. grind (arith, common_steps, first k.0 a.0, second k.1 a.1)
