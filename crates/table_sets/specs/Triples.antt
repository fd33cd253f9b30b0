-- Triples, by what is the same and the hash of each part.
use Rattle.std.specs.Prelude.{ℕ, ◌&&◌, Bool}
use Rattle.table_terms.specs.Laws.{IsLaw, lawful_by}
use Rattle.table_sets.specs.Pairs.{mixed_hash, pairs_lawful}

-- the first part, and the pair of the others
abbrev pub nested : {V W X : Type 0} → V × W × X → V × (W × X)
nested a = (a.0, (a.1, a.2))

module _ {V W X : Type 0} where
  -- all three parts are the same
  abbrev pub same_triple : (V → V → Bool) → (W → W → Bool) → (X → X → Bool) → V × W × X → V × W × X → Bool
  same_triple same also too a b = same a.0 b.0 && (also a.1 b.1 && too a.2 b.2)

  -- the hashes of the last two parts, mixed, and then that of the first part with them
  abbrev pub triple_hash : (V → ℕ) → (W → ℕ) → (X → ℕ) → V × W × X → ℕ
  triple_hash first second last a = mixed_hash (first a.0) (mixed_hash (second a.1) (last a.2))

  pub triples_lawful : {same : V → V → Bool} {hash_of : V → ℕ} {also : W → W → Bool} {hash_also : W → ℕ}
      {too : X → X → Bool} {hash_too : X → ℕ}
      → IsLaw same hash_of → IsLaw also hash_also → IsLaw too hash_too
      → IsLaw (same_triple same also too) (triple_hash hash_of hash_also hash_too)
  triples_lawful first second last = lawful_by (pairs_lawful first (pairs_lawful second last)) nested
