-- When two lines are the same, and their hash: that of a text.
use Rattle.std.specs.Prelude.{ℕ, Bool, List}
use Rattle.interner.specs.Hashes.{mixed_hash, mixed_hash_small}
use Rattle.interner.specs.Texts.{same_by_text, hash_by_text, text_lawful}
use Rattle.table_terms.specs.Laws.{IsLaw}

-- values that are compared and hashed by bytes of theirs
module _ {V : Type 0} (bytes : V → List ℕ) where
  abbrev pub same_by_bytes : V → V → Bool
  same_by_bytes a b = same_by_text bytes a b

  abbrev pub hash_by_bytes : V → ℕ
  hash_by_bytes a = hash_by_text bytes mixed_hash a

  pub bytes_lawful : IsLaw same_by_bytes hash_by_bytes
  bytes_lawful = text_lawful bytes mixed_hash mixed_hash_small
