-- Texts, by their bytes.
use Rattle.std.specs.Prelude.{◌≡◌, ℕ, ◌+◌, ◌*◌, ◌%◌, ◌^◌, Bool, true, List, refl}
use Rattle.std.specs.Bool.{Decides}
use Rattle.std.specs.List.{fold}
use Rattle.std.specs.Str.{bytes_eq}
use Rattle.std.proofs.Common.{sym, ap, ◌∙◌}
use Rattle.std.proofs.lemmas.Slice.Eq.{bytes_eq-Decides}
use Rattle.table_terms.specs.Laws.{IsLaw, mixing_factor, number_hash, number_hash_small}

-- the number of a text with one byte more: the number before, the byte and 1 are added, and the sum
-- is multiplied by an odd number, modulo 2^64
abbrev pub number_with : ℕ → ℕ → ℕ
number_with number byte = (number + (byte + 1)) % 2 ^ 64 * mixing_factor % 2 ^ 64

-- the number of a text, from 0 on
abbrev pub text_number : List ℕ → ℕ
text_number text = fold number_with 0 text

-- the hash of a text is that of its number
abbrev pub text_hash : List ℕ → ℕ
text_hash text = number_hash (text_number text)

-- the text has these bytes
abbrev pub meets_text : List ℕ → List ℕ → Bool
meets_text key text = bytes_eq text key

-- a text of these bytes has their hash
pub meeting_agrees : (key text : List ℕ) → meets_text key text ≡ true → text_hash text ≡ text_hash key
meeting_agrees key text is = ap text_hash ((bytes_eq-Decides text key).0 is)

-- values that are compared and hashed by a text of theirs
module _ {V : Type 0} (text : V → List ℕ) where
  abbrev pub same_by_text : V → V → Bool
  same_by_text a b = bytes_eq (text a) (text b)

  abbrev pub hash_by_text : V → ℕ
  hash_by_text a = text_hash (text a)

  -- the test answers true exactly for equal texts
  decides : (a b : V) → Decides (same_by_text a b) (text a ≡ text b)
  decides a b = bytes_eq-Decides (text a) (text b)

  pub text_lawful : IsLaw same_by_text hash_by_text
  text_lawful = record {
    reflexive = λ a. (decides a a).1 refl;
    symmetric = λ a b h. (decides b a).1 (sym ((decides a b).0 h));
    transitive = λ a b c h k. (decides a c).1 ((decides a b).0 h ∙ (decides b c).0 k);
    small = λ a. number_hash_small (text_number (text a));
    agrees = λ a b h. ap text_hash ((decides a b).0 h);
  }
