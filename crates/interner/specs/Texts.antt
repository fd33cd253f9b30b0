-- Texts and their numbers. A text is the list of its bytes.
use Rattle.std.specs.Prelude.{◌≡◌, ℕ, ◌-◌, ◌<◌, ◌^◌, Bool, List, Option, Some, None, Contains, slice_get, refl}
use Rattle.std.specs.Bool.{Decides}
use Rattle.std.specs.Str.{bytes_eq}
use Rattle.std.specs.Int.NonZero.{non_zero_u32_get}
use Rattle.std.specs.declared.num.NonZeroU32.{NonZeroU32}
use Rattle.std.proofs.Common.{sym, ap, ◌∙◌}
use Rattle.std.proofs.lemmas.Slice.Eq.{bytes_eq-Decides}
use Rattle.table_terms.specs.Laws.{IsLaw}

-- values that are compared and hashed by a text of theirs, by any hash of texts
abbrev pub same_by_text : {V : Type 0} → (V → List ℕ) → V → V → Bool
same_by_text text a b = bytes_eq (text a) (text b)

module _ {V : Type 0} (text : V → List ℕ) (hash : List ℕ → ℕ) where
  abbrev pub hash_by_text : V → ℕ
  hash_by_text a = hash (text a)

  -- the test answers true exactly for equal texts
  decides : (a b : V) → Decides (same_by_text text a b) (text a ≡ text b)
  decides a b = bytes_eq-Decides (text a) (text b)

  pub text_lawful : ((x : List ℕ) → hash x < 2 ^ 64) → IsLaw (same_by_text text) hash_by_text
  text_lawful hash_small = record {
    reflexive = λ a. (decides a a).1 refl;
    symmetric = λ a b h. (decides b a).1 (sym ((decides a b).0 h));
    transitive = λ a b c h k. (decides a c).1 ((decides a b).0 h ∙ (decides b c).0 k);
    small = λ a. hash_small (text a);
    agrees = λ a b h. ap hash ((decides a b).0 h);
  }

-- the greatest number that is given
abbrev pub greatest_number : ℕ
greatest_number = 2 ^ 32 - 1

-- the text of this number, counted from 1 in the order of the texts, is this one
abbrev pub HasNumber : List (List ℕ) → List ℕ → ℕ → Type 0
HasNumber texts text number = (0 < number) × (slice_get texts (number - 1) ≡ Some text)

-- no text stands twice: equal texts have one number
abbrev pub AllDifferent : List (List ℕ) → Type 0
AllDifferent texts =
    (text : List ℕ) (m n : ℕ) → HasNumber texts text m → HasNumber texts text n → m ≡ n

-- the number of the text is answered, and None where the text has none
abbrev pub FindsNumber : List (List ℕ) → List ℕ → Option NonZeroU32 → Type 0
FindsNumber texts text (Some number) = HasNumber texts text (non_zero_u32_get number)
FindsNumber texts text None = ¬ Contains texts text
