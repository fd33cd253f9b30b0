-- What the entries of an interner say of texts and symbols.
use Rattle.std.proofs.Common.{◌≡◌, ◌∙◌, ◌<◌, ℕ, List, refl, ap, sym, subst, arith}
use Rattle.std.specs.declared.num.NonZeroU32.{NonZeroU32}
use Rattle.std.proofs.lemmas.Bool.{false≢true}
use Rattle.std.proofs.lemmas.Slice.Eq.{bytes_eq-Decides}
use mathlib.Core.HLevel.{is_prop→PathP}
use native.Mathlib.Bridge.{le_prop}
use Rattle.table_numbered.specs.Words.{numbered, of_value}
use Rattle.table_numbered.specs.History.{IsEntry, NonePasses, OneValue}
use Rattle.table_numbered.specs.declared.event.Numbered.{Numbered}
use Rattle.table_sets.specs.Texts.{same_by_text, meets_text}
use Rattle.shared_set.specs.Apart as entries
use Rattle.shared_interner.specs.declared.symbol.Symbol.{Symbol}
use Rattle.shared_interner.specs.Symbols.{number_of}
use Rattle.shared_interner.specs.Naming.{Texts, IsNamed, IsUnknown, AreApart}

same_number : (m n : NonZeroU32) → m.value ≡ n.value → m ≡ n
same_number m n is = λ i. record { value = is i; ok = is_prop→PathP (λ j. 0 < is j) (λ j. le_prop) m.ok n.ok i }

-- symbols of one entry are one
pub same_symbol : (s t : Symbol) → number_of s ≡ number_of t → s ≡ t
same_symbol s t is = let one : s.number ≡ t.number = same_number s.number t.number (omega (arith, is, s.number.ok, t.number.ok)) in λ i. record { number = one i }

-- where no two entries are the same, and no two have one number, all symbols are apart
pub all_apart : (known : Texts) → entries.AreApart (same_by_text (λ text. text)) known → OneValue known → AreApart known
all_apart known apart values = record {
  one_symbol = λ s t text one other. same_symbol s t (ap (λ (e : Numbered (List ℕ)). e.number)
      (apart (numbered (number_of s) text) (numbered (number_of t) text) one other ((bytes_eq-Decides text text).1 refl)));
  one_text = λ s a b one other. values one.0 other.0 (number_of s) a b one.1 other.1;
}

-- where no entry meets the text, it is unknown
pub none_known : (known : Texts) (text : List ℕ) → NonePasses (of_value (meets_text text)) (IsEntry known) → IsUnknown known text
none_known known text none s named = false≢true (sym (none (numbered (number_of s) text) named) ∙ (bytes_eq-Decides text text).1 refl)

-- a text of an entry is known under the symbol of its number
pub named_by : (known : Texts) (s : Symbol) (k : ℕ) (kept text : List ℕ) → number_of s ≡ k → kept ≡ text → IsEntry known (numbered k kept) → IsNamed known s text
named_by known s k kept text is same there = subst (λ (n : ℕ). IsEntry known (numbered n text)) (sym is) (subst (λ (t : List ℕ). IsEntry known (numbered k t)) same there)

-- where no entry is the same as a copy of the text, it is unknown
pub none_same : (known : Texts) (kept text : List ℕ) → kept ≡ text → NonePasses (of_value (same_by_text (λ t. t) kept)) (IsEntry known) → IsUnknown known text
none_same known kept text is none s named = false≢true (sym (none (numbered (number_of s) text) named) ∙ (bytes_eq-Decides kept text).1 is)
