-- What becomes of the texts of an interner of one owner that is shared.
use Rattle.std.specs.Prelude.{◌≡◌, ℕ, ◌+◌, ◌<◌, List}
use Rattle.interner.specs.Texts.{HasNumber}
use Rattle.shared_interner.specs.declared.share.Shared.{Shared}
use Rattle.shared_interner.specs.declared.symbol.Symbol.{Symbol}
use Rattle.shared_interner.specs.Symbols.{number_of}
use Rattle.shared_interner.specs.Naming.{Texts, IsNamed}

-- each text is known under the symbol that is its number
abbrev pub KeepsNumbers : List (List ℕ) → Texts → Type 0
KeepsNumbers texts known = (s : Symbol) (text : List ℕ) → HasNumber texts text (number_of s + 1) → IsNamed known s text

-- the same of the first n texts
abbrev pub KeepsFirst : ℕ → List (List ℕ) → Texts → Type 0
KeepsFirst n texts known = (s : Symbol) (text : List ℕ) → number_of s < n → HasNumber texts text (number_of s + 1) → IsNamed known s text

-- what is known is of this interner, and of each text; each new handle of the interner knows the same
pub record Shares {A : Type 0} (texts : List (List ℕ)) (s : Shared A) : Type 0 where
  pub of : s.known.of ≡ s.interner.of
  pub numbers : KeepsNumbers texts s.known.history
  pub handles : s.interner.known ≡ s.known.history
