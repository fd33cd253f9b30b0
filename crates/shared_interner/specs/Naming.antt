-- Which text has which symbol, by what a thread knows of an interner.
use Rattle.std.specs.Prelude.{◌≡◌, ℕ, List, Option, Some, None}
use Rattle.std.specs.Borrow.{Bor}
use Rattle.table_numbered.specs.Words.{numbered}
use Rattle.table_numbered.specs.Walking.{IsTaken}
use Rattle.table_numbered.specs.History.{History, IsEntry}
use Rattle.table_numbered.specs.declared.event.Numbered.{Numbered}
use Rattle.shared_interner.specs.declared.symbol.Symbol.{Symbol}
use Rattle.shared_interner.specs.Symbols.{number_of}

-- what is known of an interner: texts, each as the list of its bytes, with the numbers of their entries
abbrev pub Texts : Type 0
Texts = History (Numbered (List ℕ))

-- the text is known, under this symbol
abbrev pub IsNamed : Texts → Symbol → List ℕ → Type 0
IsNamed known s text = IsEntry known (numbered (number_of s) text)

-- the symbol is that of a known text
abbrev pub IsSymbol : Texts → Symbol → Type 0
IsSymbol known s = IsTaken known (number_of s)

-- the text is not known
abbrev pub IsUnknown : Texts → List ℕ → Type 0
IsUnknown known text = (s : Symbol) → IsNamed known s text → ⊥

-- a text has one symbol
abbrev pub OneSymbol : Texts → Type 0
OneSymbol known = (s t : Symbol) (text : List ℕ) → IsNamed known s text → IsNamed known t text → s ≡ t

-- a symbol has one text
abbrev pub OneText : Texts → Type 0
OneText known = (s : Symbol) (a b : List ℕ) → IsNamed known s a → IsNamed known s b → a ≡ b

-- different symbols have different texts, and different texts have different symbols
pub record AreApart (known : Texts) : Type 0 where
  pub one_symbol : OneSymbol known
  pub one_text : OneText known

-- the text is known under this symbol, and all symbols are apart
pub record IsSymbolOf (known : Texts) (text : List ℕ) (s : Symbol) : Type 0 where
  pub named : IsNamed known s text
  pub apart : AreApart known

-- the symbol is that of the entry with this number, and all symbols are apart
pub record HasSymbol (known : Texts) (number : ℕ) (s : Symbol) : Type 0 where
  pub is : number_of s ≡ number
  pub apart : AreApart known

-- a look-up of a text gives its symbol, and None where no known text is this one
abbrev pub FindsSymbol : Texts → List ℕ → Option Symbol → Type 0
FindsSymbol known text (Some s) = IsSymbolOf known text s
FindsSymbol known text None = IsUnknown known text

-- a look-up of a symbol gives its text, and None where it is the symbol of no known text
abbrev pub FindsText : Texts → Symbol → Option (Bor (List ℕ)) → Type 0
FindsText known s (Some text) = IsSymbolOf known text.now s
FindsText known s None = IsSymbol known s → ⊥
