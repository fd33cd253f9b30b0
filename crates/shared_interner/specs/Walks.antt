-- What a walk over the texts of an interner gives.
use Rattle.std.specs.Prelude.{ℕ, ◌==◌, List, Option, Some, None, map, Contains}
use Rattle.std.specs.Borrow.{Bor}
use Rattle.std.specs.Iterator.{Yields, Drains}
use Rattle.table_terms.specs.Laws.{AllApart}
use Rattle.table_numbered.specs.Words.{numbered}
use Rattle.shared_set.specs.Walks.{WalkView, HasEnded, Gives}
use Rattle.shared_interner.specs.declared.symbol.Symbol.{Symbol}
use Rattle.shared_interner.specs.Symbols.{number_of}
use Rattle.shared_interner.specs.Naming.{Texts, IsNamed}

-- a walk over the entries of an interner: of which one it is, what was known as it began, and what is known by now
abbrev pub TextWalk : Type 0
TextWalk = WalkView (List ℕ)

-- what a step of the walk shows: a symbol, and its text
abbrev pub Shown : Type 0
Shown = Symbol × Bor (List ℕ)

-- a step of the walk
abbrev pub WalksOn : TextWalk → Option Shown → TextWalk → Type 0
WalksOn old None new = HasEnded old new
WalksOn old (Some e) new = Gives old (numbered (number_of e.0) e.1.now) new

-- the symbols that a walk has given, each with its text
abbrev pub given : List Shown → List (Symbol × List ℕ)
given items = map (λ e. (e.0, e.1.now)) items

-- however far the walk comes, it has given no symbol twice
abbrev pub NeverTwice : TextWalk → Type 0
NeverTwice w = (items : List Shown) (last : TextWalk) → Yields WalksOn w items last
    → AllApart (λ (s : Symbol) e. number_of s == number_of e.0) items

-- however far the walk comes, each text that it has given is known then, under the symbol that came with it
abbrev pub GivesNamed : TextWalk → Type 0
GivesNamed w = (items : List Shown) (last : TextWalk) → Yields WalksOn w items last
    → (s : Symbol) (text : List ℕ) → Contains (given items) (s, text) → IsNamed last.history s text

-- once the walk has ended, it has given each of the known texts, with its symbol
abbrev pub GivesAllOf : Texts → TextWalk → Type 0
GivesAllOf known w = (items : List Shown) → Drains WalksOn w items
    → (s : Symbol) (text : List ℕ) → IsNamed known s text → Contains (given items) (s, text)
