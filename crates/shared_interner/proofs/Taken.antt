-- The texts of an interner of one owner keep their numbers as symbols.
use Rattle.std.proofs.Common.{◌≡◌, ◌≢◌, ◌+◌, ◌-◌, ℕ, List, length, sym, subst, ◌∙◌, arith}
use Rattle.std.proofs.lemmas.Option.{slice_get_within}
use mathlib.Core.Logic.{dite}
use native.Mathlib.Decide.{ℕ_discrete}
use Rattle.interner.specs.Texts.{HasNumber}
use Rattle.table_numbered.specs.Words.{numbered}
use Rattle.table_numbered.specs.History.{IsEntry}
use Rattle.shared_set.specs.Known.{Keeps}
use Rattle.shared_interner.specs.declared.symbol.Symbol.{Symbol}
use Rattle.shared_interner.specs.Symbols.{number_of}
use Rattle.shared_interner.specs.Naming.{Texts, IsNamed}
use Rattle.shared_interner.specs.Sharing.{KeepsNumbers, KeepsFirst}

-- one text more
pub keeps_next : (n : ℕ) (texts : List (List ℕ)) (old new : Texts) (t : Symbol) → number_of t ≡ n → Keeps old new → KeepsFirst n texts old
    → ((text : List ℕ) → HasNumber texts text (number_of t + 1) → IsNamed new t text) → KeepsFirst (n + 1) texts new
keeps_next n texts old new t is kept first one s text lt has = dite (ℕ_discrete (number_of s) n)
    (λ (e : number_of s ≡ n). let same : number_of t ≡ number_of s = is ∙ sym e in
    subst (λ (k : ℕ). IsEntry new (numbered k text)) same (one text (subst (λ (k : ℕ). HasNumber texts text (k + 1)) (sym same) has)))
    (λ (ne : number_of s ≢ n). kept (numbered (number_of s) text) (first s text (omega (arith, ne, lt)) has))

-- all of them
pub keeps_all : (texts : List (List ℕ)) (known : Texts) → KeepsFirst (length texts) texts known → KeepsNumbers texts known
keeps_all texts known first s text has = first s text (omega (arith, slice_get_within texts (number_of s + 1 - 1) text has.1)) has
