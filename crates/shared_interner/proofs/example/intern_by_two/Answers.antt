use Rattle.std.proofs.Common.{List, ℕ, sym, subst, rules}
use Rattle.table_numbered.specs.Words.{numbered}
use Rattle.shared_set.specs.Known.{KnownView}
use Rattle.shared_interner.specs.Symbols.{number_of}
use Rattle.shared_interner.specs.Naming.{IsNamed}
use Rattle.shared_interner.proofs.example.intern_by_two.Goals as goal

pub returns-clause-named : goal.returns-clause-named
returns-clause-named g c = let text = c.args.text.now in let one = c.in_ok-one.one in let e = numbered (number_of one.symbol) text in let told : IsNamed one.known.history one.symbol text = search rules in
    subst (λ (v : KnownView (List ℕ)). IsNamed v.history one.symbol text) (sym c.tell.ensures) (c.hear-2.ensures.known.1 e (c.hear.ensures.theirs e told))

pub returns-clause-same : goal.returns-clause-same
returns-clause-same g c = let text = c.args.text.now in let one = c.in_ok-one.one in let other = c.in_ok-other.other in let e = numbered (number_of one.symbol) text in let f = numbered (number_of other.symbol) text in
    let told : IsNamed one.known.history one.symbol text = search rules in let theirs : IsNamed other.known.history other.symbol text = search rules in
    c.apart.ensures.one_symbol other.symbol one.symbol text (c.hear-2.ensures.theirs f theirs) (c.hear-2.ensures.known.1 e (c.hear.ensures.theirs e told))
