use Rattle.std.proofs.Common.{List, ℕ, sym, subst}
use Rattle.table_numbered.specs.Words.{numbered}
use Rattle.table_numbered.specs.History.{IsEntry}
use Rattle.shared_set.specs.Known.{KnownView}
use Rattle.shared_interner.specs.Naming.{AreApart}
use Rattle.shared_interner.proofs.Named.{all_apart}
use Rattle.shared_interner.proofs.names.Names.symbol.Goals as goal

pub of_number-requires : goal.of_number-requires
of_number-requires g c = let known = c.requires.known in
    c.apart.ensures.numbers (numbered c.args.number known.0) (subst (λ (v : KnownView (List ℕ)). IsEntry v.history (numbered c.args.number known.0)) (sym c.self.view_is) known.1)

pub returns : goal.returns
returns g c = record {
  is = c.of_number.ensures;
  apart = subst (λ (v : KnownView (List ℕ)). AreApart v.history) c.self.view_is (all_apart c.self.inside.handle.history c.apart.ensures.entries c.apart.ensures.values);
}
