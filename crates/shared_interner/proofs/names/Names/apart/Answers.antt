use Rattle.std.proofs.Common.{List, ℕ, subst}
use Rattle.shared_set.specs.Known.{KnownView}
use Rattle.shared_interner.specs.Naming.{OneSymbol, OneText}
use Rattle.shared_interner.proofs.Named.{all_apart}
use Rattle.shared_interner.proofs.names.Names.apart.Goals as goal

pub returns-clause-one_symbol : goal.returns-clause-one_symbol
returns-clause-one_symbol g c = subst (λ (v : KnownView (List ℕ)). OneSymbol v.history) c.self.view_is (all_apart c.self.inside.handle.history c.apart.ensures.entries c.apart.ensures.values).one_symbol

pub returns-clause-one_text : goal.returns-clause-one_text
returns-clause-one_text g c = subst (λ (v : KnownView (List ℕ)). OneText v.history) c.self.view_is (all_apart c.self.inside.handle.history c.apart.ensures.entries c.apart.ensures.values).one_text
