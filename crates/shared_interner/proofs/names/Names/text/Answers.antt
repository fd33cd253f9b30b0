use Rattle.std.proofs.Common.{List, ℕ, sym, subst}
use Rattle.table_numbered.specs.Walking.{IsTaken}
use Rattle.shared_set.specs.Known.{KnownView, KnowsMore}
use Rattle.shared_interner.proofs.names.Names.text.Goals as goal

pub returns-in-None-clause-known : goal.returns-in-None-clause-known
returns-in-None-clause-known g c = subst (λ (v : KnownView (List ℕ)). KnowsMore v c.entry.new.self) c.self.view_is c.in-None.ensures.known

pub returns-in-None-clause-finds : goal.returns-in-None-clause-finds
returns-in-None-clause-finds g c there = c.in-None.ensures.finds (subst (IsTaken c.entry.new.self.history) (sym c.number.ensures) there)
