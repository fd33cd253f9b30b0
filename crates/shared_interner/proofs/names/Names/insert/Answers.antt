use Rattle.table_sets.specs.Texts.{same_by_text}
use Rattle.shared_set.proofs.Placing.{placed_entry}
use Rattle.shared_interner.proofs.Named.{named_by, none_same}
use Rattle.shared_interner.proofs.names.Names.insert.Goals as goal

pub symbol-requires : goal.symbol-requires
symbol-requires g c = record { known = (c.in-Ok.copy, placed_entry (same_by_text (λ text. text)) c.in-Placed.number c.in-Ok.copy c.self.inside.handle.history c.insert.new.self.history c.in-Placed.ensures.told.1) }

pub returns-in-Placed-clause-named : goal.returns-in-Placed-clause-named
returns-in-Placed-clause-named g c = record {
  named = named_by c.insert.new.self.history c.symbol.result c.in-Placed.number c.in-Ok.copy c.args.text.now c.symbol.ensures.is c.in-Ok.ensures
      (placed_entry (same_by_text (λ text. text)) c.in-Placed.number c.in-Ok.copy c.self.inside.handle.history c.insert.new.self.history c.in-Placed.ensures.told.1);
  apart = c.symbol.ensures.apart;
}

pub returns-clause-refused : goal.returns-clause-refused
returns-clause-refused g c = none_same c.insert.new.self.history c.in-Ok.copy c.args.text.now c.in-Ok.ensures c.in-Refused.ensures.told.1
