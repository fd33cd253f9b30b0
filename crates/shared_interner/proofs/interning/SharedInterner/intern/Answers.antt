use Rattle.table_numbered.specs.declared.event.Numbered.{Numbered}
use Rattle.std.proofs.Common.{List, ℕ}
use Rattle.shared_set.specs.Known.{Keeps}
use Rattle.shared_interner.proofs.interning.SharedInterner.intern.Goals as goal

pub returns : goal.returns
returns g c =
    let keeps : Keeps c.args.self.now.known c.intern.new.self.history = λ e there. c.intern.ensures.known.1 e (c.names-names.ensures.keeps e there) in record {
      named = (c.intern.new.self.history, keeps, c.intern.ensures.named);
      refused = (c.intern.new.self.history, keeps, c.intern.ensures.refused);
    }
