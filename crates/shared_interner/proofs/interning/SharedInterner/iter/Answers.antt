use Rattle.table_numbered.specs.Words.{numbered}
use Rattle.shared_interner.specs.Symbols.{number_of}
use Rattle.shared_interner.proofs.interning.SharedInterner.iter.Goals as goal

pub returns-clause-keeps : goal.returns-clause-keeps
returns-clause-keeps g c = rw c.iter.ensures.begins.history (λ e there. c.iter.ensures.known.1 e (c.names-names.ensures.keeps e there))

pub returns-clause-all : goal.returns-clause-all
returns-clause-all g c = λ items drains s text there. let e = numbered (number_of s) text in
    c.iter.ensures.all items drains s text (c.iter.ensures.known.1 e (c.names-names.ensures.keeps e there))
