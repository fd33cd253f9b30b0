use Rattle.shared_set.proofs.Keeping.{keeps_trans}
use Rattle.shared_set.proofs.set.SharedSet.iter.Goals as goal

pub returns-clause-keeps : goal.returns-clause-keeps
returns-clause-keeps g c = let old = c.handle-handle.result.history in let new = c.iter.new.self.history in
    rw c.iter.ensures.begins.history (keeps_trans c.args.self.now.known old new c.handle-handle.ensures.keeps c.iter.ensures.known.1)

pub returns-clause-all : goal.returns-clause-all
returns-clause-all g c = λ items drains e there. c.iter.ensures.all items drains e (c.iter.ensures.known.1 e (c.handle-handle.ensures.keeps e there))
