use Rattle.table_numbered.specs.Words.{numbered}
use Rattle.shared_set.proofs.Walking.{gives_after, ended, is_over}
use Rattle.shared_set.proofs.iter.IterIterator.next.Goals as goal

pub returns-in-Some-visit-clause-steps : goal.returns-in-Some-visit-clause-steps
returns-in-Some-visit-clause-steps g c =
    gives_after c.args.self.now c.loop-index.self c.visit.new.self (numbered c.in-Some-visit.entry.0 c.in-Some-visit.entry.1.now) c.loop-index.invariant c.in-Some-visit.ensures.visits

pub returns-clause-steps : goal.returns-clause-steps
returns-clause-steps g c = ended c.args.self.now c.loop-index.self c.loop-index.invariant (is_over c.loop-index.self c.next_index.result c.next_index.ensures.comes c.in_default.not-Some)
