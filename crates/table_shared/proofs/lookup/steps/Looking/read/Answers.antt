use Rattle.std.proofs.Common.{ap}
use Rattle.std.specs.Prelude.{None}
use Rattle.std.specs.Fn.{FnReturnsAt}
use Rattle.table_terms.specs.Hashes.{bits_of}
use Rattle.table_core.specs.declared.call.Answer.TheVariants.{Empty, Holds}
use Rattle.table_core.specs.declared.call.CallState.{CallState}
use Rattle.table_core.specs.declared.call.Phase.TheVariants.{LookProbe}
use Rattle.std.proofs.Common.{true}
use Rattle.table_shared.proofs.Alone.{at_accepted, at_empty, at_passed}
use Rattle.table_shared.proofs.Between.{taken}
use Rattle.table_shared.proofs.LooksOn.{look_ends, look_passes}
use Rattle.table_shared.proofs.lookup.steps.Looking.read.Goals as goal

pub invariant_of-self : goal.invariant_of-self
invariant_of-self g c =
    let l = c.args.self.now in
    let is = taken LookProbe Empty l.state c.in-Empty.next c.requires.phase c.in-Empty.ensures.reads.is in
    record { between = look_ends l.between c.in-Empty.next (ap (λ (t : CallState). t.phase) is) (ap (λ (t : CallState). t.capacity) is) }

pub invariant_of-self-in-Passed : goal.invariant_of-self-in-Passed
invariant_of-self-in-Passed g c = record { between = look_passes c.args.self.now.between c.in-Passed.next c.in-Passed.asked c.requires.phase c.in-Passed.ensures.reads }

pub invariant_of-self-in-Met : goal.invariant_of-self-in-Met
invariant_of-self-in-Met g c =
    let l = c.args.self.now in
    let is = taken LookProbe (Holds true) l.state c.in-Met.next c.requires.phase c.in-Met.ensures.reads.0.is in
    record { between = look_ends l.between c.in-Met.next (ap (λ (t : CallState). t.phase) is) (ap (λ (t : CallState). t.capacity) is) }

pub returns-in-Empty-clause-alone : goal.returns-in-Empty-clause-alone
returns-in-Empty-clause-alone g c = at_empty c.args.self.now.generation c.in-Some.generation c.args.self.now.state.index c.in-Some.is _ _ _ c.in-Empty.ensures.seen

pub returns-in-Passed-clause-alone : goal.returns-in-Passed-clause-alone
returns-in-Passed-clause-alone g c =
    let l = c.args.self.now in
    rw c.passed.ensures (at_passed l.generation c.in-Some.generation l.state.index c.in-Some.is g.T.AtomicValue.target (FnReturnsAt g.F.Fn l.test) (bits_of l.state.hash) _ _ c.in-Passed.asked None c.in-Passed.ensures.seen)

pub returns-in-Met-clause-alone : goal.returns-in-Met-clause-alone
returns-in-Met-clause-alone g c =
    let l = c.args.self.now in
    at_accepted l.generation c.in-Some.generation l.state.index c.in-Some.is g.T.AtomicValue.target (FnReturnsAt g.F.Fn l.test) (bits_of l.state.hash) _ _ c.in-Met.target c.in-Met.ensures.seen
