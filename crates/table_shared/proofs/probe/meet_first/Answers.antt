use Rattle.std.proofs.Common.{refl}
use Rattle.std.specs.Fn.{FnReturnsAtPair}
use Rattle.table_shared.proofs.Looked.{accepted_of, passed_of}
use Rattle.table_shared.proofs.Takes.{accepts_entry, passes_entry}
use Rattle.table_shared.proofs.probe.meet_first.Goals as goal

pub meet-requires-clause-meets : goal.meet-requires-clause-meets
meet-requires-clause-meets g c = rw c.requires.phase tt

pub unreachable-requires : goal.unreachable-requires
unreachable-requires g c = c.in-Empty.ensures

pub returns-in-Passed-clause-puts : goal.returns-in-Passed-clause-puts
returns-in-Passed-clause-puts g c = (c.in-Passed.ensures.0.went, passes_entry c.args.state c.in-Passed.next c.in-Passed.asked (rw c.requires.phase tt) c.requires.stands c.requires.pending c.in-Passed.ensures.0, refl)

pub returns-in-Passed-clause-tells : goal.returns-in-Passed-clause-tells
returns-in-Passed-clause-tells g c = passed_of g.T.AtomicValue.target (FnReturnsAtPair g.E.Fn c.args.eq.now (g.T.AtomicValue.target c.args.value)) _ _ _ _ c.alike_entry-target.ensures c.in-Passed.ensures.1

pub returns-in-Met-clause-puts : goal.returns-in-Met-clause-puts
returns-in-Met-clause-puts g c = (c.in-Met.ensures.0.went, accepts_entry c.args.state c.in-Met.next (rw c.requires.phase tt) c.in-Met.ensures.0, refl, c.in-Met.ensures.1)

pub returns-in-Met-clause-tells : goal.returns-in-Met-clause-tells
returns-in-Met-clause-tells g c = accepted_of g.T.AtomicValue.target (FnReturnsAtPair g.E.Fn c.args.eq.now (g.T.AtomicValue.target c.args.value)) _ _ _ _ c.alike_entry-target.ensures c.in-Met.ensures.2 c.in-Met.ensures.1
