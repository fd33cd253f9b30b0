use Rattle.std.proofs.Common.{rules, ◌≡◌, []}
use Rattle.std.specs.Fn.{FnReturnsAt}
use Rattle.table_generations.specs.Probe.{ProbeGives}
use Rattle.table_held.proofs.Lookups.{none_if_empty, none_unless_accepted, found_one}
use Rattle.table_held.proofs.Answered.{found_as_list, none_as_list}
use Rattle.table_held.specs.Table.{held}
use Rattle.table_held.proofs.Kept.{shows_nothing}
use Rattle.table_held.proofs.raw.HeldRawTable.lookup_alone.Goals as goal

pub returns-then-capacity-eq0-clause-as_list : goal.returns-then-capacity-eq0-clause-as_list
returns-then-capacity-eq0-clause-as_list g c =
    let none : c.args.self.now.buckets ≡ [] = rw (← c.self.view_is) (shows_nothing c.self.inside.current.contents (search rules)) in
    none_as_list g.T.AtomicValue.target g.L.Law.same g.L.Law.hash_of held (FnReturnsAt g.F.Fn c.args.test) c.args.self.now c.args.hash
    (none_if_empty g.T.AtomicValue.target g.L.Law.same g.L.Law.hash_of (FnReturnsAt g.F.Fn c.args.test) c.args.self.now c.args.hash none)

pub returns-in-Accepted-clause-accepted : goal.returns-in-Accepted-clause-accepted
returns-in-Accepted-clause-accepted g c =
    let gives : ProbeGives g.T.AtomicValue.target (FnReturnsAt g.F.Fn c.args.test) c.args.self.now.buckets c.args.hash c.probe.result = rw (← c.self.view_is) c.probe.ensures in
    let accepted = rw c.in-Accepted.is at gives in
    found_one g.T.AtomicValue.target g.L.Law.same g.L.Law.hash_of (FnReturnsAt g.F.Fn c.args.test) c.args.self.now c.args.hash _ c.deref.result.now c.in-Accepted.entry.now accepted.0 accepted.1 c.deref.ensures

pub returns-in-Accepted-clause-as_list : goal.returns-in-Accepted-clause-as_list
returns-in-Accepted-clause-as_list g c =
    found_as_list g.T.AtomicValue.target g.L.Law.same g.L.Law.hash_of held (FnReturnsAt g.F.Fn c.args.test) c.args.self.now c.args.hash c.deref.result.now (returns-in-Accepted-clause-accepted g c)

pub returns : goal.returns
returns g c =
    let gives : ProbeGives g.T.AtomicValue.target (FnReturnsAt g.F.Fn c.args.test) c.args.self.now.buckets c.args.hash c.probe.result = rw (← c.self.view_is) c.probe.ensures in
    let none = none_unless_accepted g.T.AtomicValue.target g.L.Law.same g.L.Law.hash_of (FnReturnsAt g.F.Fn c.args.test) c.args.self.now c.args.hash c.probe.result gives c.in_default.not-Accepted in
    record { accepted = tt; none = none; as_list = none_as_list g.T.AtomicValue.target g.L.Law.same g.L.Law.hash_of held (FnReturnsAt g.F.Fn c.args.test) c.args.self.now c.args.hash none }
