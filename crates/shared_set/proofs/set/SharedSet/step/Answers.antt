use Rattle.std.proofs.Common.{◌<◌, ℕ, suc, ◌+◌, refl, subst, arith}
use Rattle.table_chain.specs.Chains.{IsOpen}
use Rattle.shared_set.specs.Stages.{stages}
use Rattle.shared_set.proofs.Courses.{outside}
use Rattle.shared_set.proofs.Keeping.{one_set, seen_of_set, at_inside, at_longer, at_next, next_grows}
use Rattle.shared_set.proofs.set.SharedSet.step.Goals as goal

pub overflow_add-next : goal.overflow_add-next
overflow_add-next g c = let k = c.args.cursor.now in
    let lt : k.slot < stages = at_inside g.L.Law.same g.L.Law.hash_of c.args.self.now.of k.slot k.stages.book k.stages.names k.stages.log k.entries.book k.entries.names k.entries.log c.requires.at in omega (arith, lt)

pub returns-then-next-eq-STAGES-clause-stepped : goal.returns-then-next-eq-STAGES-clause-stepped
returns-then-next-eq-STAGES-clause-stepped g c = let k = c.args.cursor.now in
    (refl, outside g.L.Law.same g.L.Law.hash_of stages (suc k.slot) k.stages.log c.requires.at.seen.size c.requires.at.seen.reached (omega (arith, c.if-next-eq-STAGES.true)))

pub look-requires-clause-inside : goal.look-requires-clause-inside
look-requires-clause-inside g c = let k = c.args.cursor.now in
    let lt : k.slot < stages = at_inside g.L.Law.same g.L.Law.hash_of c.args.self.now.of k.slot k.stages.book k.stages.names k.stages.log k.entries.book k.entries.names k.entries.log c.requires.at in
    omega (arith, lt, c.self.invariant.chain.slots, c.if-next-eq-STAGES.false)

pub returns-in-None-clause-at : goal.returns-in-None-clause-at
returns-in-None-clause-at g c = let k = c.args.cursor.now in let new = c.look.new.seen in
    at_longer g.L.Law.same g.L.Law.hash_of c.args.self.now.of k.slot k.stages.book k.stages.names k.stages.log k.entries.book k.entries.names k.entries.log new.book new.names new.log
    (seen_of_set g.L.Law.same g.L.Law.hash_of c.args.self.now.of c.self.inside.chain c.self.inside.slab (one_set c.self.view_is) c.self.invariant.chain.slots new.book new.names new.log c.look.ensures.of) c.look.ensures.longer c.requires.at

pub carry_over-requires : goal.carry_over-requires
carry_over-requires g c = let k = c.args.cursor.now in let new = c.look.new.seen in let at = c.requires.at in (
  at.stage,
  next_grows g.L.Law.same g.L.Law.hash_of c.args.self.now.of k.slot k.stages.book k.stages.names k.stages.log k.entries.book k.entries.names k.entries.log (k.slot + 1) c.in-Some.stage.now new.log c.look.ensures.of.3 c.look.ensures.longer
      (omega arith) c.in-Some.ensures.told at,
  at.of,
)

pub returns-in-Some-clause-at : goal.returns-in-Some-clause-at
returns-in-Some-clause-at g c = let k = c.args.cursor.now in let new = c.look.new.seen in let e = c.carry_over.new.entries in
    at_next g.L.Law.same g.L.Law.hash_of c.args.self.now.of k.slot k.stages.book k.stages.names k.stages.log k.entries.book k.entries.names k.entries.log (k.slot + 1) c.in-Some.stage.now new.book new.names new.log e.book e.names e.log
    (seen_of_set g.L.Law.same g.L.Law.hash_of c.args.self.now.of c.self.inside.chain c.self.inside.slab (one_set c.self.view_is) c.self.invariant.chain.slots new.book new.names new.log c.look.ensures.of) c.look.ensures.longer
    (omega arith) c.in-Some.ensures.told c.carry_over.ensures.of c.requires.at

pub returns-in-None-clause-stepped : goal.returns-in-None-clause-stepped
returns-in-None-clause-stepped g c = (refl, subst (λ (n : ℕ). IsOpen c.look.new.seen.log n) (omega arith) c.in-None.ensures.told)
