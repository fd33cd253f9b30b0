use Rattle.std.proofs.Common.{subst}
use Rattle.shared_set.specs.Sharing.{Moves}
use Rattle.shared_set.proofs.Keeping.{knows_trans}
use Rattle.shared_set.proofs.Sharing.{moves_on, moves_back}
use Rattle.shared_set.proofs.handle.Handle.insert_each.Goals as goal

pub loop-value-preserved : goal.loop-value-preserved
loop-value-preserved g c = let i = c.loop-value.invariant in let old = c.loop-value.self in let new = c.insert.new.self in record {
  known = knows_trans c.args.self.now old new i.known c.insert.ensures.known;
  moves = moves_on g.L.Law.same c.in-Placed.field-0 c.args.values.now c.next.new.self c.in-Some.value old.history new.history c.insert.ensures.known.1 c.in-Placed.ensures.told.1
      (subst (Moves c.args.values.now old.history) c.in-Some.ensures.steps i.moves);
}

pub returns-in-Found-clause-leaves : goal.returns-in-Found-clause-leaves
returns-in-Found-clause-leaves g c = let old = c.loop-value.self.history in let new = c.insert.new.self.history in
    moves_back c.args.values.now c.next.new.self c.in-Some.value c.in-Found.back old new c.in-Found.ensures.told.0 c.insert.ensures.known.1
    (subst (Moves c.args.values.now old) c.in-Some.ensures.steps c.loop-value.invariant.moves)

pub returns-in-Refused-clause-leaves : goal.returns-in-Refused-clause-leaves
returns-in-Refused-clause-leaves g c = let old = c.loop-value.self.history in let new = c.insert.new.self.history in
    moves_back c.args.values.now c.next.new.self c.in-Some.value c.in-Refused.back old new c.in-Refused.ensures.told.0 c.insert.ensures.known.1
    (subst (Moves c.args.values.now old) c.in-Some.ensures.steps c.loop-value.invariant.moves)
