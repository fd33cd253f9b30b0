use Rattle.shared_set.proofs.Ended.{ended_seen, ended_of, ended_on}
use Rattle.shared_set.proofs.ending.IntoValuesIterator.next.Goals as goal

pub get-stage-requires-clause-of : goal.get-stage-requires-clause-of
get-stage-requires-clause-of g c = let i = c.self.invariant in let s = c.self.inside in ended_seen g.L.Law.same g.L.Law.hash_of s.chain s.stages.book s.stages.names s.stages.log s.slot s.values i

pub get-stage-requires-clause-there : goal.get-stage-requires-clause-there
get-stage-requires-clause-there g c = let i = c.self.invariant in (i.stage, i.shown)

pub next-requires : goal.next-requires
next-requires g c = let i = c.self.invariant in let s = c.self.inside in record {
  of = ended_of g.L.Law.same g.L.Law.hash_of s.chain s.stages.book s.stages.names s.stages.log s.slot s.values i c.get-stage.result.now c.generation.result.now c.get-stage.ensures.there c.generation.ensures;
}

pub invariant_of-self : goal.invariant_of-self
invariant_of-self g c = let i = c.self.invariant in let s = c.self.inside in ended_on g.L.Law.same g.L.Law.hash_of s.chain s.stages.book s.stages.names s.stages.log s.slot s.values c.next.new.self c.next.ensures.same.0 i
