use Rattle.std.proofs.Common.{◌≡◌, ◌-◌}
use Rattle.table_numbered.specs.Ending.{IsLeaving, left_view}
use Rattle.table_numbered.proofs.ending.LeftValues.next.Given as goal

-- only buckets that have no value were passed
abbrev pub invariant-loop-self : goal.invariant-loop-self
invariant-loop-self g l = let s = l.self-inside in record {
  is : left_view s.seen.book s.seen.log s.slab.slab s.index ≡ l.fn.self;
  leaving : IsLeaving g.L.Law.same g.L.Law.hash_of s.seen.book s.seen.names s.seen.log s.slab s.index s.count;
}

abbrev pub decreases-loop-self : goal.decreases-loop-self
decreases-loop-self g l = l.generation.of.size - l.self-inside.index
