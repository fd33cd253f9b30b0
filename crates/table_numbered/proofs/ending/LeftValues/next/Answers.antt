use Rattle.std.proofs.Common.{◌∙◌, ◌<◌, ap, sym, arith}
use Rattle.table_numbered.specs.Generations.{SetView}
use Rattle.table_numbered.specs.History.{size_of}
use Rattle.table_numbered.specs.Ending.{LeftView}
use Rattle.table_numbered.proofs.Endings.{leaving_some, leaving_none}
use Rattle.table_numbered.proofs.ending.LeftValues.next.Goals as goal

pub invariant_of-self-in-Some : goal.invariant_of-self-in-Some
invariant_of-self-in-Some g c = let s = c.loop-self.self-inside in let inv = c.loop-self.invariant in let e = c.in-Some.ensures in
    let lt : s.index < size_of s.seen.log = omega (arith, c.loop-self-test.true, c.buckets.ensures.size, ap (λ (t : SetView). t.size) c.requires.of, ap (λ (v : LeftView g.row.V.Denot). v.of.size) inv.is) in
    (leaving_some g.L.Law.same g.L.Law.hash_of s.seen.book s.seen.names s.seen.log s.slab c.take_at.new.slab s.index s.count c.in-Some.value inv.leaving lt e.slab e.left e.taken).1

pub returns-in-Some-clause-next : goal.returns-in-Some-clause-next
returns-in-Some-clause-next g c = let s = c.loop-self.self-inside in let inv = c.loop-self.invariant in let e = c.in-Some.ensures in
    let lt : s.index < size_of s.seen.log = omega (arith, c.loop-self-test.true, c.buckets.ensures.size, ap (λ (t : SetView). t.size) c.requires.of, ap (λ (v : LeftView g.row.V.Denot). v.of.size) inv.is) in
    sym (ap (λ (v : LeftView g.row.V.Denot). v.left) inv.is)
    ∙ (leaving_some g.L.Law.same g.L.Law.hash_of s.seen.book s.seen.names s.seen.log s.slab c.take_at.new.slab s.index s.count c.in-Some.value inv.leaving lt e.slab e.left e.taken).0

pub loop-self-preserved : goal.loop-self-preserved
loop-self-preserved g c = let s = c.loop-self.self-inside in let inv = c.loop-self.invariant in let e = c.in_default.ensures in
    let lt : s.index < size_of s.seen.log = omega (arith, c.loop-self-test.true, c.buckets.ensures.size, ap (λ (t : SetView). t.size) c.requires.of, ap (λ (v : LeftView g.row.V.Denot). v.of.size) inv.is) in
    let passed = leaving_none g.L.Law.same g.L.Law.hash_of s.seen.book s.seen.names s.seen.log s.slab c.take_at.new.slab s.index s.count inv.leaving lt e.slab e.left e.taken in record {
      is = passed.0 ∙ inv.is;
      leaving = passed.1;
    }
