use Rattle.std.proofs.Common.{◌≡◌, ◌<◌, ◌-◌, ◌+◌, ◌∙◌, ap, sym, refl, subst, arith}
use mathlib.Core.List.{IsPrefix}
use Rattle.table_slab.specs.Held.{StandsAt}
use Rattle.table_slab.specs.Shelved.{slab_of}
use Rattle.table_slab.specs.Slabs.{SlabView}
use Rattle.table_chain.specs.declared.event.Stored.TheVariants.{Shown}
use Rattle.table_chain.specs.History.{Has, Stands}
use Rattle.table_chain.specs.Chains.{EndingView}
use Rattle.table_chain.proofs.Chained.{one_value, differ_before}
use Rattle.table_chain.proofs.Ended.{next_shown, ending_on}
use Rattle.table_chain.proofs.ending.Ending.next.Goals as goal

pub overflow_sub-number : goal.overflow_sub-number
overflow_sub-number g c = let s = c.self.inside in let after = c.look-number.new.seen.log in let e = c.look-number.ensures in let lt : s.taken < s.count = omega (arith, c.if-self.false, c.self.invariant.some) in
    (next_shown g.F.Follows.begins g.F.Follows.follows s.seen.book s.seen.names s.left s.seen.log after s.words.items s.count s.taken c.look-number.result c.index.result.now c.self.invariant lt c.index.ensures
    (subst (λ l. IsPrefix l after) (ap (λ x. x.log) c.again-later.ensures) e.longer) e.reached e.told).set

pub known-standing-requires : goal.known-standing-requires
known-standing-requires g c = let s = c.self.inside in let after = c.look-number.new.seen.log in let e = c.look-number.ensures in let lt : s.taken < s.count = omega (arith, c.if-self.false, c.self.invariant.some) in
    let n = next_shown g.F.Follows.begins g.F.Follows.follows s.seen.book s.seen.names s.left s.seen.log after s.words.items s.count s.taken c.look-number.result c.index.result.now c.self.invariant lt c.index.ensures
    (subst (λ l. IsPrefix l after) (ap (λ x. x.log) c.again-later.ensures) e.longer) e.reached e.told in record { there = (n.value, n.later) }

pub take_out-requires-clause-number : goal.take_out-requires-clause-number
take_out-requires-clause-number g c = let s = c.self.inside in let names = c.look-number.ensures.same.1 ∙ ap (λ x. x.names) c.again-later.ensures in
    subst (λ (v : SlabView). StandsAt v (c.look-number.result - 2) c.known-standing.result) (ap slab_of names ∙ sym c.self.invariant.slab) c.known-standing.ensures.of

pub take_out-requires-clause-left : goal.take_out-requires-clause-left
take_out-requires-clause-left g c = let s = c.self.inside in let after = c.look-number.new.seen.log in let e = c.look-number.ensures in let lt : s.taken < s.count = omega (arith, c.if-self.false, c.self.invariant.some) in
    (next_shown g.F.Follows.begins g.F.Follows.follows s.seen.book s.seen.names s.left s.seen.log after s.words.items s.count s.taken c.look-number.result c.index.result.now c.self.invariant lt c.index.ensures
    (subst (λ l. IsPrefix l after) (ap (λ x. x.log) c.again-later.ensures) e.longer) e.reached e.told).is_left

pub invariant_of-self : goal.invariant_of-self
invariant_of-self g c = let s = c.self.inside in let after = c.look-number.new.seen.log in let e = c.look-number.ensures in let lt : s.taken < s.count = omega (arith, c.if-self.false, c.self.invariant.some) in
    let n = next_shown g.F.Follows.begins g.F.Follows.follows s.seen.book s.seen.names s.left s.seen.log after s.words.items s.count s.taken c.look-number.result c.index.result.now c.self.invariant lt c.index.ensures
    (subst (λ l. IsPrefix l after) (ap (λ x. x.log) c.again-later.ensures) e.longer) e.reached e.told in
    ending_on g.F.Follows.begins g.F.Follows.follows s.seen.book s.seen.names s.left c.take_out.new.self s.seen.log s.words.items s.count s.taken n.number n.value c.self.invariant lt n.there
    (differ_before s.seen.log after (subst (λ l. IsPrefix l after) (ap (λ x. x.log) c.again-later.ensures) e.longer) c.known-standing.ensures.numbers)
    c.take_out.ensures.slab (λ j ne. c.take_out.ensures.others j (λ is. ne (is ∙ sym n.is)))

pub returns-clause-some : goal.returns-clause-some
returns-clause-some g c = let s = c.self.inside in let after = c.look-number.new.seen.log in let e = c.look-number.ensures in let lt : s.taken < s.count = omega (arith, c.if-self.false, c.self.invariant.some) in
    let n = next_shown g.F.Follows.begins g.F.Follows.follows s.seen.book s.seen.names s.left s.seen.log after s.words.items s.count s.taken c.look-number.result c.index.result.now c.self.invariant lt c.index.ensures
    (subst (λ l. IsPrefix l after) (ap (λ x. x.log) c.again-later.ensures) e.longer) e.reached e.told in
    let is = one_value g.F.Follows.begins g.F.Follows.follows after s.taken (c.look-number.result - 2) (c.look-number.result - 2) n.value c.known-standing.result.written.value e.reached n.later c.known-standing.ensures.value in
    subst (λ (v : EndingView g.row.G.Denot). Stands v.log v.taken c.take_out.result × (v.taken < v.count) × (s.taken + 1 ≡ v.taken + 1)) c.self.view_is
    ((n.number, subst (λ (x : g.row.G.Denot). Has s.seen.log s.taken n.number (Shown x)) (is ∙ sym c.take_out.ensures.value) n.there), lt, refl)
