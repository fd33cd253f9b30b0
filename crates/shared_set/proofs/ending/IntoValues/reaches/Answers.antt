use Rattle.std.proofs.Common.{◌≤◌, ◌+◌, ◌∙◌, ap, sym, subst, refl, arith}
use base.Growing.{prefix_refl}
use Rattle.table_numbered.specs.History.{History}
use Rattle.table_numbered.specs.declared.event.Numbered.{Numbered}
use Rattle.shared_set.specs.Known.{Keeps}
use Rattle.shared_set.specs.Ending.{EndedView}
use Rattle.shared_set.proofs.Keeping.{keeps_trans, seen_of_chain, seen_on, at_longer, next_grows, at_next}
use Rattle.shared_set.proofs.Ended.{not_beyond, stage_at, ended_book}
use Rattle.shared_set.proofs.ending.IntoValues.reaches.Goals as goal

pub learn-requires : goal.learn-requires
learn-requires g c = c.self.invariant.seen.of_chain ∙ (ap (λ (e : EndedView g.row.V.Denot). e.of.book) c.self.view_is ∙ sym c.requires.at.seen.of_chain)

pub loop-slot-init : goal.loop-slot-init
loop-slot-init g c = let k = c.args.from in let new = c.learn.new.self in let e = c.learn.ensures in record {
  at = at_longer g.L.Law.same g.L.Law.hash_of c.args.self.now.of k.slot k.stages.book k.stages.names k.stages.log k.entries.book k.entries.names k.entries.log new.book new.names new.log
      (seen_on g.L.Law.same g.L.Law.hash_of c.args.self.now.of k.stages.book new.book k.stages.names new.names k.stages.log new.log e.0 e.1 e.2 e.4 c.requires.at.seen) e.2 c.requires.at;
  longer = e.3;
  keeps = λ x there. there;
  slot = refl;
}

pub get-stage-requires-clause-of : goal.get-stage-requires-clause-of
get-stage-requires-clause-of g c = let i = c.self.invariant in let s = c.self.inside in let t = c.loop-slot.cursor.stages in
    seen_of_chain g.L.Law.same g.L.Law.hash_of c.args.self.now.of s.chain s.values.of.slab (ap (λ (e : EndedView g.row.V.Denot). e.of) c.self.view_is) i.slots t.book t.names t.log c.loop-slot.invariant.at.seen

pub get-stage-requires-clause-there : goal.get-stage-requires-clause-there
get-stage-requires-clause-there g c = let i = c.self.invariant in let s = c.self.inside in let inv = c.loop-slot.invariant in
    stage_at g.L.Law.same g.L.Law.hash_of s.chain s.stages.book s.stages.names s.stages.log s.slot s.values i c.loop-slot.cursor.stages.log (c.loop-slot.slot + 1) inv.longer inv.at.seen.reached (omega (arith, c.loop-slot-test.true))

pub carry_over-requires : goal.carry_over-requires
carry_over-requires g c = let inv = c.loop-slot.invariant in let k = c.loop-slot.cursor in (
  inv.at.stage,
  next_grows g.L.Law.same g.L.Law.hash_of c.args.self.now.of k.slot k.stages.book k.stages.names k.stages.log k.entries.book k.entries.names k.entries.log (c.loop-slot.slot + 1) c.get-stage.result.now k.stages.log inv.at.seen.reached
      (prefix_refl k.stages.log) (omega (arith, inv.slot)) c.get-stage.ensures.there inv.at,
  inv.at.of,
)

pub loop-slot-preserved : goal.loop-slot-preserved
loop-slot-preserved g c = let inv = c.loop-slot.invariant in let k = c.loop-slot.cursor in let e = c.carry_over.new.entries in record {
  at = at_next g.L.Law.same g.L.Law.hash_of c.args.self.now.of k.slot k.stages.book k.stages.names k.stages.log k.entries.book k.entries.names k.entries.log (c.loop-slot.slot + 1) c.get-stage.result.now k.stages.book k.stages.names k.stages.log
      e.book e.names e.log inv.at.seen (prefix_refl k.stages.log) (omega (arith, inv.slot)) c.get-stage.ensures.there c.carry_over.ensures.of inv.at;
  longer = inv.longer;
  keeps = keeps_trans c.args.from.entries.log k.entries.log e.log inv.keeps c.carry_over.ensures.keeps;
  slot = refl;
}

pub has_all-requires : goal.has_all-requires
has_all-requires g c = let i = c.self.invariant in let s = c.self.inside in let inv = c.loop-slot.invariant in let k = c.loop-slot.cursor in let from = c.args.from in
    let le : from.slot ≤ s.slot = not_beyond g.L.Law.same g.L.Law.hash_of s.chain s.stages.book s.stages.names s.stages.log s.slot s.values i from.stages.log c.learn.new.self.log from.slot c.requires.at.stage c.learn.ensures.2 c.learn.ensures.3 c.learn.ensures.4 c.requires.at.shown in record {
      of = ended_book g.L.Law.same g.L.Law.hash_of s.chain s.stages.book s.stages.names s.stages.log s.slot s.values i c.args.self.now.of k.slot k.stages.book k.stages.names k.stages.log k.entries.book k.entries.names k.entries.log inv.longer
          (omega (arith, le, inv.slot, c.loop-slot-test.false, c.loop-slot.auto.slot-end)) inv.at;
    }

pub returns : goal.returns
returns g c = subst (λ (h : History (Numbered g.row.V.Denot)). Keeps c.args.from.entries.log h) (ap (λ (e : EndedView g.row.V.Denot). e.history) c.self.view_is)
    (keeps_trans c.args.from.entries.log c.loop-slot.cursor.entries.log c.self.inside.values.history c.loop-slot.invariant.keeps c.has_all.ensures)
