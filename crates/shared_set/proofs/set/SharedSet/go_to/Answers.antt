use Rattle.std.proofs.Common.{◌≡◌, suc, arith, inl, inr, refl, []}
use Rattle.std.proofs.lemmas.List.{append-nil}
use base.Growing.{prefix_trans}
use Rattle.table_chain.proofs.Chained as chained
use Rattle.shared_set.specs.Stages.{Begins, GrowsInto}
use Rattle.shared_set.proofs.Keeping.{keeps_trans}
use Rattle.shared_set.proofs.Moving.{moves_on, moved_on}
use Rattle.shared_set.proofs.set.SharedSet.go_to.Goals as goal

pub unwrap-requires : goal.unwrap-requires
unwrap-requires g c = let s = c.requires.shown in let new = c.step.new.cursor in let i = c.loop-passed.invariant in
    moves_on g.L.Law.same g.L.Law.hash_of c.step.result new.stages.log c.loop-passed.cursor.slot new.slot c.args.slot s.0 (omega (arith, i.slot, c.loop-passed-test.true)) c.step.ensures.at.seen.reached
    (chained.stands_on (Begins g.L.Law.same g.L.Law.hash_of) (GrowsInto g.L.Law.same g.L.Law.hash_of) c.args.cursor.now.stages.log new.stages.log c.args.slot s.0
    (prefix_trans c.args.cursor.now.stages.log c.loop-passed.cursor.stages.log new.stages.log i.longer c.step.ensures.longer) s.1) c.step.ensures.stepped

pub loop-passed-preserved : goal.loop-passed-preserved
loop-passed-preserved g c = let s = c.requires.shown in let new = c.step.new.cursor in let i = c.loop-passed.invariant in
    let moved : new.slot ≡ suc c.loop-passed.cursor.slot = moved_on g.L.Law.same g.L.Law.hash_of c.step.result new.stages.log c.loop-passed.cursor.slot new.slot c.args.slot s.0 (omega (arith, i.slot, c.loop-passed-test.true))
    c.step.ensures.at.seen.reached
    (chained.stands_on (Begins g.L.Law.same g.L.Law.hash_of) (GrowsInto g.L.Law.same g.L.Law.hash_of) c.args.cursor.now.stages.log new.stages.log c.args.slot s.0
    (prefix_trans c.args.cursor.now.stages.log c.loop-passed.cursor.stages.log new.stages.log i.longer c.step.ensures.longer) s.1) c.step.ensures.stepped in record {
      at = c.step.ensures.at;
      longer = prefix_trans c.args.cursor.now.stages.log c.loop-passed.cursor.stages.log new.stages.log i.longer c.step.ensures.longer;
      keeps = keeps_trans c.args.cursor.now.entries.log c.loop-passed.cursor.entries.log new.entries.log i.keeps c.step.ensures.keeps;
      slot = omega (arith, moved, i.slot);
      within = inr (omega (arith, c.loop-passed-test.true));
    }

pub loop-passed-init : goal.loop-passed-init
loop-passed-init g c = record {
  at = c.requires.at;
  longer = ([], append-nil c.args.cursor.now.stages.log);
  keeps = λ e there. there;
  slot = refl;
  within = inl refl;
}

pub returns-clause-there : goal.returns-clause-there
returns-clause-there g c = (
  omega (arith, c.loop-passed.invariant.slot, c.loop-passed.auto._passed),
  omega (arith, c.loop-passed.invariant.slot, c.loop-passed-test.false),
  elim c.loop-passed.invariant.within [
    | inl same ↦ inl same
    | inr up ↦ inr (omega (arith, c.loop-passed.invariant.slot, c.loop-passed-test.false, up))
  ],
)
