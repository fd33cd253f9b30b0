use Rattle.std.proofs.Common.{◌∙◌}
use Rattle.std.specs.Fn.{FnReturnsAt}
use Rattle.table_shared.proofs.Ahead.{on_both}
use Rattle.table_shared.proofs.growth.Growth.copy_rest.Goals as goal

pub loop-self-preserved : goal.loop-self-preserved
loop-self-preserved g c =
    let so = c.loop-self.invariant in
    let more = c.copy_window-state.ensures in (
      more.stays ∙ so.0,
      more.same.0 ∙ so.1,
      more.same.1 ∙ so.2,
      more.word.0 ∙ so.3,
      more.word.1 ∙ so.4,
      on_both g.T.AtomicValue.target (FnReturnsAt g.H.Fn c.args.hash_fn.now) c.args.self.now c.loop-self.self c.copy_window-state.new.self so.5 more.copies,
    )
