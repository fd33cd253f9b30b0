use Rattle.std.proofs.Common.{◌≡◌, ◌∙◌, ◌+◌, ◌<◌, Some, suc, length, arith}
use Rattle.std.proofs.lemmas.List.{length-set}
use Rattle.std.specs.Fn.{FnReturnsAt}
use Rattle.table_generations.proofs.Windows.{one_more, none_more}
use Rattle.table_shared.specs.Ahead.{Holds}
use Rattle.table_shared.proofs.growth.ahead.read_window.Goals.{in-Some, in_default}
use Rattle.table_shared.proofs.growth.ahead.read_window.Goals as goal

pub loop-ahead-preserved : goal.loop-ahead-preserved
loop-ahead-preserved g c =
    let (long, few, so) = c.loop-ahead.invariant in
    let from = c.args.from.now in
    let of = Holds g.T.AtomicValue.target (FnReturnsAt g.H.Fn c.args.hash_fn.now) from in
    let first = c.args.first in
    let found = c.loop-ahead.found in
    let i = first + c.loop-ahead.ahead in
    let next : first + (c.loop-ahead.ahead + 1) ≡ i + 1 = omega arith in
    elim c.match-read_ahead.branch [
      | in-Some w ↦
          let here = rw w.in-Some.is at c.read_ahead.ensures in
          let more : found + 1 ≡ suc found = omega arith in
          let count = c.min-count.ensures in
          let within : found < length c.loop-ahead.window = omega arith in
          rw (w.window-is, w.found-is, next, more) (length-set c.loop-ahead.window found _ ∙ long, omega arith, one_more from.contents of first found 0 i found (Some w.in-Some.read) c.loop-ahead.window (omega arith) within here so)
      | in_default w ↦
          let here = rw w.in_default.is at c.read_ahead.ensures in
          rw (w.window-is, w.found-is, next) (long, omega arith, none_more from.contents of first found 0 i c.loop-ahead.window here so)
    ]
