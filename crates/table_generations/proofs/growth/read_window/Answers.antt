use Rattle.std.proofs.Common.{◌≡◌, ◌∙◌, ◌+◌, ◌<◌, suc, length, arith, refl, sym, ap, option_copied}
use Rattle.std.proofs.lemmas.List.{length-set}
use Rattle.std.specs.Fn.{FnReturnsAt}
use Rattle.table_generations.specs.Windows.{IsAhead}
use Rattle.table_generations.proofs.Windows.{one_more, none_more}
use Rattle.table_generations.proofs.growth.read_window.Goals.{in-Some, in_default}
use Rattle.table_generations.proofs.growth.read_window.Goals as goal

pub loop-ahead-preserved : goal.loop-ahead-preserved
loop-ahead-preserved g c =
    let (long, few, so) = c.loop-ahead.invariant in
    let old = c.args.old.now.contents in
    let of = IsAhead old g.T.AtomicValue.target (FnReturnsAt g.H.Fn c.args.hash_fn.now) in
    let first = c.args.first in
    let found = c.loop-ahead.found in
    let i = first + c.loop-ahead.ahead in
    let next : first + (c.loop-ahead.ahead + 1) ≡ i + 1 = omega arith in
    elim c.match-entry_shown.branch [
      | in-Some w ↦
          let shows = sym c.entry_shown.ensures ∙ ap option_copied w.in-Some.is in
          let more : found + 1 ≡ suc found = omega arith in
          let count = c.min-count.ensures in
          let within : found < length c.loop-ahead.window = omega arith in
          rw (w.window-is, w.found-is, next, more) (
            length-set c.loop-ahead.window found _ ∙ long,
            omega arith,
            one_more old of first found 0 i found _ c.loop-ahead.window (omega arith) within
                (refl, w.in-Some.entry.now, shows, record { shown = w.deref.result; shows = w.deref.ensures; says = record { met = w.hash_fn.ensures } }) so,
          )
      | in_default w ↦
          let none = sym c.entry_shown.ensures ∙ ap option_copied w.in_default.is in
          rw (w.window-is, w.found-is, next) (long, omega arith, none_more old of first found 0 i c.loop-ahead.window none so)
    ]
