use Rattle.std.proofs.Common.{◌≡◌, ◌∙◌, ◌++◌, length, sym, arith}
use Rattle.std.proofs.KnownBytes.{Appends-trans}
use Rattle.tool_lines.proofs.Written.{one_line_written}
use Rattle.tool_lines.proofs.word_counts.WordCounts.write_to.Goals as goal

pub loop-before-preserved : goal.loop-before-preserved
loop-before-preserved g c =
    let same : length c.args.self.now.counts.items ≡ length c.args.self.now.interner = sym c.args.self.now.counts.ok.0 ∙ c.args.self.now.each_counted in (
      c.loop-before.invariant.0 ++ _,
      Appends-trans _ (g.W.Write.contents c.loop-before.output) _ c.loop-before.invariant.0 _ c.loop-before.invariant.1 c.in_ok-write_line.ensures,
      one_line_written c.args.self.now.interner c.args.self.now.counts.items c.loop-before.before c.loop-before.invariant.0 _ (omega (arith, c.len_alone-before-end.ensures.length, c.loop-before-test.true)) same c.loop-before.invariant.2,
    )
