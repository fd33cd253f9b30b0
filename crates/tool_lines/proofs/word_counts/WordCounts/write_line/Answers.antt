use Rattle.std.proofs.Common.{arith, ◌<◌, length}
use Rattle.tool_lines.proofs.Written.{line_is, same_bytes}
use Rattle.tool_lines.proofs.word_counts.WordCounts.write_line.Goals as goal

pub returns-in-Ok : goal.returns-in-Ok
returns-in-Ok g c =
    let below : c.args.before < length c.args.self.now.counts.items = omega (arith, c.args.self.now.counts.ok.0, c.args.self.now.each_counted, c.requires.given) in
    let same = line_is c.args.self.now.interner c.args.self.now.counts.items c.args.before _ c.in-Some-text_alone.word.now c.index.result.now c.in-Some.ensures c.in-Some-text_alone.ensures below c.index.ensures in
    same_bytes _ _ _ _ same c.in-Ok.ensures.bytes
