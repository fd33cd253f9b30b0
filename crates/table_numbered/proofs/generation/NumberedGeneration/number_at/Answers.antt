use Rattle.std.proofs.Common.{arith}
use Rattle.table_numbered.proofs.Meetings.{low, named}
use Rattle.table_numbered.proofs.Walked.{free_below}
use Rattle.table_numbered.proofs.generation.NumberedGeneration.number_at.Goals as goal

pub returns-then-word-lt2-clause-number : goal.returns-then-word-lt2-clause-number
returns-then-word-lt2-clause-number g c = let e = c.look_at-word.ensures in
    free_below g.L.Law.same g.L.Law.hash_of c.args.index c.look_at-word.result c.look_at-word.new.seen.log e.of.3 e.says c.if-word-lt2.true

pub number_of_word-requires : goal.number_of_word-requires
number_of_word-requires g c = let e = c.look_at-word.ensures in
    low g.L.Law.same g.L.Law.hash_of c.args.index c.look_at-word.result c.look_at-word.new.seen.log e.of.3 e.says (omega (arith, c.if-word-lt2.false))

pub returns-clause-number : goal.returns-clause-number
returns-clause-number g c = let e = c.look_at-word.ensures in
    named g.L.Law.same g.L.Law.hash_of c.args.index c.look_at-word.result c.look_at-word.new.seen.log e.of.3 e.says (omega (arith, c.if-word-lt2.false)) c.number_of_word.result c.number_of_word.ensures
