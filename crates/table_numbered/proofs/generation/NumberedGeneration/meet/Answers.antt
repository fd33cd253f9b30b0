use Rattle.std.proofs.Common.{sym, ◌∙◌, ap}
use Rattle.table_numbered.specs.Words.{mark_of, numbered, alike, marked}
use Rattle.table_numbered.proofs.Meetings.{low, named, differs, more_than_1}
use Rattle.table_numbered.proofs.Steps.{closed_says}
use Rattle.table_numbered.proofs.generation.NumberedGeneration.meet.Goals as goal

pub returns-then-word-eq0-clause-meets : goal.returns-then-word-eq0-clause-meets
returns-then-word-eq0-clause-meets g c = c.look_at-word.ensures.says.0 c.if-word-eq0.true

pub returns-then-word-eq1-clause-meets : goal.returns-then-word-eq1-clause-meets
returns-then-word-eq1-clause-meets g c = closed_says (alike g.L.Law.same) (marked g.L.Law.hash_of) c.args.index c.look_at-word.result c.look_at-word.new.seen.log c.look_at-word.ensures.says c.if-word-eq1.true

pub returns-then-mark_of_word-mark-clause-meets : goal.returns-then-mark_of_word-mark-clause-meets
returns-then-mark_of_word-mark-clause-meets g c =
    differs g.L.Law.same g.L.Law.hash_of c.args.index c.look_at-word.result c.look_at-word.new.seen.log c.look_at-word.ensures.of.3 c.look_at-word.ensures.says (more_than_1 g.L.Law.same g.L.Law.hash_of c.look_at-word.result c.if-word-eq0.false c.if-word-eq1.false)
    (g.S.Sought.accepts c.args.sought.now) (mark_of (g.S.Sought.sought_hash c.args.sought.now)) (λ v is. ap mark_of (g.met.S.Sought.agrees c.args.sought.now v is))
    (λ is. c.if-mark_of_word-mark.true (c.mark_of_word.ensures ∙ (is ∙ sym c.requires.mark)))

pub number_of_word-number-requires : goal.number_of_word-number-requires
number_of_word-number-requires g c =
    low g.L.Law.same g.L.Law.hash_of c.args.index c.look_at-word.result c.look_at-word.new.seen.log c.look_at-word.ensures.of.3 c.look_at-word.ensures.says (more_than_1 g.L.Law.same g.L.Law.hash_of c.look_at-word.result c.if-word-eq0.false c.if-word-eq1.false)

pub entry_at-entry-requires-clause-there : goal.entry_at-entry-requires-clause-there
entry_at-entry-requires-clause-there g c =
    named g.L.Law.same g.L.Law.hash_of c.args.index c.look_at-word.result c.look_at-word.new.seen.log c.look_at-word.ensures.of.3 c.look_at-word.ensures.says (more_than_1 g.L.Law.same g.L.Law.hash_of c.look_at-word.result c.if-word-eq0.false c.if-word-eq1.false)
    c.number_of_word-number.result c.number_of_word-number.ensures

pub returns-else-is-clause-meets : goal.returns-else-is-clause-meets
returns-else-is-clause-meets g c = (numbered c.number_of_word-number.result c.entry_at-entry.result.now, c.entry_at-entry.ensures.stands, sym c.is.ensures ∙ c.if-is.false)
