use Rattle.std.proofs.Common.{sym, ◌∙◌, ap}
use Rattle.table_numbered.specs.Words.{mark_of, numbered, alike, marked}
use Rattle.table_numbered.proofs.Meetings.{low, named, differs, more_than_1}
use Rattle.table_numbered.proofs.Steps.{closed_says}
use Rattle.table_numbered.proofs.generation.NumberedGeneration.compare.Goals as goal

pub returns-then-word-eq1 : goal.returns-then-word-eq1
returns-then-word-eq1 g c = record { told = λ old. (c.requires.coming, closed_says (alike g.L.Law.same) (marked g.L.Law.hash_of) c.args.index c.args.word c.args.seen.now.log c.requires.says c.if-word-eq1.true) }

pub returns-then-mark_of_word-coming : goal.returns-then-mark_of_word-coming
returns-then-mark_of_word-coming g c = record {
  told = λ old. (
    c.requires.coming,
    differs g.L.Law.same g.L.Law.hash_of c.args.index c.args.word c.args.seen.now.log c.requires.of.3 c.requires.says (more_than_1 g.L.Law.same g.L.Law.hash_of c.args.word c.requires.set c.if-word-eq1.false)
        (g.L.Law.same c.args.coming.value) (mark_of (g.L.Law.hash_of c.args.coming.value)) (λ v is. ap mark_of (sym (g.L.Law.lawful.agrees c.args.coming.value v is)))
        (λ is. c.if-mark_of_word-coming.true (c.mark_of_word.ensures ∙ (is ∙ sym c.requires.coming.mark))),
  );
}

pub number_of_word-number-requires : goal.number_of_word-number-requires
number_of_word-number-requires g c =
    low g.L.Law.same g.L.Law.hash_of c.args.index c.args.word c.args.seen.now.log c.requires.of.3 c.requires.says (more_than_1 g.L.Law.same g.L.Law.hash_of c.args.word c.requires.set c.if-word-eq1.false)

pub entry_at-entry-requires-clause-there : goal.entry_at-entry-requires-clause-there
entry_at-entry-requires-clause-there g c =
    named g.L.Law.same g.L.Law.hash_of c.args.index c.args.word c.args.seen.now.log c.requires.of.3 c.requires.says (more_than_1 g.L.Law.same g.L.Law.hash_of c.args.word c.requires.set c.if-word-eq1.false)
    c.number_of_word-number.result c.number_of_word-number.ensures

pub returns-then-is_same : goal.returns-then-is_same
returns-then-is_same g c = record { told = λ old. (c.requires.coming, sym c.is_same.ensures ∙ c.if-is_same.true, c.entry_at-entry.ensures.stands) }

pub returns-else-is_same : goal.returns-else-is_same
returns-else-is_same g c = record { told = λ old. (c.requires.coming, (numbered c.number_of_word-number.result c.entry_at-entry.result.now, c.entry_at-entry.ensures.stands, sym c.is_same.ensures ∙ c.if-is_same.false)) }
