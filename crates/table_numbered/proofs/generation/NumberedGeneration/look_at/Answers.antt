use Rattle.std.proofs.Common.{ℕ, sym, ◌∙◌, ap, subst}
use Rattle.table_numbered.specs.Words.{alike, marked}
use Rattle.table_numbered.specs.History.{Says}
use Rattle.table_numbered.proofs.Known.{word_of_book, of_on}
use Rattle.table_numbered.proofs.generation.NumberedGeneration.look_at.Goals as goal

pub look-requires-clause-word : goal.look-requires-clause-word
look-requires-clause-word g c = word_of_book c.self.inside.row.of c.args.seen.now.book c.word.result.now (c.requires.of.0 ∙ sym (ap (λ x. x.of.book) c.self.view_is)) c.word.ensures.word

pub returns-clause-of : goal.returns-clause-of
returns-clause-of g c = let e = c.look.ensures in of_on g.L.Law.same g.L.Law.hash_of c.args.self.now.of c.args.seen.now.book c.look.new.seen.book c.args.seen.now.names c.look.new.seen.names c.args.seen.now.log c.look.new.seen.log e.same e.longer e.reached c.requires.of

pub returns-clause-says : goal.returns-clause-says
returns-clause-says g c = subst (λ (p : ℕ). Says (alike g.L.Law.same) (marked g.L.Law.hash_of) p c.look.result c.look.new.seen.log) c.word.ensures.key c.look.ensures.says
