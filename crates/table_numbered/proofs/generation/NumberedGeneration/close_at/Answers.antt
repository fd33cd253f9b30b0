use Rattle.std.proofs.Common.{sym, ◌∙◌, ap}
use Rattle.table_numbered.proofs.Known.{word_of_book, of_on}
use Rattle.table_numbered.proofs.generation.NumberedGeneration.close_at.Goals as goal

pub close-requires-clause-word : goal.close-requires-clause-word
close-requires-clause-word g c = word_of_book c.self.inside.row.of c.args.seen.now.book c.word.result.now (c.requires.of.0 ∙ sym (ap (λ x. x.of.book) c.self.view_is)) c.word.ensures.word

pub close-requires-clause-whole : goal.close-requires-clause-whole
close-requires-clause-whole g c = c.requires.of.4

pub returns-clause-of : goal.returns-clause-of
returns-clause-of g c = let e = c.close.ensures in of_on g.L.Law.same g.L.Law.hash_of c.args.self.now.of c.args.seen.now.book c.close.new.seen.book c.args.seen.now.names c.close.new.seen.names c.args.seen.now.log c.close.new.seen.log e.same e.longer e.reached c.requires.of
