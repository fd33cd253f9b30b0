use Rattle.std.proofs.Common.{sym, ◌∙◌, ap}
use Rattle.table_numbered.proofs.Hinted.{hint_of_book}
use Rattle.table_numbered.proofs.Known.{of_on}
use Rattle.table_numbered.proofs.generation.NumberedGeneration.is_hinted.Goals as goal

pub load-word-requires : goal.load-word-requires
load-word-requires g c = let t = c.self.inside.row.of in record {
  hint = hint_of_book t c.args.seen.now.book c.in-Some.hint.now (c.requires.of.0 ∙ sym (ap (λ x. x.of.book) c.self.view_is)) (c.in-Some.ensures.hint t.book c.self.invariant.1);
}

pub returns-clause-of : goal.returns-clause-of
returns-clause-of g c = let e = c.load-word.ensures in of_on g.L.Law.same g.L.Law.hash_of c.args.self.now.of c.args.seen.now.book c.load-word.new.seen.book c.args.seen.now.names c.load-word.new.seen.names c.args.seen.now.log c.load-word.new.seen.log e.same e.longer e.reached c.requires.of
