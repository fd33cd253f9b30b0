use Rattle.std.proofs.Common.{rules}
use Rattle.table_terms.specs.Laws.{same_number}
use Rattle.demo_examples.proofs.Told.{has_kept}
use Rattle.demo_examples.proofs.tell.tell.Goals as goal

pub find-first-requires : goal.find-first-requires
find-first-requires g c = let one = c.in_ok-one.field-0.history in let heard = c.hear-2.new.self.history in let mine = c.hear-4.new.self.history in record {
  there = has_kept same_number heard mine c.args.a c.hear-4.ensures.known.1 (has_kept same_number one heard c.args.a c.hear-2.ensures.theirs (search rules));
}

pub find-second-requires : goal.find-second-requires
find-second-requires g c = let two = c.in_ok-two.field-0.history in let heard = c.hear-4.new.self.history in let mine = c.find-first.new.mine.history in record {
  there = has_kept same_number heard mine c.args.b c.find-first.ensures.more.1 (has_kept same_number two heard c.args.b c.hear-4.ensures.theirs (search rules));
}
