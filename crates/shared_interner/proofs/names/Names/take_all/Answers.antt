use Rattle.std.proofs.Common.{◌∙◌, arith}
use Rattle.shared_interner.proofs.Taken.{keeps_next, keeps_all}
use Rattle.shared_interner.proofs.names.Names.take_all.Goals as goal

pub loop-index-preserved : goal.loop-index-preserved
loop-index-preserved g c = let i = c.loop-index.invariant in let more = c.take_over.ensures.known in record {
  known = (more.0 ∙ i.known.0, λ e there. more.1 e (i.known.1 e there));
  first = keeps_next c.loop-index.index c.args.texts.now c.loop-index.self.history c.take_over.new.self.history c.in-Some.symbol (omega (arith, c.in-Some.ensures.some)) more.1 i.first c.in_ok-take_over.ensures.named;
}

pub returns-clause-numbers : goal.returns-clause-numbers
returns-clause-numbers g c = keeps_all c.args.texts.now c.loop-index.self.history
    (λ s text lt has. c.loop-index.invariant.first s text (omega (arith, lt, c.loop-index-test.false, c.len_alone-index-end.ensures.length)) has)
