use Rattle.std.proofs.Common.{ℕ, ap, sym, subst, ◌∙◌}
use Rattle.logbook.specs.Pages.{Book}
use Rattle.table_chain.specs.History.{HasSize}
use Rattle.table_chain.specs.Chains.{AreWords}
use Rattle.table_chain.proofs.chain.Chain.new.Goals as goal

pub invariant_of-chain : goal.invariant_of-chain
invariant_of-chain g c = let s = c.chain.inside in let view = c.chain.view_is in let inv = c.chain.invariant in let of = c.begin.ensures.of in let seen = c.begin.new.seen in
    let book = sym (of.0 ∙ sym (ap (λ x. x.book) view)) in let slots = sym (ap (λ x. x.slots) view) in (
      record {
        words = subst (λ (b : Book). AreWords b s.words.items) book inv.0.words;
        size = subst (λ (n : ℕ). HasSize n seen.log) slots of.2;
        reached = of.3;
      },
      inv.1 ∙ (ap (λ x. x.names) view ∙ sym of.1),
    )
