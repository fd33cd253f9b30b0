use Rattle.std.proofs.Common.{ℕ, sym, ap, subst, ◌∙◌}
use Rattle.table_slab.specs.Shelved.{slab_of}
use Rattle.table_chain.specs.Chains.{IsWhole}
use Rattle.table_chain.proofs.Ended.{laid_so, ending_first}
use Rattle.table_chain.proofs.chain.Chain.into_ending.Goals as goal

pub invariant_of-result : goal.invariant_of-result
invariant_of-result g c = let parts = c.into_parts-words in let start = parts.result.2 in let e = c.close-count.ensures in let new = c.close-count.new.seen in let view = sym e.same ∙ parts.ensures.view in
    let laid = laid_so g.F.Follows.begins g.F.Follows.follows c.args.self start.book new.book parts.result.0.items start.names new.names start.log new.log view parts.ensures.laid e.of in
    let names = e.of.1 ∙ (ap (λ x. x.names) view ∙ sym parts.ensures.slab) in
    rw c.again.ensures (ending_first g.F.Follows.begins g.F.Follows.follows new.book new.names c.end.result new.log parts.result.0.items c.close-count.result laid
    (subst (λ (n : ℕ). IsWhole n c.close-count.result new.log) (ap (λ x. x.slots) view) e.whole) (c.end.ensures.slab ∙ sym (ap slab_of names)) c.end.ensures.left)
