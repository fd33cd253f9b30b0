use Rattle.std.proofs.Common.{◌≡◌, ℕ, List, sym, ap, subst, ◌∙◌}
use Rattle.table_slab.specs.Held.{IsRightTo}
use Rattle.table_slab.specs.Shelved.{slab_of}
use Rattle.table_chain.proofs.Laid.{stands_in, right_in, same_right}
use Rattle.table_chain.proofs.Shown.{shown_so, shows_at, some_is}
use Rattle.table_chain.proofs.chain.Chain.show_under.Goals as goal

pub put-right-requires-clause-number : goal.put-right-requires-clause-number
put-right-requires-clause-number g c = right_in c.self.inside.slab c.args.self.now.names c.args.number (sym (ap (λ x. x.names) c.self.view_is) ∙ sym c.self.invariant.1) c.args.right c.requires.right

pub publish-requires-clause-of : goal.publish-requires-clause-of
publish-requires-clause-of g c = let put = c.put-right.ensures in
    same_right (slab_of c.args.seen.now.names) c.args.number c.args.right c.put-right.result put.site put.of
    (subst (λ (ns : List ℕ). IsRightTo (slab_of ns) c.args.number c.args.right) (sym c.requires.of.1) c.requires.right)

pub get-requires : goal.get-requires
get-requires g c = let names = c.publish.ensures.same.1 ∙ (c.requires.of.1 ∙ (sym (ap (λ x. x.names) c.self.view_is) ∙ sym c.self.invariant.1)) in
    stands_in c.self.inside.slab c.publish.new.seen.names c.args.number names c.known-standing.result c.known-standing.ensures.of

pub take-next-requires-clause-number : goal.take-next-requires-clause-number
take-next-requires-clause-number g c = let names = c.requires.of.1 ∙ (sym (ap (λ x. x.names) c.self.view_is) ∙ sym c.self.invariant.1) in
    right_in c.self.inside.slab c.args.seen.now.names c.args.number names c.in-Err.lost.right c.in-Err.ensures.err.0

pub returns-in-Ok-clause-told : goal.returns-in-Ok-clause-told
returns-in-Ok-clause-told g c = let ok = c.in-Ok.ensures.ok in let is : ok.0 ≡ c.args.next = some_is ok.0 c.args.next (sym ok.1 ∙ c.put-right.ensures.value) in
    shown_so g.F.Follows.begins g.F.Follows.follows c.args.slot c.args.number c.get.result.now c.known-standing.result.written.value ok.0 c.args.next c.args.seen.now.log c.publish.new.seen.log
    c.get.ensures c.known-standing.ensures.value is ok.2

pub returns-in-Err-clause-told : goal.returns-in-Err-clause-told
returns-in-Err-clause-told g c = let err = c.in-Err.ensures.err in
    let value : c.take-next.result.0 ≡ c.args.next = some_is c.take-next.result.0 c.args.next (sym c.take-next.ensures.value ∙ (err.1 ∙ c.put-right.ensures.value)) in
    shows_at g.F.Follows.begins g.F.Follows.follows c.args.slot c.take-next.result.0 c.args.next c.args.seen.now.log c.publish.new.seen.log c.other.result value (c.other.ensures.told c.args.seen.now.log)
