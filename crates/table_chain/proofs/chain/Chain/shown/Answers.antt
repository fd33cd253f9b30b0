use Rattle.std.proofs.Common.{sym, ◌∙◌, ap, ◌-◌}
use Rattle.table_chain.proofs.Chained.{value_shown}
use Rattle.table_chain.proofs.Laid.{stands_in}
use Rattle.table_chain.proofs.chain.Chain.shown.Goals as goal

pub known-standing-requires : goal.known-standing-requires
known-standing-requires g c = let r = value_shown g.F.Follows.begins g.F.Follows.follows c.args.seen.now.log c.args.slot c.args.found c.requires.of.3 c.requires.told c.requires.set c.if-found-eq1.false in record { there = (r.0, r.1) }

pub get-requires : goal.get-requires
get-requires g c = let names = c.requires.of.1 ∙ (sym (ap (λ x. x.names) c.self.view_is) ∙ sym c.self.invariant.1) in
    stands_in c.self.inside.slab c.args.seen.now.names (c.args.found - 2) names c.known-standing.result c.known-standing.ensures.of
