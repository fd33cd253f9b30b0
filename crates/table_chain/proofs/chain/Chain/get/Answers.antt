use Rattle.std.proofs.Common.{◌-◌, sym, ◌∙◌, ap, subst}
use Rattle.table_chain.specs.declared.event.Stored.TheVariants.{Shown}
use Rattle.table_chain.specs.History.{Has}
use Rattle.table_chain.proofs.Trades.{later}
use Rattle.table_chain.proofs.Chained.{known_shown, one_value, slot_within}
use Rattle.table_chain.proofs.Laid.{stands_in}
use Rattle.table_chain.proofs.chain.Chain.get.Goals as goal

pub look_at-found-requires-clause-inside : goal.look_at-found-requires-clause-inside
look_at-found-requires-clause-inside g c = let of = c.requires.of in let there = c.requires.there in
    slot_within g.F.Follows.begins g.F.Follows.follows c.args.self.now.slots c.args.seen.now.log of.2 of.3 c.args.slot there.1.0 (Shown there.0) there.1.1

pub overflow_sub-number : goal.overflow_sub-number
overflow_sub-number g c = let there = c.requires.there in let e = c.look_at-found.ensures in
    (known_shown g.F.Follows.begins g.F.Follows.follows c.again-later.result.log c.look_at-found.new.seen.log c.args.slot c.look_at-found.result there.1.0 there.0 e.longer e.of.3 e.told
    (subst (λ l. Has l c.args.slot there.1.0 (Shown there.0)) (sym (ap (λ x. x.log) c.again-later.ensures)) there.1.1)).1

pub known-standing-requires : goal.known-standing-requires
known-standing-requires g c = let there = c.requires.there in let e = c.look_at-found.ensures in record {
  there = (
    there.0,
    (known_shown g.F.Follows.begins g.F.Follows.follows c.again-later.result.log c.look_at-found.new.seen.log c.args.slot c.look_at-found.result there.1.0 there.0 e.longer e.of.3 e.told
        (subst (λ l. Has l c.args.slot there.1.0 (Shown there.0)) (sym (ap (λ x. x.log) c.again-later.ensures)) there.1.1)).0,
  );
}

pub get-requires : goal.get-requires
get-requires g c = let names = c.look_at-found.ensures.of.1 ∙ (sym (ap (λ x. x.names) c.self.view_is) ∙ sym c.self.invariant.1) in
    stands_in c.self.inside.slab c.look_at-found.new.seen.names (c.look_at-found.result - 2) names c.known-standing.result c.known-standing.ensures.of

pub returns : goal.returns
returns g c = let there = c.requires.there in let e = c.look_at-found.ensures in let log = c.look_at-found.new.seen.log in
    let has : Has log c.args.slot there.1.0 (Shown there.0) = later c.again-later.result.log log c.args.slot there.1.0 (Shown there.0) e.longer (subst (λ l. Has l c.args.slot there.1.0 (Shown there.0)) (sym (ap (λ x. x.log) c.again-later.ensures)) there.1.1) in
    let is = one_value g.F.Follows.begins g.F.Follows.follows log c.args.slot there.1.0 (c.look_at-found.result - 2) there.0 c.known-standing.result.written.value e.of.3 has c.known-standing.ensures.value in
    record { there = (there.1.0, subst (λ x. Has c.args.seen.now.log c.args.slot there.1.0 (Shown x)) (is ∙ sym c.get.ensures) there.1.1) }
