use Rattle.std.proofs.Common.{ℕ, ◌+◌, sym, subst, arith}
use Rattle.table_chain.specs.History as chain
use Rattle.shared_set.specs.Known.{IsSeen}
use Rattle.shared_set.proofs.Courses.{shown_stands}
use Rattle.shared_set.proofs.Keeping.{one_set, seen_of_chain}
use Rattle.shared_set.proofs.set.SharedSet.show_next.Goals as goal

pub show-requires-clause-of : goal.show-requires-clause-of
show-requires-clause-of g c = let t = c.again-seen.result in
    seen_of_chain g.L.Law.same g.L.Law.hash_of c.args.self.now.of c.self.inside.chain c.self.inside.slab (one_set c.self.view_is) c.self.invariant.chain.slots t.book t.names t.log
    (subst (λ x. IsSeen g.L.Law.same g.L.Law.hash_of c.args.self.now.of x.book x.names x.log) (sym c.again-seen.ensures) c.requires.at.seen)

pub show-requires-clause-inside : goal.show-requires-clause-inside
show-requires-clause-inside g c = omega (arith, c.requires.inside, c.self.invariant.chain.slots)

pub show-requires-clause-fits : goal.show-requires-clause-fits
show-requires-clause-fits g c = let s = c.requires.grows.0 in record {
  first = λ z. tt;
  behind = λ q is. (
    s,
    subst (λ (n : ℕ). chain.Stands c.again-seen.result.log n s) (omega (arith, is))
        (subst (λ x. chain.Stands x.log c.args.cursor.now.slot s) (sym c.again-seen.ensures) c.requires.grows.1),
    c.requires.grows.2,
  );
}

pub returns-in-Shown-clause-next : goal.returns-in-Shown-clause-next
returns-in-Shown-clause-next g c = let s = c.args.next in let seen = c.show.new.seen in let slot = c.args.cursor.now.slot + 1 in
    (s, subst (λ (n : ℕ). chain.Stands seen.log n s) (omega arith) (shown_stands g.L.Law.same g.L.Law.hash_of slot s c.again-seen.result.log seen.log c.in-Shown.ensures.told.1))

pub returns-in-Other-clause-next : goal.returns-in-Other-clause-next
returns-in-Other-clause-next g c = let s = c.in-Other.field-0.now in
    (s, subst (λ (n : ℕ). chain.Stands c.show.new.seen.log n s) (omega arith) c.in-Other.ensures.told.1)
