use Rattle.std.proofs.Common.{◌≡◌, ◌+◌, ◌∙◌, Some, refl, sym, subst, ap, arith}
use Rattle.table_cell.specs.Notes.{Agrees}
use Rattle.std.proofs.lemmas.List.{length-set}
use Rattle.table_generations.specs.Buckets.{content_at}
use Rattle.table_shared.proofs.Copied.{seen_word, named_bucket, names_entry, named_on}
use Rattle.table_shared.proofs.growth.Growth.copy_next.Goals as goal

pub of_naming-requires : goal.of_naming-requires
of_naming-requires g c =
    let w = c.loop-self.invariant.2 in
    let from = c.in-Some.from.now in
    let at : c.loop-self.self-inside.from ≡ Some c.in-Some.from = c.loop-self.invariant.0.1 ∙ c.in-Some.is in
    let behind = rw at at w.behind in
    let word = c.in-Some-naming_at.word in
    let agrees = subst (λ e. Agrees word.value e) (sym c.get.ensures) c.name.ensures.1.0 in
    let (is, alone) = seen_word from.from from.home (content_at from.contents c.loop-self.self-inside.copied) _ _ word c.get.result.now c.in-Some-naming_at.ensures.seen agrees in
    names_entry from.from from.home c.loop-self.self-inside.home.now.id word c.get.result.now is (sym behind.0.0 ∙ w.home_is)

pub invariant_of-self-in-Some-naming_at : goal.invariant_of-self-in-Some-naming_at
invariant_of-self-in-Some-naming_at g c =
    let w = c.loop-self.invariant.2 in
    let at : c.loop-self.self-inside.from ≡ Some c.in-Some.from = c.loop-self.invariant.0.1 ∙ c.in-Some.is in
    let behind = rw at at w.behind in
    let one_home = c.insert_unique.ensures.home in
    let word = c.in-Some-naming_at.word in
    let agrees = subst (λ e. Agrees word.value e) (sym c.get.ensures) c.name.ensures.1.0 in
    let (is, alone) = seen_word c.in-Some.from.now.from c.in-Some.from.now.home (content_at c.in-Some.from.now.contents c.loop-self.self-inside.copied) _ _ word c.get.result.now c.in-Some-naming_at.ensures.seen agrees in
    let bucket_is = named_bucket c.in-Some.from.now.from c.in-Some.from.now.home c.loop-self.self-inside.home.now.id word c.get.result.now is c.of_naming.result c.of_naming.ensures in
    let put = rw (ap (λ b. b.content) bucket_is) at c.insert_unique.ensures.put in
    rw at (record {
      home_is = one_home.0 ∙ w.home_is;
      power = rw (put.2, length-set) w.power;
      behind = ((one_home.0 ∙ behind.0.0, one_home.1 ∙ behind.0.1), rw (put.2, length-set) behind.1);
      few = (let few = w.few in let size = c.insert_unique.ensures.size in omega arith);
      all_named = named_on g.T.AtomicValue.target c.in-Some.from.now.contents c.loop-self.self-inside.copied c.loop-self.self-inside.built.contents c.insert_unique.new.self.contents c.hash_fn-hash.result c.get.result.now put alone (rw at at w.all_named);
      is_open = w.is_open;
      block_is = w.block_is;
    })

pub returns-in-Some-naming_at-clause-copies : goal.returns-in-Some-naming_at-clause-copies
returns-in-Some-naming_at-clause-copies g c =
    let word = c.in-Some-naming_at.word in
    let agrees = subst (λ e. Agrees word.value e) (sym c.get.ensures) c.name.ensures.1.0 in
    let (is, alone) = seen_word c.in-Some.from.now.from c.in-Some.from.now.home (content_at c.in-Some.from.now.contents c.loop-self.self-inside.copied) _ _ word c.get.result.now c.in-Some-naming_at.ensures.seen agrees in
    rw (← c.self.view_is, ← c.loop-self.invariant.0.2, c.in-Some.is) (
      c.loop-self.self-inside.copied,
      c.get.result.now,
      c.hash_fn-hash.result,
      record {
        on = c.loop-self.invariant.1.on;
        within = (let below = c.loop-self-test.true in let long = c.capacity.ensures in omega arith);
        passed = refl {a = c.loop-self.self-inside.copied + 1};
        skipped = rw c.in-Some.is at c.loop-self.invariant.1.skipped;
        alone = alone;
        asked = record { shown = c.deref.result; shows = c.deref.ensures; says = record { met = c.hash_fn-hash.ensures } };
        put = rw (ap (λ b. b.content) (named_bucket c.in-Some.from.now.from c.in-Some.from.now.home c.loop-self.self-inside.home.now.id word c.get.result.now is c.of_naming.result c.of_naming.ensures)) at c.insert_unique.ensures.put;
      },
    )

pub returns-in-Some-naming_at-clause-named : goal.returns-in-Some-naming_at-clause-named
returns-in-Some-naming_at-clause-named g c = (invariant_of-self-in-Some-naming_at g c).all_named
