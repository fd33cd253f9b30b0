use Rattle.std.proofs.Common.{◌≡◌, ◌∙◌, ◌+◌, ◌-◌, ◌<◌, Some, None, suc, length, refl, subst, sym, ap, arith, rules}
use Rattle.std.proofs.lemmas.List.{length-set}
use Rattle.std.specs.Fn.{FnReturnsAt}
use Rattle.std.specs.Option.{option_map}
use Rattle.table_shared.specs.Ahead.{CopiesOn, Holds}
use Rattle.table_shared.specs.Growths.{GrowthView, growth_of}
use Rattle.table_shared.specs.Lineages.{names_of, words_of}
use Rattle.table_shared.proofs.Between.{stays_building}
use Rattle.table_shared.proofs.Ahead.{bucket_read, named_read, next_read, on_one, over_none, word_read}
use Rattle.table_generations.proofs.Windows.{first_read, one_taken}
use Rattle.table_shared.proofs.growth.Growth.copy_window.Goals.{in-Some-take, in_default-take}
use Rattle.table_shared.proofs.growth.Growth.copy_window.Goals as goal

pub of_naming-requires : goal.of_naming-requires
of_naming-requires g c =
    let (p, inv) = c.loop-place.invariant in
    let from = c.in-Some.from.now in
    let target = g.T.AtomicValue.target in
    let rehash = FnReturnsAt g.H.Fn c.args.hash_fn.now in
    let there = sym c.take.ensures.value ∙ c.in-Some-take.is in
    let (i, on, none, here, below, rest) = first_read from.contents (Holds target rehash from) _ _ _ (c.read_window-found.result - (c.loop-place.place + 1)) _ _ _ _ (omega arith) there (rw c.in-Some.is at inv.are_read) in
    let behind = (rw (inv.from_is ∙ c.in-Some.is) at inv.under_way.behind) in
    word_read target rehash from i c.loop-place.self-inside.home.now.id c.in-Some-take.read here (sym behind.0.0 ∙ inv.under_way.home_is)

pub insert_unique-requires-clause-room : goal.insert_unique-requires-clause-room
insert_unique-requires-clause-room g c =
    let (p, inv) = c.loop-place.invariant in
    let there = sym c.take.ensures.value ∙ c.in-Some-take.is in
    let (i, on, none, here, below, rest) = first_read c.in-Some.from.now.contents (Holds g.T.AtomicValue.target (FnReturnsAt g.H.Fn c.args.hash_fn.now) c.in-Some.from.now) _ _ _ (c.read_window-found.result - (c.loop-place.place + 1)) _ _ _ _ (omega arith) there (rw c.in-Some.is at inv.are_read) in
    let behind = (rw (inv.from_is ∙ c.in-Some.is) at inv.under_way.behind) in
    let fewer = behind.1 in
    let few = inv.under_way.few in
    let long = c.capacity.ensures in
    let count = c.min-count.ensures in
    let bounds = rw (← c.self.view_is, c.in-Some.is) at c.requires.left in
    omega arith

pub insert_unique-requires-clause-lies : goal.insert_unique-requires-clause-lies
insert_unique-requires-clause-lies g c =
    let (p, inv) = c.loop-place.invariant in
    let from = c.in-Some.from.now in
    let target = g.T.AtomicValue.target in
    let rehash = FnReturnsAt g.H.Fn c.args.hash_fn.now in
    let there = sym c.take.ensures.value ∙ c.in-Some-take.is in
    let (i, on, none, here, below, rest) = first_read from.contents (Holds target rehash from) _ _ _ (c.read_window-found.result - (c.loop-place.place + 1)) _ _ _ _ (omega arith) there (rw c.in-Some.is at inv.are_read) in
    let is = bucket_read target rehash from i c.loop-place.self-inside.home.now.id c.in-Some-take.read here c.of_naming.result c.of_naming.ensures in
    let behind = (rw (inv.from_is ∙ c.in-Some.is) at inv.under_way.behind) in
    rw is (sym inv.under_way.home_is, sym behind.0.1)

pub insert_unique-requires-clause-name : goal.insert_unique-requires-clause-name
insert_unique-requires-clause-name g c =
    let (p, inv) = c.loop-place.invariant in
    let from = c.in-Some.from.now in
    let target = g.T.AtomicValue.target in
    let rehash = FnReturnsAt g.H.Fn c.args.hash_fn.now in
    let there = sym c.take.ensures.value ∙ c.in-Some-take.is in
    let (i, on, none, here, below, rest) = first_read from.contents (Holds target rehash from) _ _ _ (c.read_window-found.result - (c.loop-place.place + 1)) _ _ _ _ (omega arith) there (rw c.in-Some.is at inv.are_read) in
    rw (bucket_read target rehash from i c.loop-place.self-inside.home.now.id c.in-Some-take.read here c.of_naming.result c.of_naming.ensures) tt

pub step-state-requires : goal.step-state-requires
step-state-requires g c =
    let (p, inv) = c.loop-place.invariant in
    record { fits = rw (inv.state_is, c.requires.phase) refl }

pub loop-place-preserved : goal.loop-place-preserved
loop-place-preserved g c =
    let (p, inv) = c.loop-place.invariant in
    let under = inv.under_way in
    let place = c.loop-place.place in
    let from = c.in-Some.from.now in
    let target = g.T.AtomicValue.target in
    let rehash = FnReturnsAt g.H.Fn c.args.hash_fn.now in
    let home = c.loop-place.self-inside.home.now.id in
    let built = c.loop-place.self-inside.built.contents in
    let left = c.read_window-found.result - (place + 1) in
    let more : c.read_window-found.result - place ≡ suc left = omega arith in
    let at : c.loop-place.self-inside.from ≡ Some c.in-Some.from = inv.from_is ∙ c.in-Some.is in
    let bounds = rw (← c.self.view_is, c.in-Some.is) at c.requires.left in
    let are_read = rw c.in-Some.is at inv.are_read in
    let here = sym c.take.ensures.value in
    elim c.match-take.branch [
      | in-Some-take w ↦
          let read = w.in-Some-take.read in
          let (i, on, none, is, below, rest) = first_read from.contents (Holds target rehash from) _ p _ left place c.loop-place.window (Some read) _ more (here ∙ w.in-Some-take.is) are_read in
          let long = c.capacity.ensures in
          let count = c.min-count.ensures in
          let within : i < length from.contents = omega arith in
          let one_home = w.insert_unique.ensures.home in
          let behind = rw at at under.behind in
          let after = w.insert_unique.new.self.contents in
          let word = c.loop-place.self-inside.slot.id in
          let words = words_of c.loop-place.self-inside.words.of (option_map (λ l. names_of l.words.items) c.loop-place.self-inside.words.known) in
          let bucket_is = bucket_read target rehash from i home read is w.of_naming.result w.of_naming.ensures in
          let put = rw (ap (λ b. b.content) bucket_is) at w.insert_unique.ensures.put in
          let passed : GrowthView g.row.T.Denot = record { home = home; before = from.contents; passed = p; built = built; word = word; words = words } in
          let more_passed : GrowthView g.row.T.Denot = record { home = home; before = from.contents; passed = i + 1; built = after; word = word; words = words } in
          rw (w.self-inside-is, w.state-is) (
            i + 1,
            record {
              home_is = inv.home_is;
              from_is = inv.from_is;
              word_is = inv.word_is;
              state_is = stays_building c.loop-place.state w.step-state.result c.args.state inv.state_is c.requires.phase w.step-state.ensures.decided;
              are_read = rw c.in-Some.is (one_taken from.contents (Holds target rehash from) _ (i + 1) left (place + 1) place _ c.loop-place.window (omega arith) rest);
              copied = rw at (on_one target rehash c.args.self.now passed more_passed (rw at at inv.copied) refl refl (next_read target rehash from i home p word words built after read on within none is put));
              under_way = rw at (record {
                home_is = one_home.0 ∙ under.home_is;
                power = rw (put.2, length-set) under.power;
                behind = ((one_home.0 ∙ behind.0.0, one_home.1 ∙ behind.0.1), rw (put.2, length-set) behind.1);
                few = (let few = under.few in let size = w.insert_unique.ensures.size in omega arith);
                all_named = named_read target rehash from i home p word words built after read none is put (rw at at under.all_named);
                is_open = under.is_open;
                block_is = under.block_is;
              });
            },
          )
      | in_default-take w ↦
          let (i, on, none, is, below, rest) = first_read from.contents (Holds target rehash from) _ p _ left place c.loop-place.window None _ more (here ∙ w.in_default-take.is) are_read in
          absurd is
    ]

pub loop-place-init : goal.loop-place-init
loop-place-init g c =
    let target = g.T.AtomicValue.target in
    let rehash = FnReturnsAt g.H.Fn c.args.hash_fn.now in
    let inside = c.self.inside in
    let now = growth_of inside.home.now.id inside.from inside.copied inside.built inside.slot.id (words_of inside.words.of (option_map (λ l. names_of l.words.items) inside.words.known)) in (
      inside.copied,
      record {
        home_is = refl;
        from_is = refl;
        state_is = refl;
        word_is = (refl, refl);
        are_read = search rules;
        copied = subst (λ s. CopiesOn target rehash s now) c.self.view_is (0, now, refl, over_none now);
        under_way = c.self.invariant;
      },
    )
