use Rattle.std.proofs.Common.{rules, arith}
use Rattle.std.specs.Prelude.{option_copied}
use Rattle.std.proofs.lemmas.Grind.{common_steps}
use Rattle.table_held.specs.Table.{held}
use Rattle.demo_examples.proofs.Lookups.{looks_for, finds_word}
use Rattle.demo_examples.proofs.Placements.{inserted, inserted_at}
use Rattle.demo_examples.proofs.unshown.insert_two_then_find.Goals as goal

pub returns-clause-first : goal.returns-clause-first
returns-clause-first c =
    let (p, back, first) = inserted_at _ _ _ _ _ _ _ _ _ c.in_ok-insert_unshown.field-0 c.in_ok-insert_unshown.ensures in
    let (r, second) = inserted _ _ _ _ _ _ _ _ _ _ c.in_ok-insert_unshown-2.ensures in
    let again = c.inserted_is_found_again.ensures c.args.one p c.insert_unshown.new.table c.insert_unshown-2.new.table (option_copied c.lookup_alone.result)
    (record {
      old = c.args.table.now;
      hash = c.deref.result.now;
      back = back;
      lawful = record {
        eq_is = λ e answer among h. search rules;
        rehash_is = λ e h among r. search rules;
        rehash_value_is = λ h r. search rules;
        hash_is = search rules;
        table_is = c.requires;
      };
      keeps = first.says.keeps;
    })
    second.says.later
    (record {
      counted = second.says.counted;
      lawful = grind (arith, common_steps);
      test_is = λ e answer among h. search rules;
      told = looks_for (λ b. b.value) held _ _ _ _ (search rules) (search rules);
    }) in
    finds_word (λ b. b.value) _ _ _ _ c.copied.ensures again
