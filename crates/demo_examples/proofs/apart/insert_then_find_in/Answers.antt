use Rattle.std.proofs.Common.{rules, arith}
use Rattle.std.specs.Prelude.{option_copied}
use Rattle.std.proofs.lemmas.Grind.{common_steps}
use Rattle.demo_examples.proofs.Lookups.{looks_for, shows_word}
use Rattle.demo_examples.proofs.apart.insert_then_find_in.Goals as goal

pub returns-clause-found : goal.returns-clause-found
returns-clause-found g c =
    let again = c.inserted_is_found_again.ensures c.args.word c.in_ok-place.place c.place_alone.new.self c.place_alone.new.self (option_copied c.lookup_alone.result)
    (record {
      old = c.args.table.now;
      hash = c.deref.result.now;
      back = c.in_ok-place.field-0-1;
      lawful = record {
        eq_is = λ e answer among h. search rules;
        rehash_is = λ e h among r. search rules;
        rehash_value_is = λ h r. search rules;
        hash_is = search rules;
        table_is = c.requires;
      };
      keeps = c.in_ok-place.ensures.keeps;
    })
    (λ p v h. h)
    (record {
      counted = c.in_ok-place.ensures.counted;
      lawful = grind (arith, common_steps);
      test_is = λ e answer among h. search rules;
      told = looks_for (λ b. b.value) g.B.AloneTable.shows _ _ _ _ (search rules) (search rules);
    }) in
    shows_word (λ b. b.value) _ _ _ _ c.copied-shown.ensures again
