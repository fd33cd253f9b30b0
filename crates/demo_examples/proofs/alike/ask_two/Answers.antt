use Rattle.std.proofs.Common.{rules, map}
use Rattle.demo_examples.specs.Words.{same_word}
use Rattle.demo_examples.specs.Asks.{asked_of_words}
use Rattle.demo_examples.proofs.Asks.{asks_lawful, one_word_meets}
use Rattle.demo_examples.proofs.alike.ask_two.Goals as goal

pub returns-clause-alike : goal.returns-clause-alike
returns-clause-alike g c none none_too =
    c.new_tables_agree.ensures.by_class same_word (map asked_of_words c.args.asks.now) c.in-Ok.told.items c.in-Ok-run_calls.other_told.items
    c.args.one.now c.run_calls.new.table c.args.other.now c.run_calls-2.new.table c.requires.one c.requires.other
    (asks_lawful _ _ _ (λ a b answer told. search rules) (λ a b answer told. search rules) (λ a h told. search rules) c.args.asks.now)
    (rw c.in_ok-calls.ensures at c.in-Ok.ensures.as_list) (rw c.in_ok-again.ensures at c.in-Ok-run_calls.ensures.as_list)
    none none_too one_word_meets
