use Rattle.table_terms.proofs.FirstCapacities.{sixteen_is_first}
use Rattle.demo_examples.proofs.Runs.{runs_as_list, if_ok}
use Rattle.demo_examples.proofs.schedules.run_as_list.Goals as goal

pub returns-clause-as_list : goal.returns-clause-as_list
returns-clause-as_list g c =
    if_ok c.run.result (λ told told_is l lawful. runs_as_list l 16 c.args.events.now told.items (c.schedules_are_lists.ensures.one_history l 16 c.args.events.now sixteen_is_first) told_is lawful) c.run.ensures
