use Rattle.table_numbered.proofs.Hinted.{group_names_none}
use Rattle.table_numbered.proofs.hints.of_group.Goals as goal

pub returns-clause-names : goal.returns-clause-names
returns-clause-names c = λ k is. absurd (group_names_none c.args.group k is)
