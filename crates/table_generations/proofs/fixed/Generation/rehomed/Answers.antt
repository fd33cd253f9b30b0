use Rattle.std.proofs.Common.{◌∙◌}
use Rattle.table_generations.proofs.Owned.{owned_as_shown}
use Rattle.table_generations.proofs.fixed.Generation.rehomed.Goals as goal

pub returns-clause-counted : goal.returns-clause-counted
returns-clause-counted g c = c.count_set-size.ensures ∙ owned_as_shown c.rehomed-row.result.contents c.rehomed-row.ensures.unnamed
