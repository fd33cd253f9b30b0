use Rattle.std.proofs.Common.{◌∙◌}
use Rattle.table_shards.proofs.SharedTables.{shown_as_shared, current_as_shared}
use Rattle.table_shards.proofs.shared.sharing.HeldRawTableShare.share.Goals as goal

pub returns-clause-shared : goal.returns-clause-shared
returns-clause-shared g c = c.of_parts.ensures.shared ∙ (shown_as_shared c.into_parts-first_capacity.result.earlier.items c.into_parts-first_capacity.result.current ∙ c.into_parts-first_capacity.ensures.shown)

pub returns-clause-current : goal.returns-clause-current
returns-clause-current g c = rw c.of_parts.ensures.shared (current_as_shared c.into_parts-first_capacity.result.earlier.items c.into_parts-first_capacity.result.current _ c.into_parts-first_capacity.ensures.current)
