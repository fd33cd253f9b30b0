use Rattle.std.proofs.Common.{refl}
use Rattle.table_generations.proofs.fixed.shared.look_at_entry.Goals as goal

pub returns-else-entry-sought : goal.returns-else-entry-sought
returns-else-entry-sought g c = (c.args.entry.now, refl, c.if-entry-sought.false)
