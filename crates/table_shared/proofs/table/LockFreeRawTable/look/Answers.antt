use Rattle.table_shared.proofs.table.LockFreeRawTable.look.Goals as goal

pub returns-clause-seen : goal.returns-clause-seen
returns-clause-seen g c = rw (← c.bits_of_hash-sought.ensures) c.look_at.ensures.seen
