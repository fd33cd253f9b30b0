use Rattle.std.proofs.Common.{arith}
use Rattle.tool_commands.proofs.shards.run_shards.Goals as goal

-- so many shards fit in memory, their number is a power of two, and they are few
pub over-requires-in-Four : goal.over-requires-in-Four
over-requires-in-Four g c = (omega arith, ((2, λ i. 4), (omega arith, c.requires)))

pub over-requires-in-Eight : goal.over-requires-in-Eight
over-requires-in-Eight g c = (omega arith, ((3, λ i. 8), (omega arith, c.requires)))

pub over-requires-in-Sixteen : goal.over-requires-in-Sixteen
over-requires-in-Sixteen g c = (omega arith, ((4, λ i. 16), (omega arith, c.requires)))
