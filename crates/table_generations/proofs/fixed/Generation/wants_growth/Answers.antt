use Rattle.std.proofs.Common.{arith}
use Rattle.table_generations.proofs.Contents.{few_shown}
use Rattle.table_generations.proofs.fixed.Generation.wants_growth.Goals as goal

pub overflow_sub-result : goal.overflow_sub-result
overflow_sub-result g c = let few = few_shown c.self.inside.row.contents in let counted = c.self.invariant.counted in let view = c.self.view_is in omega arith
