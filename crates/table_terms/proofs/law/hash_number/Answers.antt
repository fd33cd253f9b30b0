use Rattle.std.proofs.Common.{arith}
use Rattle.table_terms.specs.Laws.{number_hash}
use Rattle.table_terms.proofs.Mixing.{mixed-small, folds}
use Rattle.table_terms.proofs.law.hash_number.Goals as goal

pub overflow_mul-product : goal.overflow_mul-product
overflow_mul-product c = omega (arith, mixed-small c.args.number (omega arith))

pub overflow_cast-result-2 : goal.overflow_cast-result-2
overflow_cast-result-2 c = omega (arith, mixed-small c.args.number (omega arith))

pub returns : goal.returns
unfolding number_hash
returns c = folds _ (omega (arith, mixed-small c.args.number (omega arith)))
