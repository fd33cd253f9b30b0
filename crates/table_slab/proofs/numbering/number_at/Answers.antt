use Rattle.std.proofs.Common.{◌+◌, ◌≤◌, arith}
use Rattle.table_slab.proofs.Places.{pow_upto, number_is_at}
use Rattle.table_slab.proofs.numbering.number_at.Goals as goal

pub overflow_sub-result : goal.overflow_sub-result
overflow_sub-result c = let le : c.args.bits + 0 ≤ c.args.bits + c.args.place = omega arith in omega (arith, pow_upto (c.args.bits + 0) (c.args.bits + c.args.place) le, c.chunk_len.ensures.len, c.chunk_len-2.ensures.len)

pub returns-clause-at : goal.returns-clause-at
returns-clause-at c = rw (c.chunk_len.ensures.len, c.chunk_len-2.ensures.len) (number_is_at c.args.bits c.args.place c.args.offset c.requires.within)
