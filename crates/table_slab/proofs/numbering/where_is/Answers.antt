use Rattle.std.proofs.Common.{◌+◌, ◌^◌, ◌<◌, ◌*◌, ◌≤◌, arith}
use Rattle.std.proofs.lemmas.Nat.{one_shl}
use Rattle.table_slab.proofs.Places.{top_upto, where_at}
use Rattle.table_slab.proofs.numbering.where_is.Goals as goal

pub overflow_sub-result : goal.overflow_sub-result
overflow_sub-result c = let few : c.args.bits < 64 = omega arith in let own : 2 ^ c.args.bits ≤ c.args.number + 2 ^ c.args.bits = omega arith in
    let high : c.args.number + 2 ^ c.args.bits < 2 * 2 ^ c.ilog2-top.result = omega (arith, one_shl c.args.bits 64 few, c.ilog2-top.ensures.next_power_gt) in
    top_upto c.args.bits (c.args.number + 2 ^ c.args.bits) c.ilog2-top.result own high

pub returns : goal.returns
returns c = let few : c.args.bits < 64 = omega arith in
    let low : 2 ^ c.ilog2-top.result ≤ c.args.number + 2 ^ c.args.bits = omega (arith, one_shl c.args.bits 64 few, c.ilog2-top.ensures.power_le) in
    let high : c.args.number + 2 ^ c.args.bits < 2 * 2 ^ c.ilog2-top.result = omega (arith, one_shl c.args.bits 64 few, c.ilog2-top.ensures.next_power_gt) in
    rw (one_shl c.args.bits 64 few, one_shl c.ilog2-top.result 64 c.ilog2-top.ensures.bound) (where_at c.args.bits c.args.number c.ilog2-top.result low high)
