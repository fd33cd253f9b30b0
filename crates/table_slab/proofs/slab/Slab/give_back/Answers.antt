use Rattle.std.proofs.Common.{ℕ, ◌<◌, subst, arith}
use Rattle.table_slab.specs.Numbering.{IsAt}
use Rattle.table_slab.proofs.Places.{few_numbers}
use Rattle.table_slab.proofs.Runs.{run_cell, run_slots}
use Rattle.table_slab.proofs.slab.Slab.give_back.Goals as goal

pub where_is-seat-requires-clause-number : goal.where_is-seat-requires-clause-number
where_is-seat-requires-clause-number g c = let some : 0 < c.args.run.left = omega arith in let are = c.requires some in few_numbers are.small are.at

pub chunk-requires-clause-inside : goal.chunk-requires-clause-inside
chunk-requires-clause-inside g c = let some : 0 < c.args.run.left = omega arith in (c.requires some).inside

pub chunk-requires-clause-cell : goal.chunk-requires-clause-cell
chunk-requires-clause-cell g c = let some : 0 < c.args.run.left = omega arith in run_cell (c.requires some) c.in-Some.is

pub give_back-requires : goal.give_back-requires
give_back-requires g c = let some : 0 < c.args.run.left = omega arith in
    rw c.chunk.ensures (run_slots (c.requires some) c.in-Some.is (subst (λ (bits : ℕ). IsAt bits c.args.run.number c.where_is-seat.result.0 c.where_is-seat.result.1) c.bits.ensures c.where_is-seat.ensures))
