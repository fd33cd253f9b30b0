use Rattle.std.proofs.Common.{subst}
use Rattle.table_cell.specs.Contents.{IsMarked}
use Rattle.table_cell.proofs.Marks.{own_bits, is_own}
use Rattle.table_cell.proofs.bucket.Bucket.rehomed.Goals as goal

pub invariant_of-result : goal.invariant_of-result
invariant_of-result g c =
    let old = c.self.inside.word in
    let block = c.into_block.result in
    is_own c.in-Own.bits block.from c.args.home.now.id block.value c.own.result c.own.ensures
    (own_bits c.in-Own.bits old block.value (subst (λ m. IsMarked m old) c.in-Own.is c.self.invariant) c.into_block.ensures.1.0)
