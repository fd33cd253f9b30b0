use Rattle.std.proofs.Common.{sym, subst}
use Rattle.table_cell.specs.Contents.{IsMarked}
use Rattle.table_cell.proofs.Marks.{own_bits, named_bits, is_named}
use Rattle.table_cell.proofs.bucket.BucketRef.naming.Goals as goal
use Rattle.table_cell.proofs.bucket.BucketRef.naming.Goals.{in-Own, in-Named}

pub invariant_of-result : goal.invariant_of-result
invariant_of-result g c =
    let old = c.self.inside.word.now in
    let e = c.name.result.value in
    elim c.match-self.branch [
      | in-Own w ↦ let b = w.in-Own.bits in subst (λ m. IsMarked m c.of_name.result) (sym w.mark-is) (is_named b c.args.alloc c.name.result.home e c.of_name.result c.of_name.ensures
          (own_bits b old e (subst (λ m. IsMarked m old) w.in-Own.is c.self.invariant) c.name.ensures.1.0))
      | in-Named w ↦ let b = w.in-Named.bits in subst (λ m. IsMarked m c.of_name.result) (sym w.mark-is) (is_named b c.args.alloc c.name.result.home e c.of_name.result c.of_name.ensures
          (named_bits b old e (subst (λ m. IsMarked m old) w.in-Named.is c.self.invariant) c.name.ensures.1.0))
    ]
