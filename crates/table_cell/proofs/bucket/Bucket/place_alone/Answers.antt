use Rattle.std.proofs.Common.{ap, ◌∙◌}
use Rattle.table_cell.proofs.Marks.{is_own}
use Rattle.table_cell.proofs.bucket.Bucket.place_alone.Goals as goal

pub invariant_of-self : goal.invariant_of-self
invariant_of-self g c = is_own c.args.bits c.of.result.from c.args.home.now.id c.of.result.value c.own.result c.own.ensures
    (ap (λ e. e.bits) (c.of.ensures.0 ∙ c.in-Ok.ensures.ok))
