use Rattle.std.proofs.Common.{◌≡◌, ◌∙◌, Option, ap, sym, subst}
use Rattle.table_cell.specs.Notes.{Agrees}
use Rattle.table_cell.proofs.Marks.{is_own}
use Rattle.table_cell.proofs.bucket.Bucket.owning.Goals as goal

pub invariant_of-result : goal.invariant_of-result
invariant_of-result g c =
    let e = c.args.block.value in
    let same : e ≡ c.name.result.value = subst (λ (v : Option _). Agrees v c.name.result.value) (ap (λ w. w.value) c.own-word.ensures) c.name.ensures.1.0 in
    is_own c.get.result.now.bits c.args.block.from c.args.home.now.id e c.own-word.result c.own-word.ensures (ap (λ x. x.bits) (same ∙ sym c.get.ensures))
