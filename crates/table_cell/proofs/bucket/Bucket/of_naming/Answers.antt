use Rattle.std.proofs.Common.{◌≡◌, ◌∙◌, Option, ap, sym, subst}
use Rattle.table_cell.specs.Notes.{Agrees}
use Rattle.table_cell.proofs.Marks.{is_named}
use Rattle.table_cell.proofs.bucket.Bucket.of_naming.Goals as goal

pub invariant_of-result : goal.invariant_of-result
invariant_of-result g c =
    let word = c.args.word in
    let (e, is) = c.requires in
    let same : e ≡ c.name.result.value = subst (λ (v : Option _). Agrees v c.name.result.value) (ap (λ w. w.value) is) c.name.ensures.1.0 in
    is_named c.get.result.now.bits word.from c.args.home.now.id e word is (ap (λ x. x.bits) (same ∙ sym c.get.ensures))
