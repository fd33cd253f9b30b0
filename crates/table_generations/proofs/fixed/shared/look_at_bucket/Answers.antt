use Rattle.std.proofs.Common.{◌≡◌, ◌∙◌, refl, sym, inl, inr}
use Rattle.table_generations.specs.Buckets.{vacant}
use Rattle.table_generations.proofs.fixed.shared.look_at_bucket.Goals as goal

pub returns-in-Some-clause-seen : goal.returns-in-Some-clause-seen
returns-in-Some-clause-seen g c =
    let empty : c.args.bucket.now.content ≡ vacant = rw c.in-Unmarked.is at c.mark.ensures in
    let saw = rw empty at c.in-Some.ensures.shared in
    rw empty (record { alone = tt; shared = (rw (← saw.0) c.look_at_entry.ensures, saw.1) })

pub returns-in_default-clause-seen : goal.returns-in_default-clause-seen
returns-in_default-clause-seen g c = elim c.in-Own.is [
  | inl mark ↦ (let (e, is, marked) = rw mark at c.mark.ensures in rw is (record { alone = ((e, refl, λ same. c.if-bits-sought.false (sym marked ∙ same)), refl); shared = tt }))
  | inr mark ↦ (let (e, is, marked) = rw mark at c.mark.ensures in rw is (record { alone = ((e, refl, λ same. c.if-bits-sought.false (sym marked ∙ same)), refl); shared = tt }))
]
