use Rattle.std.proofs.Common.{ap, ◌∙◌, sym, inl, inr}
use Rattle.table_generations.specs.Buckets.{shown}
use Rattle.table_generations.proofs.fixed.compare_bucket.Goals as goal

pub returns-in_default : goal.returns-in_default
returns-in_default g c = elim c.in-Own.is [
  | inl mark ↦ (let (e, is, marked) = rw mark at c.mark.ensures in record { entry = e; held = ap shown is; refused = inl (λ same. c.if-bits-sought.false (sym marked ∙ same)) })
  | inr mark ↦ (let (e, is, marked) = rw mark at c.mark.ensures in record { entry = e; held = ap shown is; refused = inl (λ same. c.if-bits-sought.false (sym marked ∙ same)) })
]
