use Rattle.std.proofs.Common.{ℕ, ◌%◌, ◌∙◌, ap, arith}
use Rattle.table_terms.proofs.Masks.{mask-mod}
use Rattle.table_terms.proofs.probe.first_bucket.Goals as goal

pub returns-clause-first : goal.returns-clause-first
returns-clause-first c = mask-mod c.args.hash c.args.capacity c.requires ∙ ap (λ (h : ℕ). h % c.args.capacity) (omega arith)
