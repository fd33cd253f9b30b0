use Rattle.std.proofs.Common.{ℕ, subst, arith}
use Rattle.table_chain.specs.History as chain
use Rattle.shared_set.proofs.set.SharedSet.look_ahead.Goals as goal

pub returns-in-Some-clause-next : goal.returns-in-Some-clause-next
returns-in-Some-clause-next g c = let s = c.in-Some.field-0.now in (s, subst (λ (n : ℕ). chain.Stands c.look.new.seen.log n s) (omega arith) c.in-Some.ensures.told)
