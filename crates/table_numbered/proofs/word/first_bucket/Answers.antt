use Rattle.std.proofs.Common.{ℕ, ◌+◌, ◌*◌, ◌/◌, ◌^◌, ◌<◌, sym, ◌∙◌, arith}
use Rattle.std.proofs.Math.Nat.{mod-eq_of_lt}
use Rattle.table_numbered.specs.Probing.{first_of}
use Rattle.table_numbered.proofs.Marks.{first_below}
use Rattle.table_numbered.proofs.word.first_bucket.Goals as goal

pub returns-clause-within : goal.returns-clause-within
returns-clause-within c = first_below c.args.mark c.args.buckets c.requires.mark c.requires.some

pub returns-clause-first : goal.returns-clause-first
unfolding first_of
returns-clause-first c = let n : ℕ = c.args.mark * c.args.buckets / 2 ^ 32 in let less : n + 0 < c.args.buckets = omega (arith, first_below c.args.mark c.args.buckets c.requires.mark c.requires.some) in
    sym (mod-eq_of_lt less ∙ omega arith)
