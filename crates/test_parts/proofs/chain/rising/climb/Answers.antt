use Rattle.std.proofs.Common.{ℕ, ◌<◌, subst}
use Rattle.table_chain.specs.History.{Stands}
use Rattle.table_chain.proofs.Chained.{stands_on}
use Rattle.test_parts.proofs.chain.rising.climb.Goals as goal

pub returns-in-Some-clause-greater : goal.returns-in-Some-clause-greater
returns-in-Some-clause-greater c = let log = c.look.new.seen.log in let n = c.in-Some.found.now in
    c.each_follows.ensures.follows c.args.slot c.args.here n (stands_on (λ (m : ℕ). Unit {0}) (λ (m n : ℕ). m < n) c.args.seen.now.log log c.args.slot c.args.here c.look.ensures.longer c.requires.here)
    (subst (λ (i : ℕ). Stands log i n) c.requires.next c.in-Some.ensures.told)
