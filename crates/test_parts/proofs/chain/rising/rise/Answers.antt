use Rattle.std.proofs.Common.{◌≡◌, ℕ, subst, arith}
use Rattle.table_chain.specs.History.{Stands}
use Rattle.test_parts.proofs.chain.rising.rise.Goals as goal

pub show-requires-clause-fits : goal.show-requires-clause-fits
show-requires-clause-fits c = record {
  first = λ is. tt;
  behind = λ q is. let at : c.args.slot ≡ q = omega (arith, is, c.requires.next) in (c.args.here, subst (λ (i : ℕ). Stands c.args.seen.now.log i c.args.here) at c.requires.here, c.requires.greater);
}
