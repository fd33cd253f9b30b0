use Rattle.std.proofs.Common.{◌≡◌, ℕ, subst, arith}
use Rattle.table_chain.specs.History.{Stands}
use Rattle.test_parts.proofs.chain.counting.push.Goals as goal

pub show-requires-clause-fits : goal.show-requires-clause-fits
show-requires-clause-fits g c = let e = c.newest-newest.ensures in record {
  first = λ is. tt;
  behind = λ q is. let at : c.newest-newest.result.0 ≡ q = omega (arith, is) in (c.newest-newest.result.1.now, subst (λ (i : ℕ). Stands c.newest-newest.new.seen.log i c.newest-newest.result.1.now) at e.there, tt);
}
