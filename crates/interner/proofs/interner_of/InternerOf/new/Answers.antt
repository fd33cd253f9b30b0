use Rattle.std.proofs.Common.{rules, arith, refl, []}
use Rattle.interner.proofs.interner_of.InternerOf.new.Goals as goal

pub invariant_of-result : goal.invariant_of-result
invariant_of-result g c = rw c.new-2.ensures.items (record {
  different = search rules;
  few = omega arith;
  held = ([], c.new.ensures.stands, record { numbered = λ k e at. absurd (search rules); texts_are = refl });
  lawful = c.new.ensures.lawful _ _;
})
