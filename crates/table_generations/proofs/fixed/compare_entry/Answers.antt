use Rattle.std.proofs.Common.{refl, inr}
use Rattle.table_generations.proofs.fixed.compare_entry.Goals as goal

pub returns-then-test : goal.returns-then-test
returns-then-test g c = (
  record {
    entry = c.args.entry.now;
    held = refl;
    marked = refl;
    accepted = record { shown = c.deref.result; shows = c.deref.ensures; says = record { met = c.if-test.ensures } };
  },
  refl,
)

pub returns-else-test : goal.returns-else-test
returns-else-test g c = record {
  entry = c.args.entry.now;
  held = refl;
  refused = inr (record { shown = c.deref.result; shows = c.deref.ensures; says = record { met = c.if-test.ensures } });
}
