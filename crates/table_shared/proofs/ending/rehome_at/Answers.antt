use Rattle.std.proofs.Common.{refl}
use Rattle.table_shared.proofs.ending.rehome_at.Goals as goal

pub returns : goal.returns
returns g c = record {
  generation = c.rehomed.result;
  set = refl;
  settled = record { home_is = c.rehomed.ensures.home; counted = c.rehomed.ensures.counted };
}
