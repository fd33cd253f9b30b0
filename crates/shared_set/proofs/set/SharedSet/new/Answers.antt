use Rattle.std.proofs.Common.{refl}
use Rattle.shared_set.proofs.set.SharedSet.new.Goals as goal

pub with_buckets-requires-clause-power : goal.with_buckets-requires-clause-power
with_buckets-requires-clause-power g c = (4, refl)
