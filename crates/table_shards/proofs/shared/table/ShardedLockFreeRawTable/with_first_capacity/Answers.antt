use Rattle.std.proofs.Common.{rules}
use Rattle.table_shards.proofs.SharedShards.{elements_fit, empty_shards_made}
use Rattle.table_shards.proofs.shared.table.ShardedLockFreeRawTable.with_first_capacity.Goals as goal

pub returns : goal.returns
returns g c = empty_shards_made _ c.args.first_capacity _ (λ i t q called. (search rules, (search rules, search rules))) _ _ c.from_fn-shards.ensures.items.long c.from_fn-shards.ensures.items.each

pub from_fn-shards-requires : goal.from_fn-shards-requires
from_fn-shards-requires g c = (search elements_fit, search rules)
