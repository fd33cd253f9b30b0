use Rattle.table_shards.proofs.SharedShards.{shares_one}
use Rattle.table_shards.proofs.shared.table.share.share_one.Goals as goal

pub returns : goal.returns
returns g c = shares_one c.args.shard c.args.shards.now c.share.result c.replace.result c.index-shards-shard-2.result c.index-shards-shard.result c.new_like-empty.result c.replace.new.dest
    c.requires c.replace.ensures.value c.new_like-empty.ensures c.replace.ensures.after c.share.ensures.first c.share.ensures.shared
