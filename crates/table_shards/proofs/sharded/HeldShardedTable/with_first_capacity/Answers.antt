use Rattle.std.proofs.Common.{◌≡◌, refl, rules, arith}
use Rattle.table_shards.specs.Shards.{empty_shards}
use Rattle.table_held.specs.Table.{empty_table}
use Rattle.table_shards.proofs.Shards.{made_from, shards_new, new_counted, new_stands, new_lawful}
use Rattle.table_shards.proofs.sharded.HeldShardedTable.with_first_capacity.Goals as goal

pub invariant_of-result : goal.invariant_of-result
invariant_of-result g c =
    let new : c.from_fn-shards.result ≡ empty_shards g.row.SHARDS c.args.first_capacity = shards_new c.from_fn-shards.result _ c.args.first_capacity c.from_fn-shards.ensures.items.long (λ k d within. made_from _ (λ t. t ≡ empty_table c.args.first_capacity) _ (λ i y q called. (search rules, search rules)) _ _ 0 _ refl c.from_fn-shards.ensures.items.each k d (omega arith) (omega (arith, within))) in
    (c.requires.shards, c.from_fn-shards.ensures.items.long, rw new (new_counted _ g.row.SHARDS c.args.first_capacity))

pub returns : goal.returns
returns g c =
    let new : c.from_fn-shards.result ≡ empty_shards g.row.SHARDS c.args.first_capacity = shards_new c.from_fn-shards.result _ c.args.first_capacity c.from_fn-shards.ensures.items.long (λ k d within. made_from _ (λ t. t ≡ empty_table c.args.first_capacity) _ (λ i y q called. (search rules, search rules)) _ _ 0 _ refl c.from_fn-shards.ensures.items.each k d (omega arith) (omega (arith, within))) in
    record { empty = new; stands = rw new (new_stands _ g.row.SHARDS c.args.first_capacity); lawful = rw new (new_lawful g.T.AtomicValue.target g.row.SHARDS c.args.first_capacity) }
