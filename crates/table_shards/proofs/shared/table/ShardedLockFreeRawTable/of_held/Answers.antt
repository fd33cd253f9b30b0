use Rattle.std.proofs.Common.{rules, ℕ, ◌≡◌, ◌<◌, length, ◌∙◌, ap, sym, arith, get_or}
use Rattle.std.proofs.lemmas.Fn.{serves_by}
use Rattle.std.proofs.lemmas.List.{length-set}
use Rattle.table_shared.specs.Tables.{SharedTable}
use Rattle.table_held.specs.Table.{HeldTable, empty_table}
use Rattle.table_shards.specs.SharedShards.{SharesOne}
use Rattle.table_shards.proofs.SharedShards.{KeepsShown, inside, part_below, made_taking, shared_out, same_by}
use Rattle.table_shards.proofs.shared.table.ShardedLockFreeRawTable.of_held.Given as given
use Rattle.table_shards.proofs.shared.table.ShardedLockFreeRawTable.of_held.Goals as goal

pub from_fn-shards-requires : goal.from_fn-shards-requires
from_fn-shards-requires g c = (
  search part_below,
  serves_by _ (λ xs f. length f.0.now ≡ g.row.SHARDS)
      (λ xs f i q kept step. (let one : SharesOne i f.0.now step.0 q.0.now = search rules in ap length one.left ∙ (length-set f.0.now i (empty_table one.taken.first_capacity) ∙ kept)))
      _ _ 0 _ c.requires.shards (λ xs t f i u yields next kept _ _ _ _ _ _ _ _ _ _. inside _ i t u f.0.now kept next),
)

-- each shard that was made keeps what the one at its place shows
each_kept : (g : given.Over) (c : goal.After-held-1 g) → (k : ℕ) (d : HeldTable g.row.T.Denot) (e : SharedTable g.row.T.Denot) → k < length c.args.held.now → KeepsShown (get_or c.args.held.now k d) (get_or c.from_fn-shards.result k e)
each_kept g c k d e within =
    made_taking _ (λ f. f.0.now) KeepsShown (λ f q i y in_list called. (let one : SharesOne i f.0.now y q.0.now = search rules in shared_out i f.0.now q.0.now y in_list one)) c.from_fn-shards.result g.row.SHARDS 0 _ (omega (arith, c.requires.shards)) c.from_fn-shards.ensures.items.each k d e (omega arith) (omega (arith, within, c.requires.shards))

pub returns-clause-first : goal.returns-clause-first
returns-clause-first g c = same_by _ _ c.args.held.now c.from_fn-shards.result (c.from_fn-shards.ensures.items.long ∙ sym c.requires.shards) (λ k d e within. (each_kept g c k d e within).0)

pub returns-clause-shared : goal.returns-clause-shared
returns-clause-shared g c = same_by _ _ c.args.held.now c.from_fn-shards.result (c.from_fn-shards.ensures.items.long ∙ sym c.requires.shards) (λ k d e within. (each_kept g c k d e within).1)
