use Rattle.std.proofs.Common.{rules, ◌≡◌, length, ◌∙◌, ap}
use Rattle.std.proofs.lemmas.Fn.{serves_by}
use Rattle.std.proofs.lemmas.List.{length-set}
use Rattle.table_shards.specs.SharedShards.{TakesOne}
use Rattle.table_shards.proofs.SharedShards.{first_fits, inside}
use Rattle.table_shards.proofs.shared.table.into_iter.IntoIter.of_tables.Goals as goal

pub from_fn-shards-requires : goal.from_fn-shards-requires
from_fn-shards-requires g c = (
  search first_fits,
  serves_by _ (λ xs f. length f.0.now ≡ g.row.SHARDS)
      (λ xs f i q kept step. (let one : TakesOne i f.0.now q.0.now = search rules in ap length one.left ∙ (length-set f.0.now i one.other ∙ kept)))
      _ _ 0 _ c.requires (λ xs t f i u yields next kept _ _ _ _ _ _ _ _ _ _. inside _ i t u f.0.now kept next),
)
