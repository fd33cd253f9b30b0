use Rattle.std.proofs.Common.{[], refl}
use Rattle.table_terms.specs.Laws.{same_pair, pair_hash}
use Rattle.tool_commands.proofs.stores.RawPairs.new.Goals as goal

pub returns-clause-empty : goal.returns-clause-empty
returns-clause-empty g c = (c.with_first_capacity.ensures.lawful same_pair pair_hash, [], c.with_first_capacity.ensures.stands, refl)
