use Rattle.std.proofs.Common.{refl}
use Rattle.std.proofs.lemmas.Iterator.{items_from_collect}
use Rattle.std.proofs.lemmas.Iterator.Consumers.{YieldsList-from_first}
use Rattle.shared_set.specs.Ending.{EndedView}
use Rattle.demo_examples.proofs.accounts.take_all.Goals as goal

pub returns : goal.returns
returns g c = items_from_collect c.collect.result c.collect.ensures.ran (YieldsList-from_first (λ (v : g.row.V.Denot). v) (λ (e : EndedView g.row.V.Denot). e.left) c.args.values.left refl)
