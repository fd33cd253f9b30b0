use Rattle.std.proofs.Common.{inr}
use Rattle.table_generations.proofs.Contents.{naming_shows}
use Rattle.table_generations.proofs.growth.rehash_one.Goals as goal

pub returns-in-Some-clause-step : goal.returns-in-Some-clause-step
returns-in-Some-clause-step g c =
    let (e, is, shows) = naming_shows c.args.old.now.from c.args.old.now.home _ c.in-Some.name c.in-Some.ensures in
    let (i, vac, put) = c.insert_unique.ensures.put in
    inr (e, shows, (i, vac, rw is at put))
