use Rattle.std.proofs.Common.{rules, arith}
use Rattle.std.proofs.lemmas.Grind.{common_steps}
use Rattle.table_held.specs.Table.{held}
use Rattle.tool_commands.proofs.PairTables.{inserts}
use Rattle.tool_commands.proofs.stores.RawPairsPairStore.place_pair.Goals as goal

pub returns-clause-inserts : goal.returns-clause-inserts
returns-clause-inserts g c = λ ps holds. rw (c.insertion_of.ensures, ← c.in_ok-pair.ensures.ok)
    (inserts held (λ b. b.value) _ _ c.self.inside.table c.place_alone-placed.new.self c.args.hash c.in_ok-pair.pair c.place_alone-placed.result
    (λ x y answer s. search rules) (λ x h s. search rules) (grind (arith, common_steps))
    c.place_alone-placed.ensures.lawful c.place_alone-placed.ensures.as_list ps (rw (← c.self.view_is) at holds))
