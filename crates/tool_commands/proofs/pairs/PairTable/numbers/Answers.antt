use Rattle.tool_commands.proofs.PairTables.{lists_numbers}
use Rattle.tool_commands.proofs.pairs.PairTable.numbers.Goals as goal

pub returns : goal.returns
returns g c = λ ps holds.
    lists_numbers g.B.PairStore.shows c.self.inside.table _ _ _ c.in_ok-push_numbers.ensures c.in_ok-numbers.ensures.items c.sort_unstable.ensures.permutation c.sort_unstable.ensures.sorted ps (rw (← c.self.view_is) at holds)
