use Rattle.tool_commands.proofs.stores.ShardedPairsPairStore.find_pair.Goals as goal

pub returns : goal.returns
returns g c = λ ps holds. c.find.ensures ps (rw (← c.self.view_is) at holds)
