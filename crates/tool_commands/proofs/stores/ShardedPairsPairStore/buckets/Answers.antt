use Rattle.tool_commands.proofs.stores.ShardedPairsPairStore.buckets.Goals as goal

pub returns-clause-few : goal.returns-clause-few
returns-clause-few g c = rw (← c.self.view_is) c.buckets_alone.ensures.linear_in_entries
