use Rattle.std.proofs.Common.{◌≡◌, ◌∷◌}
use Rattle.std.specs.List.Sorted.{IsPermutation}
use Rattle.std.proofs.lemmas.List.Sorted.{IsPermutation-trans}
use Rattle.table_shards.specs.ShardWalks.{left_of}
use Rattle.table_shards.proofs.ShardWalks.{next_given, nothing_left, nothing_was, one_less}
use Rattle.table_shards.proofs.sharded.into_iter.IntoIterIterator.next.Goals as goal

pub loop-value-preserved : goal.loop-value-preserved
loop-value-preserved g c =
    let split : c.loop-value.self-inside.later ≡ c.in_ok-next_shard.field-0 ∷ c.next_shard.new.self = c.in_ok-next_shard.ensures in
    IsPermutation-trans _ _ _ c.loop-value.invariant
    (next_given c.loop-value.self-inside.walk c.into_iter.result c.in_ok-next_shard.field-0 c.loop-value.self-inside.later c.next_shard.new.self c.in_default.ensures.steps.0 c.into_iter.ensures.into_iter_gives.gives.permuted split)

pub returns-in-Some-clause-goes : goal.returns-in-Some-clause-goes
returns-in-Some-clause-goes g c =
    let out : IsPermutation c.args.self.now (c.in-Some.value ∷ left_of c.next.new.self c.loop-value.self-inside.later) = rw c.in-Some.ensures.steps at c.loop-value.invariant in
    record { on = λ f. (tt, tt, one_less _ _ c.in-Some.value out); keeps = tt; rests = λ f. tt }

pub returns-in_err-next_shard-clause-steps : goal.returns-in_err-next_shard-clause-steps
returns-in_err-next_shard-clause-steps g c =
    let none = nothing_left c.loop-value.self-inside.walk c.loop-value.self-inside.later c.in_default.ensures.steps.0 c.in_err-next_shard.ensures.0 in
    let after = nothing_left c.next.new.self c.next_shard.new.self c.in_default.ensures.steps.1 c.in_err-next_shard.ensures.1 in
    rw c.from_residual.ensures (nothing_was c.args.self.now _ c.loop-value.invariant none, after)

pub returns-in_err-next_shard-clause-goes : goal.returns-in_err-next_shard-clause-goes
returns-in_err-next_shard-clause-goes g c = rw c.from_residual.ensures (record { on = λ f. tt; keeps = tt; rests = λ f. tt })
