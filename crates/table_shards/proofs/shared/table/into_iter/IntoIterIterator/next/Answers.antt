use Rattle.std.proofs.Common.{◌<◌, ◌∙◌, length, drop, arith, sym}
use Rattle.std.proofs.lemmas.List.{length-set}
use Rattle.std.specs.List.{flat_map}
use Rattle.table_shards.proofs.SharedShards.{one_given, none_left}
use Rattle.table_shards.proofs.shared.table.into_iter.IntoIterIterator.next.Goals as goal

pub returns-in-Some-clause-goes : goal.returns-in-Some-clause-goes
returns-in-Some-clause-goes g c =
    let within : c.loop-self.self-inside.first < length c.loop-self.self-inside.shards = omega (arith, c.loop-self.invariant.1) in
    let given = one_given c.loop-self.self-inside.first c.loop-self.self-inside.shards c.next_of.new.shards c.in-Some.value within (rw (← c.as_mut_slice.ensures.value) c.in-Some.ensures) in
    let less : length (flat_map (λ values. values) (drop c.loop-self.self-inside.first c.next_of.new.shards)) < length c.args.self.now = rw (← c.loop-self.invariant.0, given) (omega arith) in
    record { on = λ f. (tt, tt, less); keeps = tt; rests = λ f. tt }

pub loop-self-preserved : goal.loop-self-preserved
loop-self-preserved g c =
    let within : c.loop-self.self-inside.first < length c.loop-self.self-inside.shards = omega (arith, c.loop-self.invariant.1) in
    let at = c.in_default.ensures in (
      sym (none_left c.loop-self.self-inside.first c.loop-self.self-inside.shards c.next_of.new.shards within (rw (← c.as_mut_slice.ensures.value) at)) ∙ c.loop-self.invariant.0,
      rw (at.kept, c.as_mut_slice.ensures.value) (length-set c.loop-self.self-inside.shards c.loop-self.self-inside.first at.rest ∙ c.loop-self.invariant.1),
    )
