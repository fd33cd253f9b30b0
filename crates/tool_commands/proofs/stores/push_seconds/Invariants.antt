use Rattle.std.proofs.Common.{◌≡◌, ◌++◌, map}
use Rattle.tool_commands.proofs.stores.push_seconds.Given as goal

abbrev pub invariant-loop-pair : goal.invariant-loop-pair
invariant-loop-pair g l = l.numbers.items ≡ l.initial.numbers.items ++ map (λ p. p.now.1) l.yielded
