use Rattle.std.proofs.Common.{◌≡◌, map, take}
use Rattle.demo_examples.specs.Asks.{asked_of_words}
use Rattle.demo_examples.proofs.alike.calls_of.Given as goal

abbrev pub invariant-loop-ask : goal.invariant-loop-ask
invariant-loop-ask l = l.calls.items ≡ map asked_of_words (take l.ask-index l.asks)
