use Rattle.std.proofs.lemmas.List.Elements.{All-nil}
use Rattle.testkit_replay.proofs.running.run_over.Goals as goal

-- the closures ask nothing, and no call has begun
pub run-requires : goal.run-requires
run-requires g c = record { ready = (record { at = λ a. tt }, record { at = λ a. tt }, record { at = λ a. tt }, rw (c.new-2.ensures.items) (All-nil _)) }
