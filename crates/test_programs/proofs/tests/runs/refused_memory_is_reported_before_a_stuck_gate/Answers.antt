use Rattle.std.proofs.Crossing as global
use Rattle.test_programs.proofs.tests.runs.refused_memory_is_reported_before_a_stuck_gate.Goals as goal

-- any thread may give a block back, since it goes back to the program's memory
pub run_under-requires-frees-A-Allocator : goal.run_under-requires-frees-A-Allocator
run_under-requires-frees-A-Allocator g c = λ κs. record { frees = λ heap τ p. global.frees.frees heap.now.inner τ p }
