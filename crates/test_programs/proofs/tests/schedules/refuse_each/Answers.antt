use Rattle.std.proofs.Crossing as global
use Rattle.test_programs.proofs.tests.schedules.refuse_each.Goals as goal

-- any thread may give a block back, since it goes back to the program's memory
pub take-requires-frees-A-Allocator : goal.take-requires-frees-A-Allocator
take-requires-frees-A-Allocator g c = λ κs lives. record { frees = λ heap τ p. global.frees.frees heap.now.inner τ p }
