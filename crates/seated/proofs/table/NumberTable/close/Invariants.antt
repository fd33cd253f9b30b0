use Rattle.std.proofs.Common.{◌≡◌, length}
use Rattle.std.specs.Mem.Slots.{slots_items}
use Rattle.seated.proofs.Closes.{IsCopied}
use Rattle.seated.proofs.table.NumberTable.close.Given as goal

abbrev pub invariant-loop-bucket : goal.invariant-loop-bucket
invariant-loop-bucket _ l = (length l.room.items ≡ l.count) × IsCopied l.room.items (slots_items l.closed.words) l.bucket
