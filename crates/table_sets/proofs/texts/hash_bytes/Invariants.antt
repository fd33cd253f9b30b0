use Rattle.std.proofs.Common.{◌≡◌, take}
use Rattle.table_sets.specs.Texts.{text_number}
use Rattle.table_sets.proofs.texts.hash_bytes.Given as goal

-- it is the number of the bytes so far
abbrev pub invariant-loop-byte : goal.invariant-loop-byte
invariant-loop-byte l = l.number ≡ text_number (take l.byte-index l.bytes)
