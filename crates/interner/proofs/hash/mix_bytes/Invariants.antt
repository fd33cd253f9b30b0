use Rattle.std.proofs.Common.{◌≡◌, take}
use Rattle.interner.specs.Hashes.{mixed_bytes}
use Rattle.interner.proofs.hash.mix_bytes.Given as goal

-- the bytes so far are mixed
abbrev pub invariant-loop-byte : goal.invariant-loop-byte
invariant-loop-byte l = l.mixed ≡ mixed_bytes (take l.byte-index l.text)
