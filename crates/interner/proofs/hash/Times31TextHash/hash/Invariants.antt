use Rattle.std.proofs.Common.{◌≡◌, take}
use Rattle.interner.specs.Hashes.{text_hash}
use Rattle.interner.proofs.hash.Times31TextHash.hash.Given as goal

-- it is the hash of the bytes so far
abbrev pub invariant-loop-byte : goal.invariant-loop-byte
invariant-loop-byte l = l.hash ≡ text_hash (take l.byte-index l.text)
