use Rattle.tool_streams.proofs.Digits.{ReadsTo}
use Rattle.tool_streams.proofs.numbers.parse_digits.Given as goal

abbrev pub invariant-loop-byte : goal.invariant-loop-byte
invariant-loop-byte l = ReadsTo l.radix l.digits l.byte-index l.value
