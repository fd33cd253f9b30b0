use Rattle.std.proofs.Common.{arith}
use Rattle.std.proofs.lemmas.Grind.{common_steps}
use Rattle.tool_streams.proofs.Digits.{no_room, all_read}
use Rattle.tool_streams.proofs.numbers.parse_digits.Goals as goal

pub returns-in_err-checked_mul-clause-bad : goal.returns-in_err-checked_mul-clause-bad
returns-in_err-checked_mul-clause-bad c =
    rw c.from_residual-in_err-checked_mul.ensures
    (λ n. no_room _ _ _ _ _ n c.loop-byte.invariant (omega arith) c.loop-byte-test.true (let over = rw c.from-in-loop-byte.ensures at c.in_err-checked_mul.ensures in omega (arith, over)))

pub returns-in_err-value-clause-bad : goal.returns-in_err-value-clause-bad
returns-in_err-value-clause-bad c =
    rw c.from_residual-in_err-value.ensures
    (λ n. no_room _ _ _ _ _ n c.loop-byte.invariant (omega arith) c.loop-byte-test.true (grind (arith, common_steps)))

pub returns-clause-written : goal.returns-clause-written
returns-clause-written c = all_read _ _ _ _ _ c.loop-byte.invariant (grind (arith, common_steps)) c.if-digits-most.false c.loop-byte-test.false
