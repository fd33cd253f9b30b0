use Rattle.tool_commands.specs.Events.{pieces_of}
use Rattle.tool_commands.proofs.EventPieces.{no_number, no_call, no_number_before, none_behind, behind_after, IfSome-implies, IfNone-implies}
use Rattle.tool_commands.proofs.events.parse_after.Goals as goal

pub returns-in_err-call-in-None-clause-bad : goal.returns-in_err-call-in-None-clause-bad
returns-in_err-call-in-None-clause-bad c =
    rw c.from_residual.ensures (λ e s. no_number _ _ c.in-None.ensures.missing e s c.in_err-call-in-None.ensures.bad)

pub returns-in_err-call-in-Some-clause-bad : goal.returns-in_err-call-in-Some-clause-bad
returns-in_err-call-in-Some-clause-bad c =
    rw c.from_residual-in_err-call-in-Some.ensures
    (λ e s. no_number_before _ _ _ _ c.in-Some.ensures.parts c.in-Some.ensures.first e s c.in_err-call-in-Some.ensures.bad)

pub returns-in_ok-call-in-None-clause-bad : goal.returns-in_ok-call-in-None-clause-bad
returns-in_ok-call-in-None-clause-bad c =
    IfNone-implies c.event_of_call.result
    (λ never e s. no_call _ _ c.in-None.ensures.missing e s c.in_ok-call-in-None.call c.in_ok-call-in-None.ensures.spelled never)
    c.event_of_call.ensures.unnamed

pub returns-in_ok-call-in-Some-clause-spelled : goal.returns-in_ok-call-in-Some-clause-spelled
returns-in_ok-call-in-Some-clause-spelled c =
    IfSome-implies c.parse_behind.result
    (λ e s. behind_after _ _ _ _ _ (pieces_of e) (record { parts = c.in-Some.ensures.parts; first = c.in-Some.ensures.first }) c.in_ok-call-in-Some.ensures.spelled s)
    c.parse_behind.ensures.spelled

pub returns-in_ok-call-in-Some-clause-bad : goal.returns-in_ok-call-in-Some-clause-bad
returns-in_ok-call-in-Some-clause-bad c =
    IfNone-implies c.parse_behind.result
    (λ never e s. none_behind _ _ _ _ c.in-Some.ensures.parts c.in-Some.ensures.first e s c.in_ok-call-in-Some.call c.in_ok-call-in-Some.ensures.spelled never)
    c.parse_behind.ensures.bad
