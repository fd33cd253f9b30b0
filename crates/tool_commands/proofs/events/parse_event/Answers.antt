use Rattle.tool_commands.proofs.EventPieces.{no_event, cut_event, IfNone-implies}
use Rattle.tool_commands.proofs.events.parse_event.Goals as goal

pub returns-in_err-word-clause-bad : goal.returns-in_err-word-clause-bad
returns-in_err-word-clause-bad c = rw c.from_residual.ensures (λ e s. no_event _ e c.in_err-word.ensures.missing s)

pub returns-clause-bad : goal.returns-clause-bad
returns-clause-bad c =
    IfNone-implies c.parse_after.result
    (λ none e s. none e (cut_event _ _ _ e c.in_ok-word.ensures.parts c.in_ok-word.ensures.first s))
    c.parse_after.ensures.bad
