use Rattle.std.proofs.Common.{◌∙◌}
use Rattle.table_core.proofs.CodeSteps.{tells_ended, tells_nothing}
use Rattle.table_core.proofs.machine.tell.Goals as goal

pub returns-in-Done : goal.returns-in-Done
returns-in-Done g c = c.tell_ended.ensures ∙ tells_ended c.args.table.now c.args.call.now c.args.answer c.args.next c.requires.fitting c.requires.next c.in-Done.is

pub returns-in_default : goal.returns-in_default
returns-in_default g c = tells_nothing c.args.table.now c.args.call.now c.args.answer c.args.next c.requires.fitting c.requires.next c.in_default.not-Done
