use Rattle.std.proofs.Common.{◌∙◌, ap}
use Rattle.table_core.specs.Calls.{is_locked}
use Rattle.table_core.proofs.CodeCalls.{locked_first, locked_second}
use Rattle.table_core.proofs.calls.Calls.is_locked.Goals as goal

pub returns-then-self-gt0 : goal.returns-then-self-gt0
returns-then-self-gt0 g c = locked_first _ _ _ _ _ c.self.invariant c.if-self-gt0.true ∙ ap is_locked c.self.view_is

pub returns-else-self-gt0 : goal.returns-else-self-gt0
returns-else-self-gt0 g c = locked_second _ _ _ _ _ c.self.invariant c.if-self-gt0.false ∙ ap is_locked c.self.view_is
