use Rattle.std.proofs.Common.{◌∙◌, ap, sym}
use Rattle.std.specs.Option.{is_some}
use Rattle.table_core.specs.Calls.{is_used}
use Rattle.table_core.proofs.CodeCalls.{used_position}
use Rattle.table_core.proofs.calls.Calls.is_used.Goals as goal

pub returns : goal.returns
returns g c = c.contains_key.ensures ∙ ap is_some (c.self.invariant.numbered c.args.number) ∙ sym (used_position c.args.number c.self.inside.all.items) ∙ ap (is_used c.args.number) c.self.view_is
