use Rattle.std.proofs.Common.{◌∙◌, ap, sym}
use Rattle.std.specs.Prelude.{nat_lt}
use Rattle.table_core.specs.Calls.{Call, is_owned, holds_owned}
use Rattle.table_core.proofs.CodeCalls.{any_counts}
use Rattle.table_core.proofs.calls.Calls.is_owned.Goals as goal

pub returns : goal.returns
returns g c = ap (nat_lt 0) c.self.invariant.owned ∙ sym (any_counts (λ (d : Call). holds_owned d.state.phase) c.self.inside.all.items) ∙ ap is_owned c.self.view_is
