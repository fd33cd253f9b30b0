use Rattle.std.proofs.Common.{refl}
use Rattle.table_core.specs.declared.call.Phase.TheVariants.{Shared}
use Rattle.table_shared.proofs.Between.{carries, loads}
use Rattle.table_shared.proofs.Stepping.{carries_on}
use Rattle.table_shared.proofs.insert.between.Inserting.load.Goals as goal

pub invariant_of-self : goal.invariant_of-self
invariant_of-self g c = record { between = loads c.args.self.now.between c.load-answer.result.0 c.load-answer.result.1 c.requires.phase c.load-answer.ensures.loads }

pub returns : goal.returns
returns g c = carries_on g.E.Fn _ _ _ c.load-answer.ensures.went (carries c.args.self.now.between Shared c.requires.phase refl) refl refl
