use Rattle.std.proofs.Common.{refl}
use Rattle.table_shared.proofs.Between.{takes, wants_carries, wants_fits}
use Rattle.table_shared.proofs.Stepping.{carries_on}
use Rattle.table_shared.proofs.insert.between.Inserting.take.Goals as goal

pub step-self-requires : goal.step-self-requires
step-self-requires g c = record { fits = wants_fits c.args.self.now.state c.args.held c.requires.wanted }

pub invariant_of-self : goal.invariant_of-self
invariant_of-self g c = record { between = takes c.args.self.now.between c.step-self.result c.args.held c.requires.wanted c.requires.lock c.step-self.ensures.decided }

pub returns : goal.returns
returns g c = carries_on g.E.Fn _ _ _ c.step-self.ensures.went (wants_carries c.args.self.now.between c.args.held c.requires.wanted) refl refl
