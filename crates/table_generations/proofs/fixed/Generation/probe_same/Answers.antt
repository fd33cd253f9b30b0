use Rattle.std.proofs.Common.{rules}
use Rattle.table_generations.proofs.Probes.{gives_into}
use Rattle.table_generations.proofs.fixed.Generation.probe_same.Goals as goal

pub returns : goal.returns
returns g c = gives_into _ _ _ (λ x r s. record { first = c.args.key; second = s.shown; shows = (search rules, s.shows); says = record { met = search rules } }) _ _ _ c.probe.ensures
