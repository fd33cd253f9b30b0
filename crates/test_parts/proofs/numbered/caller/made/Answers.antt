use Rattle.std.proofs.Common.{◌∙◌, sym}
use Rattle.table_terms.proofs.Masks.{power_of_two}
use Rattle.test_parts.proofs.numbered.caller.made.Goals as goal

pub new-requires-clause-power : goal.new-requires-clause-power
new-requires-clause-power g c = power_of_two c.args.buckets (sym c.is_power_of_two.ensures ∙ c.if-is_power_of_two.true)
