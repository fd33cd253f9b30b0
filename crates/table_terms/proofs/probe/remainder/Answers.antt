use Rattle.std.proofs.Common.{◌∙◌, sym}
use Rattle.table_terms.proofs.Masks.{power_of_two, mask-mod}
use Rattle.table_terms.proofs.probe.remainder.Goals as goal

pub returns-then-is_power_of_two : goal.returns-then-is_power_of_two
returns-then-is_power_of_two c = mask-mod c.args.hash c.args.count (power_of_two c.args.count (sym c.is_power_of_two.ensures ∙ c.if-is_power_of_two.true))
