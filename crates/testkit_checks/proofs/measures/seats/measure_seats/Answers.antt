use Rattle.table_terms.proofs.Masks.{power-is_power_of_two}
use Rattle.testkit_checks.proofs.measures.seats.measure_seats.Goals as goal

pub new-requires : goal.new-requires
new-requires _ _ = power-is_power_of_two 21
