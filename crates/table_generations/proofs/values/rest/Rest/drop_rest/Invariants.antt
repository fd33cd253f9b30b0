use Rattle.std.proofs.Common.{◌≡◌, length}
use Rattle.std.specs.Prelude.{All}
use Rattle.table_generations.proofs.values.rest.Rest.drop_rest.Given as goal

-- the generations that are left are of the home
abbrev pub invariant-loop-generation : goal.invariant-loop-generation
invariant-loop-generation g l = All (λ g. g.home ≡ l.closed.id) l.self

abbrev pub decreases-loop-generation : goal.decreases-loop-generation
decreases-loop-generation g l = length l.self
