use Rattle.std.proofs.Common.{rules}
use Rattle.table_shared.specs.Stepped.{Advances}
use Rattle.table_shared.proofs.stepped.LookupCall.advance.Goals.{then-eq-2, else-eq-2}
use Rattle.table_shared.proofs.stepped.LookupCall.advance.Goals as goal

pub returns-clause-moved : goal.returns-clause-moved
returns-clause-moved g c =
    let steps : Advances c.args.self.now.state c.turn.new.self.state = rw (← c.self.view_is) (c.turn.result.0, c.turn.ensures.went) in
    elim c.if-eq-2.branch [
      | then-eq-2 w ↦ search (rules, steps)
      | else-eq-2 w ↦ search (rules, steps)
    ]

pub returns-clause-ended : goal.returns-clause-ended
returns-clause-ended g c =
    let steps : Advances c.args.self.now.state c.turn.new.self.state = rw (← c.self.view_is) (c.turn.result.0, c.turn.ensures.went) in
    elim c.if-eq-2.branch [
      | then-eq-2 w ↦ search (rules, steps)
      | else-eq-2 w ↦ search (rules, steps)
    ]
