use Rattle.table_shared.proofs.stepped.InsertCall.advance.Goals as goal

pub try_turn-requires : goal.try_turn-requires
try_turn-requires g c =
    let may = rw (← c.self.view_is) at c.requires.may_step in
    record { asks = record { calls_eq = may.0; calls_hash = may.1; heard = may.2 } }
