use Rattle.test_parts.proofs.slab.numbers.write_and_end.Goals as goal

pub take_out-requires-clause-left : goal.take_out-requires-clause-left
take_out-requires-clause-left c = c.end-ending.ensures.left c.in_ok-number.number
