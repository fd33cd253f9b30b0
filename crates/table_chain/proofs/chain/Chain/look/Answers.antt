use Rattle.std.proofs.Common.{inl}
use Rattle.table_chain.proofs.chain.Chain.look.Goals as goal

pub returns-then-found-eq0-clause-told : goal.returns-then-found-eq0-clause-told
returns-then-found-eq0-clause-told g c = inl (c.look_at-found.ensures.told.0 c.if-found-eq0.true)
