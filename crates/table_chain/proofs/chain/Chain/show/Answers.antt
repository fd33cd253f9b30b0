use Rattle.std.proofs.Common.{refl, inl}
use Rattle.table_chain.proofs.Steps.{may_on}
use Rattle.table_chain.proofs.Shown.{shows_after}
use Rattle.table_chain.proofs.chain.Chain.show.Goals as goal

pub returns-then-found-ne0-clause-told : goal.returns-then-found-ne0-clause-told
returns-then-found-ne0-clause-told g c = c.other.ensures.told c.args.seen.now.log

pub returns-in_default-clause-told : goal.returns-in_default-clause-told
returns-in_default-clause-told g c = (refl, inl (c.look_at-found.ensures.told.0 c.if-found-ne0.false))

pub show_under-requires-clause-may : goal.show_under-requires-clause-may
show_under-requires-clause-may g c = may_on g.F.Follows.begins g.F.Follows.follows c.args.seen.now.log c.look_at-found.new.seen.log c.args.slot c.args.next c.look_at-found.ensures.longer c.requires.fits

pub returns-clause-told : goal.returns-clause-told
returns-clause-told g c = shows_after g.F.Follows.begins g.F.Follows.follows c.args.slot c.args.next c.args.seen.now.log c.look_at-found.new.seen.log c.show_under.new.seen.log c.show_under.result
    c.look_at-found.ensures.longer c.show_under.ensures.told
