use Rattle.table_numbered.specs.Words.{numbered, alike, marked}
use Rattle.table_numbered.proofs.Histories.{reaches_on}
use Rattle.table_numbered.proofs.Meetings.{claims_after}
use Rattle.table_numbered.proofs.generation.NumberedGeneration.claim.Goals as goal

pub returns-then-found-ne0-clause-told : goal.returns-then-found-ne0-clause-told
returns-then-found-ne0-clause-told g c = c.compare.ensures.told c.args.seen.now.log

pub offer-requires-clause-reached : goal.offer-requires-clause-reached
offer-requires-clause-reached g c = reaches_on (alike g.L.Law.same) (marked g.L.Law.hash_of) c.args.self.now.of.size c.args.index c.args.seen.now.log c.look_at-found.new.seen.log (numbered c.args.coming.number c.args.coming.value) c.look_at-found.ensures.longer c.requires.reached

pub returns-clause-told : goal.returns-clause-told
returns-clause-told g c = claims_after g.L.Law.same g.L.Law.hash_of c.args.self.now.of.slab c.args.coming.value c.args.coming.number c.args.index c.args.seen.now.log c.look_at-found.new.seen.log c.offer.new.seen.log c.offer.result c.look_at-found.ensures.longer c.offer.ensures.told
