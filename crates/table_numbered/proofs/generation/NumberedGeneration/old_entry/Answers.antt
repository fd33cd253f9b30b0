use Rattle.std.proofs.Common.{subst}
use Rattle.table_slab.specs.Held.{StandsAt}
use Rattle.table_slab.specs.Slabs.{SlabView}
use Rattle.table_numbered.specs.Words.{numbered}
use Rattle.table_numbered.proofs.Meetings.{low, named, word_is}
use Rattle.table_numbered.proofs.generation.NumberedGeneration.old_entry.Goals as goal

pub number_of_word-number-requires : goal.number_of_word-number-requires
number_of_word-number-requires g c = low g.L.Law.same g.L.Law.hash_of c.args.index c.args.word c.args.seen.now.log c.requires.of.3 c.requires.says c.requires.set

pub known-standing-requires : goal.known-standing-requires
known-standing-requires g c = record { there = named g.L.Law.same g.L.Law.hash_of c.args.index c.args.word c.args.seen.now.log c.requires.of.3 c.requires.says c.requires.set c.number_of_word-number.result c.number_of_word-number.ensures }

pub returns-clause-entry : goal.returns-clause-entry
returns-clause-entry g c = let k = c.number_of_word-number.result in let there = c.known-standing.ensures.value in let x = c.known-standing.result.written.value in record {
  number = c.requires.of.3.1.number c.args.index (numbered k x) there;
  standing = subst (λ (s : SlabView). StandsAt s k c.known-standing.result) c.requires.of.1 c.known-standing.ensures.of;
  word = word_is g.L.Law.same g.L.Law.hash_of c.args.index c.args.word c.args.seen.now.log c.requires.of.3 c.requires.says c.requires.set k x there;
}
