use Rattle.std.proofs.Common.{sym, subst}
use Rattle.table_slab.specs.Slabs.{SlabView}
use Rattle.table_numbered.specs.declared.event.Stored.TheVariants.{Entry}
use Rattle.table_numbered.specs.Words.{alike, marked}
use Rattle.table_numbered.specs.Carrying.{IsOldEntry, entry_of}
use Rattle.table_numbered.proofs.Histories.{full_on, full_says}
use Rattle.table_numbered.proofs.Carried.{carries_closed, carries_one, is_closed}
use Rattle.table_numbered.proofs.generation.NumberedGeneration.carry_bucket.Goals as goal

pub returns-then-word-lt2-clause-carried : goal.returns-then-word-lt2-clause-carried
returns-then-word-lt2-clause-carried g c = let old = c.args.seen.now.log in let log = c.look_at-word.new.seen.log in let e = c.look_at-word.ensures in
    let set = full_on c.args.self.now.of.size old log c.requires.full e.longer c.args.index c.requires.inside in
    carries_closed (alike g.L.Law.same) (marked g.L.Law.hash_of) log c.args.fresh.now.log c.args.index e.of.3
    (is_closed (alike g.L.Law.same) (marked g.L.Law.hash_of) log c.args.index c.look_at-word.result (λ zero. absurd (e.says.0 zero set.0 set.1)) (λ ne. e.says) c.if-word-lt2.true)

pub carry-requires-clause-entry : goal.carry-requires-clause-entry
carry-requires-clause-entry g c = subst (λ (s : SlabView). IsOldEntry g.L.Law.hash_of s c.old_entry-entry.result) (sym c.requires.same) c.old_entry-entry.ensures.entry

pub carry-requires-clause-owed : goal.carry-requires-clause-owed
carry-requires-clause-owed g c = let old = c.args.seen.now.log in let log = c.look_at-word.new.seen.log in let e = c.look_at-word.ensures in let it = entry_of c.old_entry-entry.result in
    c.requires.owed c.args.index it
    (full_says (alike g.L.Law.same) (marked g.L.Law.hash_of) c.args.self.now.of.size c.args.index (Entry it) old log c.requires.full c.requires.of.2 e.longer e.of.3 c.old_entry-entry.ensures.stands)

pub returns-clause-carried : goal.returns-clause-carried
returns-clause-carried g c = let p = c.carry.ensures.carried in
    carries_one (alike g.L.Law.same) (marked g.L.Law.hash_of) c.look_at-word.new.seen.log c.carry.new.seen.log c.args.index p.0 (entry_of c.old_entry-entry.result) c.look_at-word.ensures.of.3 c.old_entry-entry.ensures.stands p.1
