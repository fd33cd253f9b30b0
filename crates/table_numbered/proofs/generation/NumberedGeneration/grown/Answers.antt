use Rattle.std.proofs.Common.{◌≡◌, ◌<◌, ap, sym, ◌∙◌, subst, arith}
use Rattle.table_numbered.specs.declared.event.Stored.TheVariants.{Entry}
use Rattle.table_numbered.specs.Words.{alike, marked}
use Rattle.table_numbered.specs.History.{due_of}
use Rattle.table_numbered.specs.Carrying.{due_after, Carries, BeginsAs, AreOwed}
use Rattle.table_numbered.proofs.Histories.{due_on, full_on, full_says}
use Rattle.table_numbered.proofs.Carried.{doubled_power, power_some}
use Rattle.table_numbered.proofs.Owed.{are_owed, is_whole, begins_as}
use Rattle.table_numbered.proofs.generation.NumberedGeneration.grown.Goals as goal

pub after-next-requires-clause-power : goal.after-next-requires-clause-power
after-next-requires-clause-power g c = doubled_power c.buckets-count.result c.buckets-count.ensures.power

pub carry_all-requires-clause-same : goal.carry_all-requires-clause-same
carry_all-requires-clause-same g c = c.after-next.ensures.slab ∙ c.close_all-entries.ensures.of.1

pub carry_all-requires-clause-owed : goal.carry_all-requires-clause-owed
carry_all-requires-clause-owed g c = let log = c.close_all-entries.new.seen.log in let n = c.args.self.now.of.size in let m = c.after-next.result.of.size in
    let due : due_of c.begin-fresh.result.log ≡ due_after log = ap due_of (c.begin-fresh.ensures.log ∙ c.after-next.ensures.start) in
    let more : n < m = omega (arith, c.after-next.ensures.size, c.buckets-count.ensures.size, power_some c.buckets-count.result c.buckets-count.ensures.power) in
    subst (AreOwed g.L.Law.same m log) (sym due) (are_owed g.L.Law.same g.L.Law.hash_of g.L.Law.lawful n m log c.close_all-entries.ensures.of.2 c.close_all-entries.ensures.of.3 more)

pub begun-requires-clause-whole : goal.begun-requires-clause-whole
begun-requires-clause-whole g c = let log = c.close_all-entries.new.seen.log in let later = c.carry_all.new.seen.log in let new = c.carry_all.new.fresh.log in let m = c.after-next.result.of.size in
    is_whole g.L.Law.same g.L.Law.hash_of log later new (due_on m c.begin-fresh.result.log new c.begin-fresh.ensures.known.2 c.carry_all.ensures.fresh ∙ ap due_of (c.begin-fresh.ensures.log ∙ c.after-next.ensures.start))
    c.carry_all.ensures.longer c.carry_all.ensures.carried

pub returns-clause-full : goal.returns-clause-full
returns-clause-full g c = full_on c.args.self.now.of.size c.close_all-entries.new.seen.log c.carry_all.new.seen.log c.close_all-entries.ensures.full c.carry_all.ensures.longer

pub returns-clause-carried : goal.returns-clause-carried
returns-clause-carried g c = subst (Carries c.carry_all.new.seen.log) (sym c.begun.ensures.start) c.carry_all.ensures.carried

pub returns-clause-back : goal.returns-clause-back
returns-clause-back g c = let log = c.close_all-entries.new.seen.log in let later = c.carry_all.new.seen.log in let new = c.carry_all.new.fresh.log in let m = c.after-next.result.of.size in let n = c.args.self.now.of.size in
    let due : due_of new ≡ due_after log = due_on m c.begin-fresh.result.log new c.begin-fresh.ensures.known.2 c.carry_all.ensures.fresh ∙ ap due_of (c.begin-fresh.ensures.log ∙ c.after-next.ensures.start) in
    let next = c.carry_all.ensures.next in
    subst (BeginsAs later) (sym c.begun.ensures.start) (begins_as g.L.Law.same g.L.Law.hash_of m log later new next.2 next.3
    (is_whole g.L.Law.same g.L.Law.hash_of log later new due c.carry_all.ensures.longer c.carry_all.ensures.carried) due c.carry_all.ensures.longer
    (λ p e there. full_says (alike g.L.Law.same) (marked g.L.Law.hash_of) n p (Entry e) log later c.close_all-entries.ensures.full c.close_all-entries.ensures.of.2 c.carry_all.ensures.longer c.carry_all.ensures.of.3 there))
