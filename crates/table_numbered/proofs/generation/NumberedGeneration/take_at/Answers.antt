use Rattle.std.proofs.Common.{◌∷◌, [], sym, ◌∙◌, ap, subst}
use Rattle.table_slab.specs.Held.{StandsAt}
use Rattle.table_slab.specs.Slabs.{SlabView}
use Rattle.table_numbered.specs.Words.{numbered, alike, marked}
use Rattle.table_numbered.specs.declared.event.Stored.TheVariants.{Entry}
use Rattle.table_numbered.proofs.Histories.{full_says, stands_on}
use Rattle.table_numbered.proofs.Endings.{left_more, left_next, left_here, free_value, stands_value, one_value_before}
use Rattle.table_numbered.proofs.generation.NumberedGeneration.take_at.Goals as goal

pub number_at-requires-clause-of : goal.number_at-requires-clause-of
number_at-requires-clause-of g c = rw c.again-later.ensures c.requires.of

pub returns-in_err-number-clause-left : goal.returns-in_err-number-clause-left
returns-in_err-number-clause-left g c = left_more c.args.index c.args.seen.now.log c.args.slab.now c.requires.left

pub returns-in_err-number-clause-taken : goal.returns-in_err-number-clause-taken
returns-in_err-number-clause-taken g c = rw c.from_residual.ensures (let log = c.args.seen.now.log in let later = c.number_at.new.seen.log in
    free_value log c.args.index (λ e there. c.in_err-number.ensures.number e (stands_on log later c.args.index e (rw c.again-later.ensures at c.number_at.ensures.longer) there)))

pub known-standing-requires : goal.known-standing-requires
known-standing-requires g c = record { there = c.in_ok-number.ensures.number }

pub take_out-requires-clause-number : goal.take_out-requires-clause-number
take_out-requires-clause-number g c = subst (λ (s : SlabView). StandsAt s c.in_ok-number.number c.known-standing.result) (c.number_at.ensures.of.1 ∙ sym c.requires.slab) c.known-standing.ensures.of

pub take_out-requires-clause-left : goal.take_out-requires-clause-left
take_out-requires-clause-left g c = let log = c.args.seen.now.log in let later = c.number_at.new.seen.log in let e = c.number_at.ensures in let k = c.in_ok-number.number in let x = c.known-standing.result.written.value in
    left_here g.L.Law.lawful c.args.index k x log c.args.slab.now c.requires.of.3 (one_value_before log later (rw c.again-later.ensures at e.longer) c.known-standing.ensures.one) c.requires.left
    (full_says (alike g.L.Law.same) (marked g.L.Law.hash_of) c.args.self.now.of.size c.args.index (Entry (numbered k x)) log later c.requires.full c.requires.of.2 (rw c.again-later.ensures at e.longer) e.of.3 c.known-standing.ensures.value)

pub returns-clause-left : goal.returns-clause-left
returns-clause-left g c = let log = c.args.seen.now.log in let later = c.number_at.new.seen.log in let e = c.number_at.ensures in let k = c.in_ok-number.number in let x = c.known-standing.result.written.value in
    left_next c.args.index k x log c.args.slab.now c.take_out.new.self c.requires.left
    (full_says (alike g.L.Law.same) (marked g.L.Law.hash_of) c.args.self.now.of.size c.args.index (Entry (numbered k x)) log later c.requires.full c.requires.of.2 (rw c.again-later.ensures at e.longer) e.of.3 c.known-standing.ensures.value)
    c.take_out.ensures.others

pub returns-clause-taken : goal.returns-clause-taken
returns-clause-taken g c = let log = c.args.seen.now.log in let later = c.number_at.new.seen.log in let e = c.number_at.ensures in let k = c.in_ok-number.number in let x = c.known-standing.result.written.value in
    stands_value g.L.Law.same g.L.Law.hash_of log c.args.index (numbered k x) c.requires.of.3
    (full_says (alike g.L.Law.same) (marked g.L.Law.hash_of) c.args.self.now.of.size c.args.index (Entry (numbered k x)) log later c.requires.full c.requires.of.2 (rw c.again-later.ensures at e.longer) e.of.3 c.known-standing.ensures.value)
    ∙ ap (λ (v : g.row.V.Denot). v ∷ []) (sym c.take_out.ensures.value)
