use Rattle.std.proofs.Common.{sym, ◌∙◌, subst}
use Rattle.table_slab.specs.Held.{StandsAt}
use Rattle.table_slab.specs.Slabs.{SlabView}
use Rattle.table_numbered.specs.Words.{numbered, alike, marked}
use Rattle.table_numbered.specs.History.{Stands}
use Rattle.table_numbered.specs.Carrying.{IsOwed, entry_of}
use Rattle.table_numbered.proofs.Histories.{due_on, reaches_on}
use Rattle.table_numbered.proofs.Marks.{word_parts}
use Rattle.table_numbered.proofs.Meetings.{named}
use Rattle.table_numbered.proofs.Owed.{another}
use Rattle.table_numbered.proofs.row.Row.take_bucket.Goals as goal

pub returns-then-found-entry-clause-takes : goal.returns-then-found-entry-clause-takes
returns-then-found-entry-clause-takes g c = let n = c.args.self.now.of.size in let old = c.args.seen.now.log in let new = c.store-found.new.seen.log in let e = c.store-found.ensures in let l = c.args.entry.now in
    another g.L.Law.same g.L.Law.hash_of g.L.Law.lawful n (entry_of l) new e.known.2 e.known.3
    (subst (λ due. IsOwed g.L.Law.same n due (entry_of l)) (sym (due_on n old new c.requires.known.2 e.longer)) c.requires.owed) c.args.index c.store-found.result
    (reaches_on (alike g.L.Law.same) (marked g.L.Law.hash_of) n c.args.index old new (entry_of l) e.longer c.requires.reached) (e.says c.if-found-eq0.false) c.if-found-eq0.false
    (λ is. c.if-found-entry.true (is ∙ sym c.requires.entry.word))

pub known-theirs-requires : goal.known-theirs-requires
known-theirs-requires g c = let e = c.store-found.ensures in let l = c.args.entry.now in let w = c.store-found.result in
    let parts = word_parts (marked g.L.Law.hash_of (entry_of l)) l.number w c.requires.entry.number (c.if-found-entry.false ∙ c.requires.entry.word) in
    record { there = named g.L.Law.same g.L.Law.hash_of c.args.index w c.store-found.new.seen.log e.known.3 (e.says c.if-found-eq0.false) parts.0 l.number parts.1 }

pub agree-requires : goal.agree-requires
agree-requires g c = let t = c.args.self.now.of in (t.slab, c.args.entry.now.number, c.requires.entry.standing, subst (λ (s : SlabView). StandsAt s c.args.entry.now.number c.known-theirs.result) c.store-found.ensures.known.1 c.known-theirs.ensures.of)

pub returns-clause-takes : goal.returns-clause-takes
returns-clause-takes g c = subst (λ (v : g.row.V.Denot). Stands c.store-found.new.seen.log c.args.index (numbered c.args.entry.now.number v)) (sym c.agree.ensures) c.known-theirs.ensures.value
