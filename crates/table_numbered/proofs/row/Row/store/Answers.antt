use Rattle.std.proofs.Common.{ℕ, sym, ◌∙◌, ap, subst, inl}
use Rattle.table_numbered.specs.declared.event.Stored.TheVariants.{Entry}
use Rattle.table_numbered.specs.Words.{numbered, alike, marked, word_of}
use Rattle.table_numbered.specs.History.{Fits}
use Rattle.table_numbered.proofs.Histories.{size_is}
use Rattle.table_numbered.proofs.Copies.{standing_stays}
use Rattle.table_numbered.proofs.Known.{word_of_book, known_on}
use Rattle.table_numbered.proofs.row.Row.store.Goals as goal

pub carry-requires-clause-word : goal.carry-requires-clause-word
carry-requires-clause-word g c = word_of_book c.args.self.now.of c.args.seen.now.book c.word.result.now c.requires.known.0 c.word.ensures.word

pub carry-requires-clause-of : goal.carry-requires-clause-of
carry-requires-clause-of g c = let e = c.again-standing.ensures in standing_stays c.args.entry.now.number c.args.entry.now.standing c.again-standing.result (sym c.requires.known.1) e.site.0 e.site.1 e.of c.requires.entry.standing

pub carry-requires-clause-bits : goal.carry-requires-clause-bits
carry-requires-clause-bits g c = c.requires.entry.word ∙ ap (λ (v : g.row.V.Denot). word_of (marked g.L.Law.hash_of) (Entry (numbered c.args.entry.now.number v))) (sym c.again-standing.ensures.value)

pub carry-requires-clause-fits : goal.carry-requires-clause-fits
carry-requires-clause-fits g c = let l = c.args.entry.now in
    subst (λ (z : g.row.V.Denot × ℕ). Fits (alike g.L.Law.same) (marked g.L.Law.hash_of) z.1 c.args.seen.now.log (Entry (numbered l.number z.0)) c.args.index)
    (λ i. (sym c.again-standing.ensures.value i, sym (size_is c.args.self.now.of.size c.args.seen.now.log c.requires.known.2) i))
    (c.requires.entry.number, c.requires.reached, inl c.requires.owed.among)

pub returns-clause-known : goal.returns-clause-known
returns-clause-known g c = let e = c.carry.ensures in known_on g.L.Law.same g.L.Law.hash_of c.args.self.now.of c.args.seen.now.book c.carry.new.seen.book c.args.seen.now.names c.carry.new.seen.names c.args.seen.now.log c.carry.new.seen.log e.same e.longer e.reached c.requires.known
