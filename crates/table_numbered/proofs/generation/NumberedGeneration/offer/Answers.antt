use Rattle.std.proofs.Common.{refl, ◌≡◌, ℕ, sym, ◌∙◌, ap, subst, arith, inr}
use Rattle.table_slab.specs.Held.{StandsAt}
use Rattle.table_slab.specs.Slabs.{SlabView}
use Rattle.table_numbered.specs.Words.{numbered, alike, marked}
use Rattle.table_numbered.specs.History.{Reaches}
use Rattle.table_numbered.proofs.Marks.{mark_small}
use Rattle.table_numbered.proofs.Histories.{size_is}
use Rattle.table_numbered.proofs.Meetings.{some_is, claims_of, placed}
use Rattle.table_numbered.proofs.Known.{word_of_book, of_on}
use Rattle.table_numbered.proofs.generation.NumberedGeneration.offer.Goals as goal

pub word_of_entry-bits-requires-clause-mark : goal.word_of_entry-bits-requires-clause-mark
word_of_entry-bits-requires-clause-mark g c = omega (arith, c.requires.coming.mark, mark_small (g.L.Law.hash_of c.args.coming.value))

pub publish-requires-clause-fits : goal.publish-requires-clause-fits
publish-requires-clause-fits g c = λ x is. let it : c.args.coming.value ≡ x = some_is c.args.coming.value x (sym c.put-right.ensures.value ∙ is) in (
  c.requires.coming.small,
  subst (λ (z : g.row.V.Denot × ℕ). Reaches (alike g.L.Law.same) (marked g.L.Law.hash_of) z.1 c.args.seen.now.log (numbered c.args.coming.number z.0) c.args.index)
      (λ i. (it i, sym (size_is c.args.self.now.of.size c.args.seen.now.log c.requires.of.2) i)) c.requires.reached,
  inr c.requires.of.4,
)

pub publish-requires-clause-word : goal.publish-requires-clause-word
publish-requires-clause-word g c = word_of_book c.self.inside.row.of c.args.seen.now.book c.word.result.now (c.requires.of.0 ∙ sym (ap (λ x. x.of.book) c.self.view_is)) c.word.ensures.word

pub get-requires : goal.get-requires
get-requires g c = let ok = c.in-Ok.ensures.ok in let here : c.in-Ok.receipt.slab ≡ c.args.slab.now = ok.3.0 ∙ (c.requires.of.1 ∙ sym c.requires.slab) in
    subst (λ (z : SlabView × ℕ). StandsAt z.0 z.1 c.shows.result) (λ i. (here i, ok.3.1 i)) c.shows.ensures.of

pub returns-in-Ok-clause-told : goal.returns-in-Ok-clause-told
returns-in-Ok-clause-told g c = let ok = c.in-Ok.ensures.ok in let it : ok.0 ≡ c.args.coming.value = some_is ok.0 c.args.coming.value (sym ok.1 ∙ c.put-right.ensures.value) in
    placed g.L.Law.same g.L.Law.hash_of g.row.A.Denot c.args.self.now.of.slab c.args.index c.args.coming.number c.get.result c.in-Ok.receipt ok.0 c.args.coming.value c.args.seen.now.log c.publish.new.seen.log (c.get.ensures ∙ c.shows.ensures.value) it ok.2
    (ok.3.0 ∙ c.requires.of.1, ok.3.1, ok.3.2)

pub returns-in-Err-clause-told : goal.returns-in-Err-clause-told
returns-in-Err-clause-told g c = let err = c.in-Err.ensures.err in
    let it : c.take-value.result.0 ≡ c.args.coming.value = some_is c.take-value.result.0 c.args.coming.value (sym c.take-value.ensures.value ∙ (err.1 ∙ c.put-right.ensures.value)) in
    claims_of g.L.Law.same g.L.Law.hash_of c.args.self.now.of.slab c.take-value.result.0 c.args.coming.value c.args.coming.number c.args.coming.number c.args.index c.args.seen.now.log c.publish.new.seen.log c.compare.result it refl
    (c.compare.ensures.told c.args.seen.now.log)

pub compare-requires-clause-of : goal.compare-requires-clause-of
compare-requires-clause-of g c = let e = c.publish.ensures in of_on g.L.Law.same g.L.Law.hash_of c.args.self.now.of c.args.seen.now.book c.publish.new.seen.book c.args.seen.now.names c.publish.new.seen.names c.args.seen.now.log c.publish.new.seen.log e.same e.longer e.reached c.requires.of

pub returns-in-Ok-clause-of : goal.returns-in-Ok-clause-of
returns-in-Ok-clause-of g c = let e = c.publish.ensures in of_on g.L.Law.same g.L.Law.hash_of c.args.self.now.of c.args.seen.now.book c.publish.new.seen.book c.args.seen.now.names c.publish.new.seen.names c.args.seen.now.log c.publish.new.seen.log e.same e.longer e.reached c.requires.of

pub returns-in-Err-clause-of : goal.returns-in-Err-clause-of
returns-in-Err-clause-of g c = let e = c.publish.ensures in of_on g.L.Law.same g.L.Law.hash_of c.args.self.now.of c.args.seen.now.book c.publish.new.seen.book c.args.seen.now.names c.publish.new.seen.names c.args.seen.now.log c.publish.new.seen.log e.same e.longer e.reached c.requires.of
