use Rattle.std.proofs.Common.{◌<◌, ℕ, refl, sym, ◌∙◌, ap, subst, arith, inl}
use base.Growing.{prefix_refl, prefix_trans}
use Rattle.table_numbered.specs.declared.place.Claim.TheVariants as claim
use Rattle.table_numbered.specs.Words.{mark_of, numbered, alike, marked}
use Rattle.table_numbered.specs.History.{Reaches}
use Rattle.table_numbered.specs.declared.event.Stored.TheVariants.{Entry}
use Rattle.table_numbered.proofs.Histories.{closed_free}
use Rattle.table_numbered.proofs.Steps.{added}
use Rattle.table_numbered.proofs.Meetings.{claims_of, coming_as}
use Rattle.table_numbered.proofs.Probes.{goes_first, goes_on, goes_closed, goes_none, goes_round, goes_reaches, goes_placed}
use Rattle.table_numbered.proofs.generation.NumberedGeneration.place.Goals as goal

pub loop-claimed-init : goal.loop-claimed-init
loop-claimed-init g c = record {
  coming = record {
    value = refl;
    mark = c.mark_of_hash-mark.ensures.mark ∙ ap mark_of c.hash.ensures;
    number = refl;
    right = c.requires.right;
    empty = c.requires.empty;
    small = c.requires.number;
  };
  of = c.requires.of;
  longer = prefix_refl c.args.seen.now.log;
  goes = goes_first c.buckets-count.ensures.size (c.mark_of_hash-mark.ensures.mark ∙ ap mark_of c.hash.ensures) c.first_bucket-index.ensures.within c.first_bucket-index.ensures.first;
}

pub claim-requires-clause-inside : goal.claim-requires-clause-inside
claim-requires-clause-inside g c = c.loop-claimed.invariant.goes.inside

pub claim-requires-clause-coming : goal.claim-requires-clause-coming
claim-requires-clause-coming g c = coming_as g.L.Law.same g.L.Law.hash_of c.args.self.now.of.slab c.args.value c.args.number c.loop-claimed.coming c.loop-claimed.invariant.coming

pub claim-requires-clause-reached : goal.claim-requires-clause-reached
claim-requires-clause-reached g c = let inv = c.loop-claimed.invariant in
    subst (λ (z : g.row.V.Denot × ℕ). Reaches (alike g.L.Law.same) (marked g.L.Law.hash_of) c.args.self.now.of.size c.loop-claimed.seen.log (numbered z.1 z.0) c.loop-claimed.index) (λ i. (sym inv.coming.value i, sym inv.coming.number i))
    (goes_reaches g.L.Law.same g.L.Law.hash_of c.args.number c.args.value inv.goes (subst (λ (m : ℕ). c.loop-claimed._claimed < m) c.buckets-count.ensures.size c.loop-claimed-test.true))

pub next_bucket-index-requires-clause-within : goal.next_bucket-index-requires-clause-within
next_bucket-index-requires-clause-within g c = subst (λ (m : ℕ). c.loop-claimed.index < m) (sym c.buckets-count.ensures.size) c.loop-claimed.invariant.goes.inside

pub returns-clause-told : goal.returns-clause-told
returns-clause-told g c = let inv = c.loop-claimed.invariant in
    goes_round g.L.Law.same g.L.Law.hash_of (λ v is. ap mark_of (sym (g.L.Law.lawful.agrees c.args.value v is))) inv.goes (omega (arith, c.loop-claimed-test.false, c.loop-claimed.auto._claimed-end, c.buckets-count.ensures.size)) inv.of.2 inv.of.3

pub returns-clause-back : goal.returns-clause-back
returns-clause-back g c = let coming = c.loop-claimed.invariant.coming in (coming.value, coming.right, coming.empty)

pub returns-clause-full : goal.returns-clause-full
returns-clause-full g c = (c.loop-claimed._claimed, c.loop-claimed.invariant.goes.passed, inl (omega (arith, c.loop-claimed-test.false, c.loop-claimed.auto._claimed-end, c.buckets-count.ensures.size)))

pub loop-claimed-preserved : goal.loop-claimed-preserved
loop-claimed-preserved g c = let inv = c.loop-claimed.invariant in let e = c.claim.ensures in
    let told = claims_of g.L.Law.same g.L.Law.hash_of c.args.self.now.of.slab c.loop-claimed.coming.value c.args.value c.loop-claimed.coming.number c.args.number c.loop-claimed.index c.loop-claimed.seen.log c.claim.new.seen.log c.claim.result inv.coming.value inv.coming.number e.told in
    let met = rw c.in-Differs.is at told in record {
      coming = met.0;
      of = e.of;
      longer = prefix_trans c.args.seen.now.log c.loop-claimed.seen.log c.claim.new.seen.log inv.longer e.longer;
      goes = goes_on c.claim.new.seen.log met.1.0 inv.goes e.longer met.1.1 met.1.2 c.buckets-count.ensures.size c.next_bucket-index.ensures.within c.next_bucket-index.ensures.next;
    }

pub returns-in-Placed-clause-told : goal.returns-in-Placed-clause-told
returns-in-Placed-clause-told g c = let inv = c.loop-claimed.invariant in
    let told = claims_of g.L.Law.same g.L.Law.hash_of {A = g.row.A.Denot} c.args.self.now.of.slab c.loop-claimed.coming.value c.args.value c.loop-claimed.coming.number c.args.number c.loop-claimed.index c.loop-claimed.seen.log c.claim.new.seen.log (claim.Placed c.in-Placed.entry c.in-Placed.receipt) inv.coming.value inv.coming.number c.in-Placed.ensures.told in
    (told.0, goes_placed g.L.Law.lawful inv.goes c.args.number c.args.seen.now.log c.claim.new.seen.log inv.longer inv.of.2 told.1)

pub returns-in-Placed-clause-back : goal.returns-in-Placed-clause-back
returns-in-Placed-clause-back g c = let inv = c.loop-claimed.invariant in
    (claims_of g.L.Law.same g.L.Law.hash_of {A = g.row.A.Denot} c.args.self.now.of.slab c.loop-claimed.coming.value c.args.value c.loop-claimed.coming.number c.args.number c.loop-claimed.index c.loop-claimed.seen.log c.claim.new.seen.log (claim.Placed c.in-Placed.entry c.in-Placed.receipt) inv.coming.value inv.coming.number c.in-Placed.ensures.told).2

pub returns-in-Closed-clause-told : goal.returns-in-Closed-clause-told
returns-in-Closed-clause-told g c = let of = c.claim.ensures.of in let new = c.claim.new.seen.log in
    goes_none g.L.Law.same g.L.Law.hash_of (λ v is. ap mark_of (sym (g.L.Law.lawful.agrees c.args.value v is))) new c.loop-claimed.invariant.goes c.claim.ensures.longer of.2 of.3
    (closed_free (alike g.L.Law.same) (marked g.L.Law.hash_of) new c.loop-claimed.index of.3 c.in-Closed.ensures.told.1)

pub returns-in-Closed-clause-full : goal.returns-in-Closed-clause-full
returns-in-Closed-clause-full g c = goes_closed c.loop-claimed.invariant.goes c.claim.new.seen.log c.claim.ensures.longer c.in-Closed.ensures.told.1

pub hint_placed-requires-clause-taken : goal.hint_placed-requires-clause-taken
hint_placed-requires-clause-taken g c = let inv = c.loop-claimed.invariant in
    let told = claims_of g.L.Law.same g.L.Law.hash_of {A = g.row.A.Denot} c.args.self.now.of.slab c.loop-claimed.coming.value c.args.value c.loop-claimed.coming.number c.args.number c.loop-claimed.index c.loop-claimed.seen.log c.claim.new.seen.log (claim.Placed c.in-Placed.entry c.in-Placed.receipt) inv.coming.value inv.coming.number c.in-Placed.ensures.told in
    (c.args.value, (c.loop-claimed.index, added (alike g.L.Law.same) (marked g.L.Law.hash_of) c.loop-claimed.index (Entry (numbered c.args.number c.args.value)) c.loop-claimed.seen.log c.claim.new.seen.log told.1))
