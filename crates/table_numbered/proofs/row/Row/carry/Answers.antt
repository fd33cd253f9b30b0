use Rattle.std.proofs.Common.{◌≡◌, ◌<◌, ℕ, sym, subst, ◌∙◌, arith}
use base.Growing.{prefix_refl, prefix_trans}
use Rattle.table_numbered.specs.Words.{mark_of, marked, of_value}
use Rattle.table_numbered.specs.History.{HasPassed}
use Rattle.table_numbered.specs.Carrying.{IsOwed, entry_of}
use Rattle.table_numbered.proofs.Histories.{due_on}
use Rattle.table_numbered.proofs.Marks.{mark_small, word_parts}
use Rattle.table_numbered.proofs.Probes.{goes_first, goes_on, goes_reaches}
use Rattle.table_numbered.proofs.Owed.{no_turn}
use Rattle.table_numbered.proofs.row.Row.carry.Goals as goal

pub first_bucket-index-requires-clause-mark : goal.first_bucket-index-requires-clause-mark
first_bucket-index-requires-clause-mark g c = let l = c.args.entry.now in
    omega (arith, c.mark_of_word.ensures, (word_parts (marked g.L.Law.hash_of (entry_of l)) l.number l.word c.requires.entry.number c.requires.entry.word).2, mark_small (g.L.Law.hash_of l.standing.written.value))

pub loop-tried-init : goal.loop-tried-init
loop-tried-init g c = let l = c.args.entry.now in record {
  known = c.requires.known;
  longer = prefix_refl c.args.seen.now.log;
  owed = c.requires.owed;
  goes = goes_first c.buckets-count.ensures.size (c.mark_of_word.ensures ∙ (word_parts (marked g.L.Law.hash_of (entry_of l)) l.number l.word c.requires.entry.number c.requires.entry.word).2) c.first_bucket-index.ensures.within c.first_bucket-index.ensures.first;
}

pub take_bucket-requires-clause-inside : goal.take_bucket-requires-clause-inside
take_bucket-requires-clause-inside g c = c.loop-tried.invariant.goes.inside

pub take_bucket-requires-clause-reached : goal.take_bucket-requires-clause-reached
take_bucket-requires-clause-reached g c = let l = c.args.entry.now in
    goes_reaches g.L.Law.same g.L.Law.hash_of l.number l.standing.written.value c.loop-tried.invariant.goes (subst (λ (m : ℕ). c.loop-tried._tried < m) c.buckets-count.ensures.size c.loop-tried-test.true)

pub returns-then-take_bucket-clause-carried : goal.returns-then-take_bucket-clause-carried
returns-then-take_bucket-clause-carried g c = (c.loop-tried.index, rw c.if-take_bucket.true at c.take_bucket.ensures.takes)

pub next_bucket-index-requires-clause-within : goal.next_bucket-index-requires-clause-within
next_bucket-index-requires-clause-within g c = subst (λ (m : ℕ). c.loop-tried.index < m) (sym c.buckets-count.ensures.size) c.loop-tried.invariant.goes.inside

pub loop-tried-preserved : goal.loop-tried-preserved
loop-tried-preserved g c = let inv = c.loop-tried.invariant in let e = c.take_bucket.ensures in let n = c.args.self.now.of.size in let new = c.take_bucket.new.seen.log in let met = rw c.if-take_bucket.false at e.takes in record {
  known = e.known;
  longer = prefix_trans c.args.seen.now.log c.loop-tried.seen.log new inv.longer e.longer;
  owed = subst (λ due. IsOwed g.L.Law.same n due (entry_of c.args.entry.now)) (sym (due_on n c.loop-tried.seen.log new inv.known.2 e.longer)) inv.owed;
  goes = goes_on new met.0 inv.goes e.longer met.1 met.2 c.buckets-count.ensures.size c.next_bucket-index.ensures.within c.next_bucket-index.ensures.next;
}

pub unreachable-requires : goal.unreachable-requires
unreachable-requires g c = let inv = c.loop-tried.invariant in let n = c.args.self.now.of.size in let e = entry_of c.args.entry.now in
    let all : c.loop-tried._tried ≡ n = omega (arith, c.loop-tried-test.false, c.loop-tried.auto._tried-end, c.buckets-count.ensures.size) in
    no_turn g.L.Law.same g.L.Law.hash_of g.L.Law.lawful n e c.loop-tried.seen.log inv.known.2 inv.known.3 inv.owed
    (subst (HasPassed n c.loop-tried.seen.log (of_value (g.L.Law.same e.value)) (mark_of (g.L.Law.hash_of e.value))) all inv.goes.passed)
