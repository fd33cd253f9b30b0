use Rattle.std.proofs.Common.{rules, sym, ap, ◌∙◌, ◌≡◌, subst, ℕ, ◌+◌}
use Rattle.std.specs.NonZero.{non_zero_u64_get}
use Rattle.seated.specs.Numbers.{Knows, Within}
use Rattle.seated.specs.Steps.{SeatState}
use Rattle.seated.specs.Views.{unchanged}
use Rattle.seated.proofs.Keeps.{reads, unchanged_mild}
use Rattle.table_terms.specs.Probes.{bucket_at}
use Rattle.seated.proofs.Walks.{walks_on, finds, misses, goes_round, affirmed, denied, still_known}
use Rattle.seated.proofs.table.NumberTable.contains.Goals as goal

pub load-found-requires : goal.load-found-requires
load-found-requires _ c = let walk = c.loop-tried.invariant in (
  search rules,
  search rules,
  reads _ _ _ _ _ unchanged (walk.3.size ∙ sym c.args.self.now.key) (search rules) unchanged_mild,
)

pub returns-then-found-eq0-clause-known : goal.returns-then-found-eq0-clause-known
returns-then-found-eq0-clause-known _ c = let walk = c.loop-tried.invariant in let told = c.load-found.ensures.2 in
    subst (λ (m : SeatState). Within c.args.seat.now.inner.me.0.known m.0.known) (sym (told.1 c.if-found-eq0.true)) walk.3.within

pub returns-then-found-eq0-clause-answer : goal.returns-then-found-eq0-clause-answer
returns-then-found-eq0-clause-answer _ c = let walk = c.loop-tried.invariant in let told = c.load-found.ensures.2 in
    denied _ (subst (λ (m : SeatState). ¬ Knows m.0.known (non_zero_u64_get c.args.v)) (sym (told.1 c.if-found-eq0.true))
    (subst (λ (z : ℕ). ¬ Knows c.loop-tried.seat.inner.me.0.known z) c.get-x.ensures.value (misses _ _ _ _ _ walk.3 _ _ told.0 c.if-found-eq0.true c.get-x.ensures.nonzero (sym walk.2))))

pub returns-then-found-x-clause-known : goal.returns-then-found-x-clause-known
returns-then-found-x-clause-known _ c = let walk = c.loop-tried.invariant in let told = c.load-found.ensures.2 in
    (finds _ _ _ _ _ walk.3 c.loop-tried.bucket _ _ c.if-found-x.true (ap (λ m. m.0) (told.2 c.if-found-eq0.false))).0

pub returns-then-found-x-clause-answer : goal.returns-then-found-x-clause-answer
returns-then-found-x-clause-answer _ c = let walk = c.loop-tried.invariant in let told = c.load-found.ensures.2 in
    affirmed _ (subst (λ (z : ℕ). Knows c.load-found.new.seat.me.0.known z) c.get-x.ensures.value
    ((finds _ _ _ _ _ walk.3 c.loop-tried.bucket _ _ c.if-found-x.true (ap (λ m. m.0) (told.2 c.if-found-eq0.false))).1.1))

pub loop-tried-preserved : goal.loop-tried-preserved
loop-tried-preserved _ c = let walk = c.loop-tried.invariant in let told = c.load-found.ensures.2 in let me = told.2 c.if-found-eq0.false in let count = c.word_count-count.ensures.count in (
  c.load-found.ensures.0 ∙ walk.0,
  ap (λ m. m.1) me ∙ walk.1,
  subst (λ (z : ℕ). c.next_bucket-bucket.result ≡ bucket_at z c.get-x.result (c.loop-tried._tried + 1)) count (c.next_bucket-bucket.ensures.next c.get-x.result c.loop-tried._tried (subst (λ (z : ℕ). c.loop-tried.bucket ≡ bucket_at z c.get-x.result c.loop-tried._tried) (sym count) walk.2)),
  walks_on _ _ _ _ _ walk.3 _ _ _ told.0 (search rules) (sym walk.2) c.if-found-eq0.false c.if-found-x.false (ap (λ m. m.0) me),
)

pub returns-clause-answer : goal.returns-clause-answer
returns-clause-answer _ c = let walk = c.loop-tried.invariant in let round = goes_round _ _ _ _ _ walk.3 (search rules) (search rules) in
    denied _ (subst (λ (z : ℕ). ¬ Knows c.loop-tried.seat.inner.me.0.known z) c.get-x.ensures.value round.1)

pub returns-then-found-eq0-clause-again : goal.returns-then-found-eq0-clause-again
returns-then-found-eq0-clause-again g c = λ k. (returns-then-found-eq0-clause-answer g c).1 (k.0, (returns-then-found-eq0-clause-known g c) k.0 (non_zero_u64_get c.args.v) k.1)

pub returns-clause-again : goal.returns-clause-again
returns-clause-again g c = λ k. (returns-clause-answer g c).1 (k.0, c.loop-tried.invariant.3.within k.0 (non_zero_u64_get c.args.v) k.1)

pub returns-then-found-eq0-clause-seat : goal.returns-then-found-eq0-clause-seat
returns-then-found-eq0-clause-seat g c = (search rules, still_known _ _ _ _ c.requires.1 (returns-then-found-eq0-clause-known g c) (search rules))

pub returns-then-found-x-clause-seat : goal.returns-then-found-x-clause-seat
returns-then-found-x-clause-seat g c = (search rules, still_known _ _ _ _ c.requires.1 (returns-then-found-x-clause-known g c) (search rules))

pub returns-clause-seat : goal.returns-clause-seat
returns-clause-seat g c = (search rules, still_known _ _ _ _ c.requires.1 c.loop-tried.invariant.3.within c.loop-tried.invariant.3.own)
