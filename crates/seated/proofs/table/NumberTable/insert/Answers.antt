use Rattle.std.proofs.Common.{rules, sym, ap, ◌∙◌, ◌≡◌, subst, ℕ, ◌+◌}
use Rattle.std.specs.NonZero.{non_zero_u64_get}
use Rattle.seated.specs.Numbers.{Inserts, Knows}
use Rattle.seated.specs.declared.seat.NumberAnswer.TheVariants.{Placed, Found, Full}
use Rattle.table_terms.specs.Probes.{bucket_at}
use Rattle.seated.proofs.Walks.{next, walks_on, finds, places, goes_round, inserted_known}
use Rattle.seated.proofs.table.NumberTable.insert.Goals as goal

pub claim-found-requires-clause-next : goal.claim-found-requires-clause-next
claim-found-requires-clause-next _ c = let walk = c.loop-tried.invariant in
    (c.get-x.ensures.nonzero, next _ _ _ _ _ walk.3 _ (search rules) (sym walk.2))

pub returns-then-found-eq0-clause-known : goal.returns-then-found-eq0-clause-known
returns-then-found-eq0-clause-known _ c = let walk = c.loop-tried.invariant in let told = c.claim-found.ensures.told in
    (places _ _ _ _ _ walk.3 _ _ _ told.0 c.if-found-eq0.true c.get-x.ensures.nonzero (sym walk.2) (ap (λ m. m.0) (told.1 c.if-found-eq0.true))).0

pub returns-then-found-eq0-clause-answer : goal.returns-then-found-eq0-clause-answer
returns-then-found-eq0-clause-answer _ c = let walk = c.loop-tried.invariant in let told = c.claim-found.ensures.told in
    subst (λ (z : ℕ). Inserts c.args.self.now.table.shared.table_id.words z c.args.seat.now.inner.me.0.known c.args.seat.now.inner.me.0.own Placed c.claim-found.new.seat.inner.me.0.known c.claim-found.new.seat.inner.me.0.own) c.get-x.ensures.value
    (places _ _ _ _ _ walk.3 _ _ _ told.0 c.if-found-eq0.true c.get-x.ensures.nonzero (sym walk.2) (ap (λ m. m.0) (told.1 c.if-found-eq0.true))).1

pub returns-then-found-x-clause-known : goal.returns-then-found-x-clause-known
returns-then-found-x-clause-known _ c = let walk = c.loop-tried.invariant in let told = c.claim-found.ensures.told in
    (finds _ _ _ _ _ walk.3 c.loop-tried.bucket _ _ c.if-found-x.true (ap (λ m. m.0) (told.2 c.if-found-eq0.false))).0

pub returns-then-found-x-clause-answer : goal.returns-then-found-x-clause-answer
returns-then-found-x-clause-answer _ c = let walk = c.loop-tried.invariant in let told = c.claim-found.ensures.told in
    subst (λ (z : ℕ). Inserts c.args.self.now.table.shared.table_id.words z c.args.seat.now.inner.me.0.known c.args.seat.now.inner.me.0.own Found c.claim-found.new.seat.inner.me.0.known c.claim-found.new.seat.inner.me.0.own) c.get-x.ensures.value
    (finds _ _ _ _ _ walk.3 c.loop-tried.bucket _ _ c.if-found-x.true (ap (λ m. m.0) (told.2 c.if-found-eq0.false))).1

pub loop-tried-preserved : goal.loop-tried-preserved
loop-tried-preserved _ c = let walk = c.loop-tried.invariant in let told = c.claim-found.ensures.told in let me = told.2 c.if-found-eq0.false in let count = c.word_count-count.ensures.count in (
  c.claim-found.ensures.table ∙ walk.0,
  ap (λ m. m.1) me ∙ walk.1,
  subst (λ (z : ℕ). c.next_bucket-bucket.result ≡ bucket_at z c.get-x.result (c.loop-tried._tried + 1)) count (c.next_bucket-bucket.ensures.next c.get-x.result c.loop-tried._tried (subst (λ (z : ℕ). c.loop-tried.bucket ≡ bucket_at z c.get-x.result c.loop-tried._tried) (sym count) walk.2)),
  walks_on _ _ _ _ _ walk.3 _ _ _ told.0 (search rules) (sym walk.2) c.if-found-eq0.false c.if-found-x.false (ap (λ m. m.0) me),
)

pub returns-clause-answer : goal.returns-clause-answer
returns-clause-answer _ c = let walk = c.loop-tried.invariant in let round = goes_round _ _ _ _ _ walk.3 (search rules) (search rules) in (
  walk.3.own,
  round.0,
  subst (λ (z : ℕ). ¬ Knows c.loop-tried.seat.inner.me.0.known z) c.get-x.ensures.value round.1,
)

pub returns-then-found-eq0-clause-again : goal.returns-then-found-eq0-clause-again
returns-then-found-eq0-clause-again g c = λ k. absurd ((returns-then-found-eq0-clause-answer g c).2 k)

pub returns-clause-again : goal.returns-clause-again
returns-clause-again g c = λ k. absurd ((returns-clause-answer g c).2 (k.0, c.loop-tried.invariant.3.within k.0 (non_zero_u64_get c.args.v) k.1))

pub returns-then-found-eq0-clause-seat : goal.returns-then-found-eq0-clause-seat
returns-then-found-eq0-clause-seat g c = (search rules, inserted_known 0 _ _ _ _ _ Placed c.requires.1 (returns-then-found-eq0-clause-known g c) (returns-then-found-eq0-clause-answer g c))

pub returns-then-found-x-clause-seat : goal.returns-then-found-x-clause-seat
returns-then-found-x-clause-seat g c = (search rules, inserted_known 0 _ _ _ _ _ Found c.requires.1 (returns-then-found-x-clause-known g c) (returns-then-found-x-clause-answer g c))

pub returns-clause-seat : goal.returns-clause-seat
returns-clause-seat g c = (search rules, inserted_known _ _ _ _ _ _ Full c.requires.1 c.loop-tried.invariant.3.within (returns-clause-answer g c))
