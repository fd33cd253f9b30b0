use Rattle.std.proofs.Common.{rules, ◌≡◌, ℕ, List, sym, ◌∙◌, subst, length, length-set}
use Rattle.std.specs.Mem.Slots.{slots_items, slots_counts}
use Rattle.seated.specs.Rule.{Fits}
use Rattle.seated.proofs.Closes.{copies_more, copied, known_stands, own_stands}
use Rattle.seated.proofs.table.NumberTable.close.Given as given
use Rattle.seated.proofs.table.NumberTable.close.Goals as goal

pub loop-bucket-preserved : goal.loop-bucket-preserved
loop-bucket-preserved _ c = (length-set _ _ _ ∙ c.loop-bucket.invariant.0, copies_more _ _ _ _ c.loop-bucket.invariant.1 (search rules) c.word.ensures)

count : (g : given.Over) (c : goal.After-free g) → length c.loop-bucket.room.items ≡ c.args.self.table.shared.table_id.words
count g c = c.loop-bucket.invariant.0 ∙ search rules

-- the room has the words of the last state, which the seat's view fits
fits : (g : given.Over) (c : goal.After-free g) → Fits c.args.self.table.shared.table_id.words c.loop-bucket.room.items c.args.seat.inner.me.0
fits g c = let n : ℕ = c.args.self.table.shared.table_id.words in let out : List ℕ = slots_items c.close_with-closed.result.words in let end = c.close_with-closed.ensures.values.2 in
    let same : c.loop-bucket.room.items ≡ out = copied _ out n c.loop-bucket.bucket (count g c) (sym (slots_counts c.close_with-closed.result.words).0 ∙ c.close_with-closed.ensures.counts.0) (search rules) c.loop-bucket.invariant.1 in
    subst (λ (z : ℕ). Fits z c.loop-bucket.room.items c.args.seat.inner.me.0) c.args.self.key (subst (λ (l : List ℕ). Fits c.args.self.table.shared.key l c.args.seat.inner.me.0) (end.2 ∙ sym same) (end.1.0.fits c.args.seat.inner.id c.args.seat.inner.me.0 end.1.1))

pub returns-clause-known : goal.returns-clause-known
returns-clause-known g c = known_stands _ _ _ (count g c) (fits g c)

pub returns-clause-own : goal.returns-clause-own
returns-clause-own g c = own_stands _ _ _ (count g c) (fits g c)
