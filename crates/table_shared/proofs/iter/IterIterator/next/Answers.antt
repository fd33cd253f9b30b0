use Rattle.std.proofs.Common.{◌≡◌, ◌∙◌, Some, arith, inl, inr, sym}
use Rattle.table_shared.proofs.Walked.{showed_entry}
use Rattle.table_shared.proofs.iter.IterIterator.next.Goals as goal

pub returns-in-Some-clause-steps : goal.returns-in-Some-clause-steps
returns-in-Some-clause-steps g c =
    let walks : c.loop-self.self-inside.generation ≡ Some c.in_ok-generation.generation = c.loop-self.invariant.1 ∙ c.in_ok-generation.was in
    let saw = rw (c.capacity.ensures, c.in-Some.is) at c.entry_at.ensures.seen in
    let next = showed_entry c.in_ok-generation.generation.now.contents c.loop-self.self-inside.left c.loop-self-test.true c.loop-self.invariant.2 _ _ c.in-Some.entry.now saw in (
      omega arith,
      rw walks (elim next [
        | inl same ↦ inl (same ∙ c.loop-self.invariant.4)
        | inr shows ↦ inr (c.in-Some.entry.now.value, sym c.loop-self.invariant.4 ∙ shows, c.deref.ensures)
      ]),
    )
