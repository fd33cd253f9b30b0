-- What the course of a set's chain says of its stages.
--     one_stage      a slot has one stage
--     grows_at       a stage is followed by one that has each of its entries
--     one_slab       all stages are over one slab
--     inside         a slot with a stage is one of the chain's
--     shown_stands   a stage that was shown stands in its slot
use Rattle.std.proofs.Common.{◌≡◌, ℕ, zero, suc, ◌<◌, ◌≤◌, Bool, Some, refl, ap, sym, subst, ◌∙◌, arith, inl, inr}
use Rattle.std.proofs.lemmas.List.Elements.{Contains-push}
use Rattle.table_chain.specs.History as chain
use Rattle.table_chain.specs.Chains.{IsOpen, IsShown}
use Rattle.table_chain.specs.declared.event.Stored.TheVariants.{Shown, End}
use Rattle.table_chain.proofs.Chained as chained
use Rattle.shared_set.specs.Stages.{StageView, Course, Begins, GrowsInto, IsRun}

module _ {V : Type 0} (same : V → V → Bool) (hash : V → ℕ) where
  pub one_stage : (slot : ℕ) (s t : StageView V) (course : Course V) → IsRun same hash course → chain.Stands course slot s → chain.Stands course slot t → s ≡ t
  one_stage slot s t course run one other = chained.one_value (Begins same hash) (GrowsInto same hash) course slot one.0 other.0 s t run one.1 other.1

  pub grows_at : (slot : ℕ) (s t : StageView V) (course : Course V) → IsRun same hash course → chain.Stands course slot s → chain.Stands course (suc slot) t → GrowsInto same hash s t
  grows_at slot s t course run one next = let b = (run.1.joined (suc slot) t next).behind slot refl in
      subst (λ (x : StageView V). GrowsInto same hash x t) (one_stage slot b.0 s course run b.1 one) b.2

  pub one_slab : (slot : ℕ) (s first : StageView V) (course : Course V) → IsRun same hash course → chain.Stands course 0 first → chain.Stands course slot s → s.of.of.slab ≡ first.of.of.slab
  one_slab zero s first course run begins there = ap (λ (x : StageView V). x.of.of.slab) (one_stage 0 s first course run there begins)
  one_slab (suc n) s first course run begins there = let b = (run.1.joined (suc n) s there).behind n refl in b.2.slab ∙ one_slab n b.0 first course run begins b.1

  pub inside : (slots slot : ℕ) (s : StageView V) (course : Course V) → chain.HasSize slots course → IsRun same hash course → chain.Stands course slot s → slot < slots
  inside slots slot s course size run there = chained.slot_within (Begins same hash) (GrowsInto same hash) slots course size run slot there.0 (Shown s) there.1

  -- a slot behind the last one is open
  pub outside : (slots slot : ℕ) (course : Course V) → chain.HasSize slots course → IsRun same hash course → slots ≤ slot → IsOpen course slot
  outside slots slot course size run beyond = inl (λ k x there.
      let lt : slot < slots = chained.slot_within (Begins same hash) (GrowsInto same hash) slots course size run slot k x there in omega (arith, lt, beyond))

  -- an open slot has no stage
  pub open_none : (slot : ℕ) (s : StageView V) (course : Course V) → IsRun same hash course → IsOpen course slot → chain.Stands course slot s → ⊥
  open_none slot s course run open_ there = elim open_ [
    | inl none ↦ none there.0 (Shown s) there.1
    | inr ended ↦ (let no : Shown s ≡ End = (run.1.once slot there.0 ended.0 (Shown s) End there.1 ended.1).1 in absurd (cc))
  ]

  -- each slot before one that has a stage has a stage
  pub below : (p q : ℕ) (s : StageView V) (course : Course V) → IsRun same hash course → q ≤ p → chain.Stands course p s → (t : StageView V) × chain.Stands course q t
  below p q s course run le there = let b = chained.below (Begins same hash) (GrowsInto same hash) course run p q there.0 s le there.1 in (b.1, (b.0, b.2))

  pub shown_stands : (slot : ℕ) (s : StageView V) (old new : Course V) → IsShown (Begins same hash) (GrowsInto same hash) slot s old new → chain.Stands new slot s
  shown_stands slot s old new shown = let e = chain.event slot shown.0 (Some (Shown s)) in
      (shown.0, subst (λ (l : Course V). chain.Has l slot shown.0 (Shown s)) (sym shown.1.2) (Contains-push shown.1.0 e))
