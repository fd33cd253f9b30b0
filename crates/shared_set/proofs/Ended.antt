-- What a set that has ended knows of its chain and of its newest generation.
use Rattle.std.proofs.Common.{◌≡◌, ℕ, suc, ◌<◌, ◌≤◌, Bool, List, refl, ap, sym, subst, ◌∙◌, arith}
use mathlib.Core.List.{IsPrefix}
use Rattle.logbook.specs.Pages.{Book}
use Rattle.table_slab.specs.Slabs.{SlabView}
use Rattle.table_chain.specs.History as chain
use Rattle.table_chain.specs.Chains.{ChainView, IsFinal, IsWhole}
use Rattle.table_chain.specs.Chains as chains
use Rattle.table_chain.proofs.Chained as chained
use Rattle.table_numbered.specs.Ending.{LeftView}
use Rattle.table_numbered.specs.Generations.{SetView, GenerationView}
use Rattle.table_numbered.specs.History.{History}
use Rattle.table_numbered.specs.declared.event.Numbered.{Numbered}
use Rattle.shared_set.specs.Stages.{stages, StageView, Course, Begins, GrowsInto, IsRun}
use Rattle.shared_set.specs.Known.{SharedView, shared_view, IsSeen, IsAt, IsChainOver}
use Rattle.shared_set.specs.Ending.{IsEnded}
use Rattle.shared_set.proofs.Courses.{one_slab, one_stage, below}
use Rattle.shared_set.proofs.Keeping.{seen_of_set, seen_of_chain}

module _ {V : Type 0} (same : V → V → Bool) (hash : V → ℕ) where
  module _ (c : ChainView (StageView V)) (s : SlabView) (shared : IsChainOver c s) (start new : Course V) (is : start ≡ c.start) (on : IsPrefix start new) where
    -- the first stage stands in each later course
    pub first_shown : chain.Stands new 0 shared.first
    first_shown = chained.stands_on (Begins same hash) (GrowsInto same hash) start new 0 shared.first on (subst (λ (l : Course V). chain.Stands l 0 shared.first) (sym is) shared.begins)

    -- each stage is over the slab of the set
    pub over_slab : IsRun same hash new → (slot : ℕ) (t : StageView V) → chain.Stands new slot t → t.of.of.slab ≡ s
    over_slab run slot t there = one_slab same hash slot t shared.first new run first_shown there ∙ shared.over

  -- the set ends with the stage in the last slot
  pub ends_with : (c : ChainView (StageView V)) (book : Book) (names : List ℕ) (course : Course V) (count slot : ℕ) (t : StageView V) (g : GenerationView V) (values : LeftView V) → c.slots ≡ stages → chains.IsOf (Begins same hash) (GrowsInto same hash) c book names course
      → IsFinal (Begins same hash) (GrowsInto same hash) course → ((p : ℕ) (u : StageView V) → chain.Stands course p u → p < count) → count ≡ suc slot → chain.Stands course slot t → g ≡ t.of → values.of ≡ g.of → IsEnded same hash c book names course slot values
  ends_with c book names course count slot t g values slots of final counted is there it ends = record {
    slots = slots;
    seen = seen_of_set same hash (shared_view c values.of.slab) c values.of.slab refl slots book names course of;
    final = final;
    last = λ p u at. omega (arith, counted p u at, is);
    stage = t;
    shown = there;
    of = ends ∙ ap (λ (x : GenerationView V). x.of) it;
  }

  -- a value that was taken out leaves the end as it is
  pub ended_on : (c : ChainView (StageView V)) (book : Book) (names : List ℕ) (course : Course V) (slot : ℕ) (values next : LeftView V) → next.of ≡ values.of → IsEnded same hash c book names course slot values → IsEnded same hash c book names course slot next
  ended_on c book names course slot values next is e = record {
    slots = e.slots;
    seen = subst (λ (t : SetView). IsSeen same hash (shared_view c t.slab) book names course) (sym is) e.seen;
    final = e.final;
    last = e.last;
    stage = e.stage;
    shown = e.shown;
    of = is ∙ e.of;
  }

  module _ (c : ChainView (StageView V)) (book : Book) (names : List ℕ) (course : Course V) (slot : ℕ) (values : LeftView V) (e : IsEnded same hash c book names course slot values) where
    pub ended_seen : chains.IsOf (Begins same hash) (GrowsInto same hash) c book names course
    ended_seen = seen_of_chain same hash (shared_view c values.of.slab) c values.of.slab refl e.slots book names course e.seen

    -- the generation of the stage in its slot is the one that has ended
    pub ended_of : (t : StageView V) (g : GenerationView V) → chain.Stands course slot t → g ≡ t.of → g.of ≡ values.of
    ended_of t g there it = ap (λ (x : GenerationView V). x.of) it ∙ (ap (λ (u : StageView V). u.of.of) (one_stage same hash slot t e.stage course e.seen.reached there e.shown) ∙ sym e.of)

    -- a stage that any thread knows is not beyond the last one
    pub not_beyond : (known both : Course V) (p : ℕ) (t : StageView V) → IsPrefix known both → IsPrefix course both → IsRun same hash both → chain.Stands known p t → p ≤ slot
    not_beyond known both p t mine on run there = e.last p t (e.final both on run p t (chained.stands_on (Begins same hash) (GrowsInto same hash) known both p t mine there))

    -- each stage up to the last one is known in a longer course
    pub stage_at : (both : Course V) (q : ℕ) → IsPrefix course both → IsRun same hash both → q ≤ slot → (t : StageView V) × chain.Stands both q t
    stage_at both q on run le = below same hash slot q e.stage both run le (chained.stands_on (Begins same hash) (GrowsInto same hash) course both slot e.stage on e.shown)

    -- a cursor at the last slot is of the generation that has ended
    pub ended_book : (g : SharedView) (p : ℕ) (cb : Book) (cn : List ℕ) (both : Course V) (eb : Book) (en : List ℕ) (log : History (Numbered V)) → IsPrefix course both → p ≡ slot → IsAt same hash g p cb cn both eb en log → eb ≡ values.of.book
    ended_book g p cb cn both eb en log on is at =
        let one : at.stage ≡ e.stage = one_stage same hash slot at.stage e.stage both at.seen.reached (subst (λ (n : ℕ). chain.Stands both n at.stage) is at.shown) (chained.stands_on (Begins same hash) (GrowsInto same hash) course both slot e.stage on e.shown) in
        at.of.0 ∙ (ap (λ (u : StageView V). u.of.of.book) one ∙ sym (ap (λ (t : SetView). t.book) e.of))
