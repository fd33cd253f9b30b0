-- What is known of a set stays known.
use Rattle.std.proofs.Common.{◌≡◌, ℕ, suc, ◌<◌, Bool, List, ap, sym, subst, ◌∙◌}
use mathlib.Core.List.{IsPrefix}
use Rattle.logbook.specs.Pages.{Book}
use Rattle.table_slab.specs.Shelved.{slab_of}
use Rattle.table_slab.specs.Slabs.{SlabView}
use Rattle.table_chain.specs.History as chain
use Rattle.table_chain.specs.Chains.{ChainView}
use Rattle.table_chain.specs.Chains as chains
use Rattle.table_chain.proofs.Chained as chained
use Rattle.table_chain.proofs.Steps as steps
use Rattle.table_numbered.specs.Words.{alike, marked, of_value}
use Rattle.table_numbered.specs.declared.event.Numbered.{Numbered}
use Rattle.table_numbered.specs.declared.event.Stored.TheVariants.{Entry}
use Rattle.table_numbered.specs.History.{History, IsEntry, NonePasses, IsReached, Stands}
use Rattle.table_numbered.specs.Generations.{SetView, IsOf}
use Rattle.table_numbered.proofs.Histories.{stands_on, size_on, whole_on, full_says}
use Rattle.shared_set.specs.Stages.{stages, StageView, Course, Begins, GrowsInto, IsRun}
use Rattle.shared_set.specs.Known.{SharedView, shared_view, SharedSetView, KnownView, Keeps, KnowsMore, IsSeen, IsAt}
use Rattle.shared_set.proofs.Courses.{one_stage, grows_at, inside}

module _ {V : Type 0} where
  -- sets that are seen alike are one set
  pub one_set : {a b : SharedSetView V} → a ≡ b → a.of ≡ b.of
  one_set is = ap (λ (x : SharedSetView V). x.of) is

  pub keeps_trans : (a b c : History (Numbered V)) → Keeps a b → Keeps b c → Keeps a c
  keeps_trans a b c one other e there = other e (one e there)

  pub keeps_longer : (a b : History (Numbered V)) → IsPrefix a b → Keeps a b
  keeps_longer a b on e there = (there.0, stands_on a b there.0 e on there.1)

  -- where nothing that is known passes a test, nothing that was known before does
  pub none_before : (test : Numbered V → Bool) (a b : History (Numbered V)) → Keeps a b → NonePasses test (IsEntry b) → NonePasses test (IsEntry a)
  none_before test a b kept none e there = none e (kept e there)

  pub knows_trans : (a b c : KnownView V) → KnowsMore a b → KnowsMore b c → KnowsMore a c
  knows_trans a b c one other = (other.0 ∙ one.0, keeps_trans a.history b.history c.history one.1 other.1)

module _ {V : Type 0} (same : V → V → Bool) (hash : V → ℕ) where
  -- what was known of a generation is known of a longer history
  pub of_more : (t : SetView) (b c : Book) (names others : List ℕ) (log new : History (Numbered V)) → c ≡ b → others ≡ names → IsPrefix log new → IsReached (alike same) (marked hash) new → IsOf same hash t b names log → IsOf same hash t c others new
  of_more t b c names others log new kept named on reached of = (kept ∙ of.0, ap slab_of named ∙ of.1, size_on t.size log new of.2 on, reached, whole_on t.size log new of.2 on of.4)

  -- each entry that was known of a stage is one that the next stage has from the first
  pub keeps_over : (s t : StageView V) (old new : History (Numbered V)) → GrowsInto same hash s t → IsPrefix old new → IsPrefix t.before new → IsReached (alike same) (marked hash) new → Keeps old t.of.start
  keeps_over s t old new grows on along reached e there =
      let was : Stands t.before there.0 e = full_says (alike same) (marked hash) s.of.of.size there.0 (Entry e) t.before new grows.full grows.begun along reached (stands_on old new there.0 e on there.1) in
      let here = grows.begins.carried there.0 e was in
      (here.0, stands_on grows.begins.born t.of.start here.0 e grows.begins.known here.1)

  module _ (g : SharedView) (c : ChainView (StageView V)) (s : SlabView) (view : shared_view c s ≡ g) (slots : c.slots ≡ stages) (book : Book) (names : List ℕ) (course : Course V) where
    -- what a token of the chain has seen is what one of the set has seen, and back
    pub seen_of_set : chains.IsOf (Begins same hash) (GrowsInto same hash) c book names course → IsSeen same hash g book names course
    seen_of_set is = record {
      of_chain = is.0 ∙ ap (λ (x : SharedView). x.book) view;
      of_slab = is.1 ∙ ap (λ (x : SharedView). x.names) view;
      size = subst (λ (n : ℕ). chain.HasSize n course) slots is.2;
      reached = is.3;
    }

    pub seen_of_chain : IsSeen same hash g book names course → chains.IsOf (Begins same hash) (GrowsInto same hash) c book names course
    seen_of_chain seen = (
      seen.of_chain ∙ sym (ap (λ (x : SharedView). x.book) view),
      seen.of_slab ∙ sym (ap (λ (x : SharedView). x.names) view),
      subst (λ (n : ℕ). chain.HasSize n course) (sym slots) seen.size,
      seen.reached,
    )

  -- what was seen goes on
  pub seen_on : (g : SharedView) (book new_book : Book) (names new_names : List ℕ) (course new : Course V) → new_book ≡ book → new_names ≡ names → IsPrefix course new → IsRun same hash new → IsSeen same hash g book names course
      → IsSeen same hash g new_book new_names new
  seen_on g book new_book names new_names course new kept named on run seen = record {
    of_chain = kept ∙ seen.of_chain;
    of_slab = named ∙ seen.of_slab;
    size = steps.size_on stages course new seen.size on;
    reached = run;
  }

  module _ (g : SharedView) (slot : ℕ) (book : Book) (names : List ℕ) (course : Course V) (eb : Book) (en : List ℕ) (log : History (Numbered V)) where
    abbrev At : Type 0
    At = IsAt same hash g slot book names course eb en log

    pub at_inside : At → slot < stages
    at_inside at = inside same hash stages slot at.stage course at.seen.size at.seen.reached at.shown

    -- a cursor stays where it is as more of the chain is seen
    pub at_longer : (new_book : Book) (new_names : List ℕ) (new : Course V) → IsSeen same hash g new_book new_names new → IsPrefix course new → At → IsAt same hash g slot new_book new_names new eb en log
    at_longer new_book new_names new seen on at = record {
      seen = seen;
      stage = at.stage;
      shown = chained.stands_on (Begins same hash) (GrowsInto same hash) course new slot at.stage on at.shown;
      slab = at.slab;
      of = at.of;
    }

    -- the stage that was shown where a cursor stands is that of the cursor
    pub at_shown : (s : StageView V) → chain.Stands course slot s → At → (s.of.of.slab ≡ g.slab) × IsOf same hash s.of.of eb en log
    at_shown s there at = let is : at.stage ≡ s = one_stage same hash slot at.stage s course at.seen.reached at.shown there in
        subst (λ (x : StageView V). (x.of.of.slab ≡ g.slab) × IsOf same hash x.of.of eb en log) is (at.slab, at.of)

    -- the next stage grew out of that of the cursor
    pub next_grows : (j : ℕ) (t : StageView V) (new : Course V) → IsRun same hash new → IsPrefix course new → j ≡ suc slot → chain.Stands new j t → (at : At) → GrowsInto same hash at.stage t
    next_grows j t new run on is there at = grows_at same hash slot at.stage t new run (chained.stands_on (Begins same hash) (GrowsInto same hash) course new slot at.stage on at.shown)
        (subst (λ (n : ℕ). chain.Stands new n t) is there)

    -- a cursor comes to the next stage
    pub at_next : (j : ℕ) (t : StageView V) (new_book : Book) (new_names : List ℕ) (new : Course V) (nb : Book) (nn : List ℕ) (next : History (Numbered V)) → IsSeen same hash g new_book new_names new → IsPrefix course new → j ≡ suc slot
        → chain.Stands new j t → IsOf same hash t.of.of nb nn next → At → IsAt same hash g j new_book new_names new nb nn next
    at_next j t new_book new_names new nb nn next seen on is there of at = record {
      seen = seen;
      stage = t;
      shown = there;
      slab = (next_grows j t new seen.reached on is there at).slab ∙ at.slab;
      of = of;
    }

    -- it knows more of its generation
    pub at_more : (nb : Book) (nn : List ℕ) (new : History (Numbered V)) (s : StageView V) → chain.Stands course slot s → IsOf same hash s.of.of nb nn new → At → IsAt same hash g slot book names course nb nn new
    at_more nb nn new s there of at = record {
      seen = at.seen;
      stage = s;
      shown = there;
      slab = (at_shown s there at).0;
      of = of;
    }

    -- two cursors at one slot are of one generation
    pub one_generation : (j : ℕ) (ob : Book) (on : List ℕ) (other : History (Numbered V)) → slot ≡ j → At → IsAt same hash g j book names course ob on other → eb ≡ ob
    one_generation j ob on other is at theirs = let one : at.stage ≡ theirs.stage = one_stage same hash j at.stage theirs.stage course at.seen.reached (subst (λ (n : ℕ). chain.Stands course n at.stage) is at.shown) theirs.shown in
        at.of.0 ∙ (ap (λ (s : StageView V). s.of.of.book) one ∙ sym theirs.of.0)

    -- the same, where it learns
    pub at_more_of : (nb : Book) (nn : List ℕ) (new : History (Numbered V)) → nb ≡ eb → nn ≡ en → IsPrefix log new → IsReached (alike same) (marked hash) new → At → IsAt same hash g slot book names course nb nn new
    at_more_of nb nn new kept named on reached at = record {
      seen = at.seen;
      stage = at.stage;
      shown = at.shown;
      slab = at.slab;
      of = of_more at.stage.of.of eb nb en nn log new kept named on reached at.of;
    }
