-- What a step does at a bucket that was set alone.
use Rattle.std.proofs.Common.{◌≡◌, ◌∙◌, ℕ, Bool, ap, subst, sym, true, false, Bor}
use Rattle.std.specs.Prelude.{Option, Some, None, IfSome}
use Rattle.std.specs.Fn.{FnReturnsAtPair, Shared as SharedFn}
use Rattle.std.specs.Option.{IsSomeAnd}
use Rattle.table_cell.specs.declared.bucket.Entry.{Entry}
use Rattle.table_generations.specs.Buckets.{Content, vacant, own, named, shown, content_at}
use Rattle.table_generations.specs.Generations.{GenerationView}
use Rattle.table_generations.specs.Looks.{IsSeen}
use Rattle.table_core.specs.declared.call.Answer.TheVariants.{Holds}
use Rattle.table_core.specs.RunningSteps.{passed}
use Rattle.table_shared.specs.Reads.{Accepts, AtAlone, IsTrueOf, StepTells}
use Rattle.table_shared.proofs.Looked.{some_same}

module _ {T : Type 0} where
  -- what is told of a bucket holds of the entry that it was set to alone
  alone_so : (c : Content T) (old new : Option (Entry T)) (P : Option (Entry T) → Type 0) (Q : Entry T → Type 0) → ((e : Entry T) → P (Some e) → Q e) → IsSeen c old new P → IfSome (shown c) Q
  alone_so vacant old new P Q so saw = tt
  alone_so (own e) old new P Q so saw = so e saw.alone.0
  alone_so (named e) old new P Q so saw = so e saw.alone.0

module _ {A T : Type 0} (generation : Option (Bor (GenerationView A T))) (b : Bor (GenerationView A T)) (i : ℕ) (is : generation ≡ Some b) where
  -- the bucket is one of the generation that is walked
  there : (P : Entry T → Type 0) → IfSome (shown (content_at b.now.contents i)) P → AtAlone generation i P
  there P holds x at = subst (λ (y : Bor (GenerationView A T)). IfSome (shown (content_at y.now.contents i)) P) (some_same b x (sym is ∙ at)) holds

  -- a vacant bucket was set to nothing alone
  pub at_vacant : (P : Entry T → Type 0) → content_at b.now.contents i ≡ vacant → AtAlone generation i P
  at_vacant P empty = there P (subst (λ (c : Content T). IfSome (shown c) P) (sym empty) tt)

  -- a bucket that was found empty was set to nothing alone
  pub at_empty : (old new : Option (Entry T)) (P : Entry T → Type 0) → IsSeen (content_at b.now.contents i) old new (λ o. o ≡ None) → AtAlone generation i P
  at_empty old new P saw = there P (alone_so (content_at b.now.contents i) old new (λ o. o ≡ None) P (λ e none. absurd (cc)) saw)

  module _ {X : Type 0} (target : T → X) (says : X → Bool → Type 0) (bits : ℕ) (old new : Option (Entry T)) where
    -- an answer by which an entry is passed says nothing of what was met
    passed_at : (asked : Bool) (met : Option (Bor X)) (e : Entry T) → IsTrueOf target says bits e (passed asked) → StepTells target says bits (passed asked) met e
    passed_at true met e so = (so, λ no. absurd (cc))
    passed_at false met e so = (so, λ no. absurd (cc))

    -- the answer by which an entry was passed is true of the one that it was set to alone
    pub at_passed : (asked : Bool) (met : Option (Bor X)) → IsSeen (content_at b.now.contents i) old new (λ o. IsSomeAnd o (λ e. IsTrueOf target says bits e (passed asked))) → AtAlone generation i (StepTells target says bits (passed asked) met)
    at_passed asked met saw =
        there (StepTells target says bits (passed asked) met)
        (alone_so (content_at b.now.contents i) old new (λ o. IsSomeAnd o (λ e. IsTrueOf target says bits e (passed asked))) (StepTells target says bits (passed asked) met) (passed_at asked met) saw)

    -- an entry that was accepted is the one that it was set to alone
    pub at_accepted : (r : Bor X) → IsSeen (content_at b.now.contents i) old new (λ o. IsSomeAnd o (Accepts target says bits r)) → AtAlone generation i (StepTells target says bits (Holds true) (Some r))
    at_accepted r saw =
        there (StepTells target says bits (Holds true) (Some r))
        (alone_so (content_at b.now.contents i) old new (λ o. IsSomeAnd o (Accepts target says bits r)) (StepTells target says bits (Holds true) (Some r)) (λ e so. (so.0, λ _. ap Some so.1)) saw)

  -- so it is where the closure was asked of a value that is the one given
  module _ {X E : Type 0} (target : T → X) (says : SharedFn E (Bor X × (Bor X × Unit {0})) Bool) (eq : E) (value given : T) (same : value ≡ given) (bits : ℕ) (old new : Option (Entry T)) where
    pub passed_given : (asked : Bool) (met : Option (Bor X)) → IsSeen (content_at b.now.contents i) old new (λ o. IsSomeAnd o (λ e. IsTrueOf target (FnReturnsAtPair says eq (target value)) bits e (passed asked)))
        → AtAlone generation i (StepTells target (FnReturnsAtPair says eq (target given)) bits (passed asked) met)
    passed_given asked met saw = subst (λ v. AtAlone generation i (StepTells target (FnReturnsAtPair says eq (target v)) bits (passed asked) met)) same (at_passed target (FnReturnsAtPair says eq (target value)) bits old new asked met saw)

    pub accepted_given : (r : Bor X) → IsSeen (content_at b.now.contents i) old new (λ o. IsSomeAnd o (Accepts target (FnReturnsAtPair says eq (target value)) bits r))
        → AtAlone generation i (StepTells target (FnReturnsAtPair says eq (target given)) bits (Holds true) (Some r))
    accepted_given r saw = subst (λ v. AtAlone generation i (StepTells target (FnReturnsAtPair says eq (target v)) bits (Holds true) (Some r))) same (at_accepted target (FnReturnsAtPair says eq (target value)) bits old new r saw)
