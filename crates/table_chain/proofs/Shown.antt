-- What became of a value that was to be shown, as other calls say it.
use Rattle.std.proofs.Common.{◌≡◌, ℕ, Some, ◌∙◌, subst}
use mathlib.Core.List.{IsPrefix}
use Rattle.table_chain.specs.declared.event.Stored.TheVariants.{Shown}
use Rattle.table_chain.specs.History.{History, event, Has, Adds}
use Rattle.table_chain.specs.Chains.{IsShown, Shows}
use Rattle.table_chain.specs.declared.show.Showing.{Showing}
use Rattle.table_chain.specs.declared.show.Showing.TheVariants as showing
use Rattle.table_chain.proofs.Steps.{added_one, adds_after, shown_is}

module _ {G : Type 0} (Begins : G → Type 0) (Follows : G → G → Type 0) where
  -- what the history says that was added is what was to be shown
  pub shown_so : (p k : ℕ) (e w x v : G) (old new : History G) → e ≡ w → Has new p k (Shown w) → x ≡ v → Adds Begins Follows (event p k (Some (Shown x))) p old new
      → (e ≡ v) × IsShown Begins Follows p v old new
  shown_so p k e w x v old new shown there is a = let same : w ≡ x = shown_is w x (added_one Begins Follows p k k (Shown x) (Shown w) old new a there) in
      (shown ∙ (same ∙ is), (k, subst (λ (u : G). Adds Begins Follows (event p k (Some (Shown u))) p old new) is a))

  -- the same of an equal value
  pub shows_at : (p : ℕ) (u v : G) (old new : History G) (r : Showing G) → u ≡ v → Shows Begins Follows p u old new r → Shows Begins Follows p v old new r
  shows_at p u v old new r is told = subst (λ (z : G). Shows Begins Follows p z old new r) is told

  -- what is told behind a later history is told behind an earlier one
  pub shows_after : (p : ℕ) (g : G) (old mid new : History G) (r : Showing G) → IsPrefix old mid → Shows Begins Follows p g mid new r → Shows Begins Follows p g old new r
  shows_after p g old mid new (showing.Shown e) on told = (told.0, (told.1.0, adds_after Begins Follows p (event p told.1.0 (Some (Shown g))) old mid new on told.1.1))
  shows_after p g old mid new (showing.Other e back) on told = told
  shows_after p g old mid new (showing.Refused back) on told = told

pub some_is : {X : Type 0} (v w : X) → Some v ≡ Some w → v ≡ w
some_is v w is = cc
