-- What holds of a look-up between two steps, after each kind of step.
use Rattle.std.proofs.Common.{◌≡◌, ◌∙◌, ℕ, Bool, ap, length, refl, subst, sym, Bor}
use Rattle.std.specs.Prelude.{Option, Some}
use Rattle.table_generations.specs.Generations.{GenerationView}
use Rattle.table_core.specs.declared.call.CallState.{CallState}
use Rattle.table_core.specs.declared.call.Outcome.TheVariants.{Pending}
use Rattle.table_core.specs.declared.call.Phase.TheVariants.{Done, LookProbe}
use Rattle.table_core.specs.RunningPhases.{Looks}
use Rattle.table_core.specs.RunningSteps.{Starting, passed}
use Rattle.table_shared.specs.Between.{IsLooking}
use Rattle.table_shared.specs.Reads.{Takes}
use Rattle.table_shared.proofs.Looked.{some_same}
use Rattle.table_shared.proofs.Takes.{looks_past_entry}

module _ {A V : Type 0} {home : ℕ} {s : CallState} {generation : Option (Bor (GenerationView A V))} (b : IsLooking home s generation) where
  -- a look-up that passes an entry
  pub look_passes : (t : CallState) (asked : Bool) → s.phase ≡ LookProbe → Takes s t (passed asked) → IsLooking home t generation
  look_passes t asked at takes =
      let past = looks_past_entry s t asked at (b.stands at) takes in
      record {
        looks = past.looks;
        pending = λ _. past.same.2 ∙ b.pending (λ e. absurd (let no : LookProbe ≡ Done = sym at ∙ e in cc));
        stands = past.stands;
        walks = λ _. b.walks at;
        counts = λ x is. b.counts x is ∙ sym past.same.1;
        homes = b.homes;
      }

  -- a look-up that ends
  pub look_ends : (t : CallState) → t.phase ≡ Done → t.capacity ≡ s.capacity → IsLooking home t generation
  look_ends t over same = record {
    looks = subst Looks (sym over) refl;
    pending = λ begun. absurd (begun over);
    stands = λ e. absurd (let no : Done ≡ LookProbe = sym over ∙ e in cc);
    walks = λ e. absurd (let no : Done ≡ LookProbe = sym over ∙ e in cc);
    counts = λ x is. b.counts x is ∙ sym same;
    homes = b.homes;
  }

-- a look-up that starts its probe in this generation
pub look_starts : {A V : Type 0} (home : ℕ) (s t : CallState) (number : ℕ) (x : Bor (GenerationView A V)) → s.outcome ≡ Pending → t.phase ≡ LookProbe → Starting s t number (length x.now.contents) → x.now.home ≡ home → IsLooking home t (Some x)
look_starts {A} {V} home s t number x pending on starting home_is = record {
  looks = subst Looks (sym on) refl;
  pending = λ _. starting.walked.2 ∙ pending;
  stands = λ _. starting.stands;
  walks = λ _ e. absurd (cc);
  counts = λ y e. ap (λ (z : Bor (GenerationView A V)). length z.now.contents) (sym (some_same x y e)) ∙ sym starting.walked.1;
  homes = λ y e. ap (λ (z : Bor (GenerationView A V)). z.now.home) (sym (some_same x y e)) ∙ home_is;
}
