-- What follows of the steps of an insert, and of its answer.
use Rattle.std.proofs.Common.{◌≡◌, ◌≢◌, ◌∙◌, Bool, refl, sym, subst, ap, Bor}
use Rattle.std.specs.Prelude.{Option, Some, None}
use Rattle.std.specs.declared.result.Result.{Result}
use Rattle.std.specs.Fn.{Shared as SharedFn, FnReturnsAtPair}
use Rattle.std.specs.Option.{ForSome}
use Rattle.table_generations.specs.declared.atomic_value.AtomicValue.{Ghosts}
use Rattle.table_core.specs.declared.call.Answer.{Answer}
use Rattle.table_core.specs.declared.call.Phase.TheVariants.{Done}
use Rattle.table_core.specs.RunningPhases.{Reached, reached}
use Rattle.table_core.specs.RunningSteps.{Went}
use Rattle.table_shared.specs.declared.insert.between.Carried.{Carried}
use Rattle.table_shared.specs.declared.insert.between.Carried.TheVariants.{Gone, Value, Own, Met}
use Rattle.table_shared.specs.declared.insert.between.Inserting.{Inserting}
use Rattle.table_shared.specs.Carried.{Heard, IsAnswer, met_in, own_in, reach_of, value_in}
use Rattle.table_shared.specs.Inserts.{Answers, told_by}
use Rattle.table_shared.specs.Stepped.{accepted_in}
use Rattle.table_shared.specs.Steps.{Ends, Steps}

module _ {V X E : Type 0} (target : V → X) (says : SharedFn E (Bor X × (Bor X × Unit {0})) Bool) (eq : E) (given : V) where
  -- what is carried to the end is a right answer
  pub answers : (c : Carried V (Bor X)) (r : Result (Bor X × Option V) V) → ForSome (value_in c) (λ v. v ≡ given) → ForSome (own_in c) (λ t. t.now ≡ target given)
      → Heard target says eq given c → IsAnswer c r → Answers target (FnReturnsAtPair says eq (target given)) given r
  answers Gone r stems owns heard is = absurd is
  answers (Value v) r stems owns heard is = subst (Answers target (FnReturnsAtPair says eq (target given)) given) (sym is) (tt, tt, stems v refl)
  answers (Own t) r stems owns heard is = subst (Answers target (FnReturnsAtPair says eq (target given)) given) (sym is) (owns t refl, tt, tt)
  answers (Met t v) r stems owns heard is = subst (Answers target (FnReturnsAtPair says eq (target given)) given) (sym is) (tt, heard, stems v refl)

module _ {V R : Type 0} where
  -- it tells what was reached
  answer_tells : (c : Carried V R) (r : Result (R × Option V) V) (n : Reached) → reach_of c ≡ Some n → IsAnswer c r → told_by r ≡ n
  answer_tells Gone r n tells is = absurd is
  answer_tells (Value v) r n tells is = rw is (cc)
  answer_tells (Own t) r n tells is = rw is (cc)
  answer_tells (Met t v) r n tells is = rw is (cc)

  -- and names what was accepted
  answer_names : (c : Carried V R) (r : Result (R × Option V) V) → IsAnswer c r → accepted_in r ≡ met_in c
  answer_names Gone r is = absurd is
  answer_names (Value v) r is = ap accepted_in is
  answer_names (Own t) r is = ap accepted_in is
  answer_names (Met t v) r is = ap accepted_in is

module _ {T A E H X : Type 0} {g : Ghosts T X} (says : SharedFn E (Bor X × (Bor X × Unit {0})) Bool) where
  -- a step that leaves what the call carries, and whom it asks
  pub carries_on : (old new : Inserting T A E H X g) (a : Answer) → Went old.state new.state a → old.carried ≢ Gone → new.carried ≡ old.carried → new.asking ≡ old.asking → Steps says old a new
  carries_on old new a went there carries same = record {
    went = went;
    there = λ e. there (sym carries ∙ e);
    same = same;
    met = λ _. ap met_in carries;
    heard = λ h. subst (λ (c : Carried T (Bor X)). Heard g.target says old.asking.eq old.asking.given.value c) (sym carries) h;
  }

  -- a step of a call that had met nothing
  pub steps_unmet : (old new : Inserting T A E H X g) (a : Answer) → Went old.state new.state a → new.carried ≢ Gone → new.asking ≡ old.asking → met_in old.carried ≡ None
      → Heard g.target says old.asking.eq old.asking.given.value new.carried → Steps says old a new
  steps_unmet old new a went there same unmet heard = record {
    went = went;
    there = there;
    same = same;
    met = λ some. absurd (some unmet);
    heard = λ _. heard;
  }

  -- a step of a call that has again what it carried
  pub steps_again : (old mid new : Inserting T A E H X g) (a : Answer) → mid.state ≡ old.state → mid.asking ≡ old.asking → mid.carried ≡ old.carried → Steps says mid a new → Steps says old a new
  steps_again old mid new a state asking carried steps = record {
    went = rw (← state) steps.went;
    there = steps.there;
    same = steps.same ∙ asking;
    met = rw (← carried) steps.met;
    heard = rw (← carried, ← asking) steps.heard;
  }

  -- a call that is over gives what it carries
  pub ends : (old new : Inserting T A E H X g) (r : Result (Bor X × Option T) T) → old.state.phase ≡ Done → old.carried ≢ Gone → Heard g.target says old.asking.eq old.asking.given.value old.carried
      → IsAnswer old.carried r → new.state ≡ old.state → new.asking ≡ old.asking → met_in new.carried ≡ None → Ends says old r new
  ends old new r over there heard is state same empty = record {
    answers = answers g.target says old.asking.eq old.asking.given.value old.carried r old.between.stems old.between.owns heard is;
    tells = answer_tells old.carried r _ (old.between.tells there ∙ ap (λ p. Some (reached p old.state.outcome)) over) is;
    names = answer_names old.carried r is;
    state = state;
    same = same;
    empty = empty;
  }
