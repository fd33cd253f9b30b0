-- What a step at an entry leads to, by the kind of call.
use Rattle.std.proofs.Common.{◌≡◌, ◌∙◌, ◌+◌, Bool, false, nat_lt, refl, subst, sym, true}
use Rattle.std.specs.Prelude.{if◌then◌else◌, ◌%◌}
use Rattle.table_core.specs.Calls.{decided, finds_entry, stands_at_bucket}
use Rattle.table_core.specs.declared.call.Answer.TheVariants.{Holds}
use Rattle.table_core.specs.declared.call.CallState.{CallState}
use Rattle.table_core.specs.declared.call.Outcome.TheVariants.{Pending}
use Rattle.table_core.specs.declared.call.Phase.TheVariants.{LeaveGrow, LeaveOk, LookProbe, Probe}
use Rattle.table_core.specs.declared.call.Phase.{Phase}
use Rattle.table_core.specs.RunningPhases.{Meets}
use Rattle.table_core.specs.RunningSteps.{LookingPast, Passing, passed}
use Rattle.table_core.proofs.ByPhase.{accepted_by, looks_past, passes_by}
use Rattle.table_shared.specs.Reads.{Takes}

module _ (s t : CallState) where
  -- an insert that passes an entry
  pub passes_entry : (asked : Bool) → Meets s.phase → stands_at_bucket s ≡ true → s.outcome ≡ Pending → Takes s t (passed asked) → Passing s t
  passes_entry asked meets stands pending takes = subst (λ (u : CallState). Passing s u) (sym takes.is) (passes_by s asked meets stands pending)

  -- an insert that accepts one
  pub accepts_entry : Meets s.phase → Takes s t (Holds true) → t ≡ finds_entry LeaveOk s
  accepts_entry meets takes = takes.is ∙ accepted_by s meets

  -- a look-up that passes one
  pub looks_past_entry : (asked : Bool) → s.phase ≡ LookProbe → stands_at_bucket s ≡ true → Takes s t (passed asked) → LookingPast s t
  looks_past_entry asked phase stands takes = subst (λ (u : CallState). LookingPast s u) (sym takes.is) (looks_past s asked phase stands)

-- an insert that passes an entry of its probe has seen one bucket more
seen_on : (s : CallState) (b : Bool) → (if b then record s { phase = Probe; index = (s.index + 1) % s.capacity; seen = s.seen + 1 } else record s { phase = LeaveGrow; seen = s.seen + 1 }).seen ≡ s.seen + 1
seen_on s true = refl
seen_on s false = refl

seen_in : (p : Phase) (s : CallState) (asked : Bool) → p ≡ Probe → (decided p s (passed asked)).seen ≡ s.seen + 1
seen_in Probe s true e = seen_on s (nat_lt (s.seen + 1) s.capacity)
seen_in Probe s false e = seen_on s (nat_lt (s.seen + 1) s.capacity)
seen_in _ s asked e = absurd (cc)

pub passes_seen : (s t : CallState) (asked : Bool) → s.phase ≡ Probe → Takes s t (passed asked) → t.seen ≡ s.seen + 1
passes_seen s t asked probes takes = subst (λ (u : CallState). u.seen ≡ s.seen + 1) (sym takes.is) (seen_in s.phase s asked probes)
