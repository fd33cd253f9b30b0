use Rattle.std.proofs.Common.{◌≡◌, ◌∙◌, ap, arith, inl, refl, rules, subst, sym, true, Bor}
use Rattle.std.specs.Prelude.{Bool, Option}
use Rattle.std.specs.declared.result.Result.{Result}
use Rattle.std.specs.Fn.{FnReturnsAtPair, Shared as SharedFn}
use Rattle.table_core.specs.declared.call.Answer.TheVariants.{Empty, NoGeneration}
use Rattle.table_core.specs.declared.call.CallState.{CallState}
use Rattle.table_core.specs.declared.call.Phase.TheVariants.{Probe, Shared}
use Rattle.table_shared.specs.Inserts.{Answers}
use Rattle.table_shared.proofs.Between.{accepts, begins_shared, begun_outcome, begun_phase, finds_empty, finds_none, passes, passes_probed, seen_within, shares_on, starts, taken, within}
use Rattle.table_shared.proofs.Looked.{some_same}
use Rattle.table_shared.proofs.Takes.{accepts_entry, passes_seen}
use Rattle.table_shared.proofs.table.LockFreeRawTable.insert.Goals as goal

-- a right answer for the value that the call asks of is one for the value given
said : {V X E : Type 0} (target : V → X) (says : SharedFn E (Bor X × (Bor X × Unit {0})) Bool) (eq : E) (value given : V) (r : Result (Bor X × Option V) V) → given ≡ value
    → Answers target (FnReturnsAtPair says eq (target given)) given r → Answers target (FnReturnsAtPair says eq (target value)) value r
said target says eq value given r is answers = subst (λ v. Answers target (FnReturnsAtPair says eq (target v)) v r) is answers

pub step-state-requires : goal.step-state-requires
step-state-requires g c = record { fits = rw c.insert.ensures refl }

pub step-state-requires-in_default : goal.step-state-requires-in_default
step-state-requires-in_default g c = record { fits = rw (begun_phase _ c.insert.result c.step-state.result c.insert.ensures c.step-state.ensures.decided) refl }

pub go_on-requires : goal.go_on-requires
go_on-requires g c =
    let on : c.step-state.result.phase ≡ Shared = begun_phase _ c.insert.result c.step-state.result c.insert.ensures c.step-state.ensures.decided in
    let b = finds_none {A = g.row.A.Denot} (begins_shared c.args.self.now.home g.T.AtomicValue.target c.of-given.result.value c.args.value _ c.insert.result c.step-state.result _ c.insert.ensures (sym c.of-given.ensures) refl (λ h e. sym (some_same c.lock_shared-guard.result.home h e) ∙ c.lock_shared-guard.ensures) c.step-state.ensures.decided)
    c.step-state-in_default.result on (taken Shared NoGeneration c.step-state.result c.step-state-in_default.result on c.step-state-in_default.ensures.decided) in
    record { unfinished = shares_on b refl; between = b; asks = record { calls_eq = c.requires.eq_callable; calls_hash = c.requires.hash_callable; heard = tt } }

pub step_loaded-started-requires : goal.step_loaded-started-requires
step_loaded-started-requires g c = record {
  phase = inl (begun_phase _ c.insert.result c.step-state.result c.insert.ensures c.step-state.ensures.decided);
  power = rw c.capacity-capacity.ensures c.in-Some.ensures.power;
}

pub spelt-state-requires : goal.spelt-state-requires
spelt-state-requires g c =
    let on : c.step-state.result.phase ≡ Shared = begun_phase _ c.insert.result c.step-state.result c.insert.ensures c.step-state.ensures.decided in
    record {
      phase = c.step_loaded-started.ensures.insert on;
      walked = c.step_loaded-started.ensures.starting.walked.0;
      outcome = c.step_loaded-started.ensures.starting.walked.2 ∙ begun_outcome _ c.insert.result c.step-state.result c.insert.ensures c.step-state.ensures.decided;
    }

pub loop-guard-init : goal.loop-guard-init
loop-guard-init g c =
    let on : c.step-state.result.phase ≡ Shared = begun_phase _ c.insert.result c.step-state.result c.insert.ensures c.step-state.ensures.decided in
    let same = c.spelt-state.ensures.same in
    let probes : c.spelt-state.result.phase ≡ Probe = ap (λ (t : CallState). t.phase) same ∙ c.step_loaded-started.ensures.insert on in
    record {
      phase = probes;
      walked = ap (λ (t : CallState). t.walked) same ∙ c.step_loaded-started.ensures.starting.walked.0;
      between =
          starts (begins_shared {A = g.row.A.Denot} c.args.self.now.home g.T.AtomicValue.target c.of-given.result.value c.args.value _ c.insert.result c.step-state.result _ c.insert.ensures (sym c.of-given.ensures) refl (λ h e. sym (some_same c.lock_shared-guard.result.home h e) ∙ c.lock_shared-guard.ensures) c.step-state.ensures.decided)
          c.spelt-state.result c.in-Some.current.number c.in-Some.current.generation on probes (rw (← same) at (rw c.capacity-capacity.ensures at c.step_loaded-started.ensures.starting)) c.in-Some.ensures.home;
      same = refl;
    }

pub spelt-on-requires : goal.spelt-on-requires
spelt-on-requires g c =
    let passing = passes_probed c.loop-guard.invariant.between c.in-Passed.next c.in-Passed.field-1 c.loop-guard.invariant.phase c.in-Passed.ensures.reads in
    record {
      phase = search rules;
      walked = passing.same.0 ∙ c.loop-guard.invariant.walked;
      outcome = passing.pending;
    }

pub loop-guard-preserved : goal.loop-guard-preserved
loop-guard-preserved g c =
    let b = c.loop-guard.invariant.between in
    let passing = passes_probed b c.in-Passed.next c.in-Passed.field-1 c.loop-guard.invariant.phase c.in-Passed.ensures.reads in
    let same = c.spelt-on.ensures.same in
    record {
      phase = search rules;
      walked = ap (λ (t : CallState). t.walked) same ∙ (passing.same.0 ∙ c.loop-guard.invariant.walked);
      between = passes b c.spelt-on.result (rw c.loop-guard.invariant.phase tt) (rw same passing);
      same = refl;
    }

pub loop-guard-smaller : goal.loop-guard-smaller
loop-guard-smaller g c =
    let b = c.loop-guard.invariant.between in
    let probes = c.loop-guard.invariant.phase in
    let same = c.spelt-on.ensures.same in
    let passing = passes_probed b c.in-Passed.next c.in-Passed.field-1 probes c.in-Passed.ensures.reads in
    let seen = ap (λ (t : CallState). t.seen) same ∙ passes_seen c.loop-guard.state c.in-Passed.next c.in-Passed.field-1 probes c.in-Passed.ensures.reads in
    let wide = ap (λ (t : CallState). t.capacity) same ∙ passing.same.1 in
    let few = seen_within c.loop-guard.state (b.stands (rw probes tt)) in
    omega arith

pub note_at-note-requires : goal.note_at-note-requires
note_at-note-requires g c = within c.loop-guard.invariant.between c.in-Some.current.generation refl (rw c.loop-guard.invariant.phase tt)

pub read_bucket-requires : goal.read_bucket-requires
read_bucket-requires g c =
    let b = c.loop-guard.invariant.between in
    record {
      phase = rw c.loop-guard.invariant.phase tt;
      stands = b.stands (rw c.loop-guard.invariant.phase tt);
      home = c.in-Some.ensures.home;
      walked = b.counts c.in-Some.current.generation refl;
      callable = c.requires.eq_callable;
      of = c.note_at-note.ensures.0;
    }

pub place-requires : goal.place-requires
place-requires g c =
    let is = taken Probe Empty c.loop-guard.state c.in-Empty.next c.loop-guard.invariant.phase c.in-Empty.ensures.reads.is in
    record {
      phase = ap (λ (t : CallState). t.phase) is;
      number = ap (λ (t : CallState). t.walked) is ∙ c.loop-guard.invariant.walked;
      outcome = ap (λ (t : CallState). t.outcome) is ∙ c.loop-guard.invariant.between.hopes (rw c.loop-guard.invariant.phase tt);
      between = finds_empty c.loop-guard.invariant.between c.in-Empty.next c.loop-guard.invariant.phase is;
      asks = record { calls_eq = c.requires.eq_callable; calls_hash = c.requires.hash_callable; heard = tt };
    }

pub settle-requires : goal.settle-requires
settle-requires g c =
    let is = accepts_entry c.loop-guard.state c.in-Met.next (rw c.loop-guard.invariant.phase tt) c.in-Met.ensures.reads.0 in
    record {
      phase = ap (λ (t : CallState). t.phase) is;
      number = ap (λ (t : CallState). t.walked) is ∙ c.loop-guard.invariant.walked;
      outcome = ap (λ (t : CallState). t.outcome) is;
      between = accepts c.loop-guard.invariant.between c.in-Met.next c.in-Met.target c.args.value (rw c.loop-guard.invariant.phase tt) is (sym c.of-given.ensures);
      asks = record {
        calls_eq = c.requires.eq_callable;
        calls_hash = c.requires.hash_callable;
        heard = subst (λ v. FnReturnsAtPair g.E.Fn c.args.eq (g.T.AtomicValue.target v) c.in-Met.target.now true) (sym c.of-given.ensures) c.in-Met.ensures.reads.1;
      };
    }

pub go_on-requires-then-ne : goal.go_on-requires-then-ne
go_on-requires-then-ne g c =
    let b = passes c.loop-guard.invariant.between c.in-Passed.next (rw c.loop-guard.invariant.phase tt) (passes_probed c.loop-guard.invariant.between c.in-Passed.next c.in-Passed.field-1 c.loop-guard.invariant.phase c.in-Passed.ensures.reads) in
    record { unfinished = shares_on b refl; between = b; asks = record { calls_eq = c.requires.eq_callable; calls_hash = c.requires.hash_callable; heard = tt } }

pub returns-in-Empty : goal.returns-in-Empty
returns-in-Empty g c =
    let right = said g.T.AtomicValue.target g.E.Fn c.args.eq c.args.value c.of-given.result.value c.place.result c.of-given.ensures c.place.ensures in
    record { placed = right.0; found = right.1; back = right.2 }

pub returns-in-Met : goal.returns-in-Met
returns-in-Met g c =
    let right = said g.T.AtomicValue.target g.E.Fn c.args.eq c.args.value c.of-given.result.value c.settle.result c.of-given.ensures c.settle.ensures in
    record { placed = right.0; found = right.1; back = right.2 }

pub returns-then-ne : goal.returns-then-ne
returns-then-ne g c =
    let right = said g.T.AtomicValue.target g.E.Fn c.args.eq c.args.value c.of-given.result.value c.go_on-then-ne.result c.of-given.ensures c.go_on-then-ne.ensures in
    record { placed = right.0; found = right.1; back = right.2 }

pub returns-in_default : goal.returns-in_default
returns-in_default g c =
    let right = said g.T.AtomicValue.target g.E.Fn c.args.eq c.args.value c.of-given.result.value c.go_on.result c.of-given.ensures c.go_on.ensures in
    record { placed = right.0; found = right.1; back = right.2 }
