use Rattle.std.proofs.Common.{◌∙◌, ap, subst, sym, true, Bor, Some, refl}
use Rattle.std.specs.Fn.{FnReturnsAtPair}
use Rattle.table_core.specs.Calls.{stands_at_bucket}
use Rattle.table_core.specs.declared.call.CallState.{CallState}
use Rattle.table_core.specs.declared.call.Outcome.TheVariants.{New}
use Rattle.table_shared.specs.declared.insert.between.Carried.{Carried}
use Rattle.table_shared.specs.declared.insert.between.HeldLock.TheVariants as held
use Rattle.table_shared.specs.Between.{Onward}
use Rattle.table_shared.proofs.Between.{accepts, counts_value, has_back, passes, shares_on, spelt_out, wins, within}
use Rattle.table_shared.proofs.table.LockFreeRawTable.place.Goals.{in-Refused, in-Passed, in-Met}
use Rattle.table_shared.proofs.table.LockFreeRawTable.place.Given as given
use Rattle.table_shared.proofs.table.LockFreeRawTable.place.Goals as goal

pub spelt-state-requires : goal.spelt-state-requires
spelt-state-requires g c = record { phase = c.requires.phase; walked = c.requires.number; outcome = c.requires.outcome }

pub note_at-note-requires : goal.note_at-note-requires
note_at-note-requires g c =
    let at = ap (λ (t : CallState). t.phase) c.spelt-state.ensures.same ∙ c.requires.phase in
    within (spelt_out c.requires.between c.spelt-state.result c.spelt-state.ensures.same) c.args.generation refl (rw at tt)

pub put_value-requires : goal.put_value-requires
put_value-requires g c =
    let b = spelt_out c.requires.between c.spelt-state.result c.spelt-state.ensures.same in
    let at = ap (λ (t : CallState). t.phase) c.spelt-state.ensures.same ∙ c.requires.phase in
    record {
      phase = at;
      stands = b.stands (rw at tt);
      pending = b.hopes (rw at tt);
      home = b.homes c.args.generation refl;
      walked = b.counts c.args.generation refl;
      callable = c.requires.asks.calls_eq;
      of = c.note_at-note.ensures.0;
    }

pub spelt-placed-requires : goal.spelt-placed-requires
spelt-placed-requires g c =
    let b = spelt_out c.requires.between c.spelt-state.result c.spelt-state.ensures.same in
    let at = ap (λ (t : CallState). t.phase) c.spelt-state.ensures.same ∙ c.requires.phase in
    let is = c.in-Won.ensures.puts.1 in
    record {
      phase = ap (λ (t : CallState). t.phase) is;
      walked = ap (λ (t : CallState). t.walked) is ∙ (ap (λ (t : CallState). t.walked) c.spelt-state.ensures.same ∙ c.requires.number);
      outcome = ap (λ (t : CallState). t.outcome) is ∙ b.hopes (rw at tt);
    }

pub count-next-requires : goal.count-next-requires
count-next-requires g c =
    let b = spelt_out c.requires.between c.spelt-state.result c.spelt-state.ensures.same in
    let at = ap (λ (t : CallState). t.phase) c.spelt-state.ensures.same ∙ c.requires.phase in
    let is = c.spelt-placed.ensures.same ∙ c.in-Won.ensures.puts.1 in
    record {
      lock = b.of_table c.args.guard.home refl;
      phase = ap (λ (t : CallState). t.phase) is;
      stands = ap stands_at_bucket is ∙ b.stands (rw at tt);
    }

pub settle-requires : goal.settle-requires
settle-requires g c =
    let b = spelt_out c.requires.between c.spelt-state.result c.spelt-state.ensures.same in
    let at = ap (λ (t : CallState). t.phase) c.spelt-state.ensures.same ∙ c.requires.phase in
    let own = c.in-Won.ensures.puts.2 ∙ ap g.T.AtomicValue.target (b.stems c.args.value refl) in
    let is = c.spelt-placed.ensures.same ∙ c.in-Won.ensures.puts.1 in
    let counted = c.count-next.ensures.counted in
    record {
      phase = ap (λ (t : CallState). t.phase) counted;
      number = ap (λ (t : CallState). t.walked) counted ∙ (ap (λ (t : CallState). t.walked) is ∙ (ap (λ (t : CallState). t.walked) c.spelt-state.ensures.same ∙ c.requires.number));
      outcome = ap (λ (t : CallState). t.outcome) counted ∙ ap (λ (t : CallState). New t.index) is;
      between = counts_value (wins b c.spelt-placed.result c.in-Won.target at is own) c.count-next.result (ap (λ (t : CallState). t.phase) is) counted;
      asks = record { calls_eq = c.requires.asks.calls_eq; calls_hash = c.requires.asks.calls_hash; heard = tt };
    }

pub go_on-requires : goal.go_on-requires
go_on-requires g c =
    let target = g.T.AtomicValue.target in
    let b = spelt_out c.requires.between c.spelt-state.result c.spelt-state.ensures.same in
    let at = ap (λ (t : CallState). t.phase) c.spelt-state.ensures.same ∙ c.requires.phase in
    let asks = c.requires.asks in
    let from = b.stems c.args.value refl in
    let Goes = λ (x : CallState × Carried g.row.T.Denot (Bor g.row.T-Target.Denot)).
    Onward c.args.self.now.home (given.E-IsAlwaysCallable g) (given.H-IsAlwaysCallable g) target g.E.Fn c.args.asking x.0 (Some c.args.generation) x.1 (held.Shared c.args.guard) in
    elim c.match-put_value.branch [
      | in-Refused w ↦ subst Goes (sym w.carried-is) (
          let on = has_back b w.in-Refused.next w.in-Refused.value at w.in-Refused.ensures.puts.1 (w.in-Refused.ensures.puts.2 ∙ from) in
          record { unfinished = shares_on on refl; between = on; asks = record { calls_eq = asks.calls_eq; calls_hash = asks.calls_hash; heard = tt } })
      | in-Passed w ↦ subst Goes (sym w.carried-is) (
          let on = passes (rw (← w.in-Passed.ensures.puts.2) at b) w.in-Passed.next (rw at tt) w.in-Passed.ensures.puts.1 in
          record { unfinished = shares_on on refl; between = on; asks = record { calls_eq = asks.calls_eq; calls_hash = asks.calls_hash; heard = tt } })
      | in-Met w ↦ subst Goes (sym w.carried-is) (
          let on = accepts b w.in-Met.next w.in-Met.target w.in-Met.value (rw at tt) w.in-Met.ensures.puts.1 (w.in-Met.ensures.puts.2 ∙ from) in
          let heard = subst (λ v. FnReturnsAtPair g.E.Fn c.args.asking.eq (target v) w.in-Met.target.now true) from w.in-Met.ensures.puts.3 in
          record { unfinished = shares_on on refl; between = on; asks = record { calls_eq = asks.calls_eq; calls_hash = asks.calls_hash; heard = heard } })
    ]
