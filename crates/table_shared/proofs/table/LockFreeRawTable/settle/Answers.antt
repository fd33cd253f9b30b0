use Rattle.std.proofs.Common.{◌≡◌, ◌∙◌, ap, refl, rules}
use Rattle.table_core.specs.declared.call.Answer.TheVariants.{Released}
use Rattle.table_core.specs.declared.call.CallState.{CallState}
use Rattle.table_core.specs.declared.call.Phase.TheVariants.{LeaveOk}
use Rattle.table_shared.proofs.Between.{asks_size, carries, leaves_to_ask, spelt_out, taken}
use Rattle.table_shared.proofs.Stepping.{answers}
use Rattle.table_shared.proofs.table.LockFreeRawTable.settle.Goals as goal

pub spelt-state-requires : goal.spelt-state-requires
spelt-state-requires g c = record { phase = c.requires.phase; walked = c.requires.number; outcome = c.requires.outcome }

pub step-state-requires : goal.step-state-requires
step-state-requires g c = record { fits = rw (ap (λ (t : CallState). t.phase) c.spelt-state.ensures.same ∙ c.requires.phase) refl }

pub ask_size-state-requires : goal.ask_size-state-requires
ask_size-state-requires g c =
    let at : c.spelt-state.result.phase ≡ LeaveOk = ap (λ (t : CallState). t.phase) c.spelt-state.ensures.same ∙ c.requires.phase in
    let left = taken LeaveOk Released c.spelt-state.result c.step-state.result at c.step-state.ensures.decided in
    let on = leaves_to_ask (spelt_out c.requires.between c.spelt-state.result c.spelt-state.ensures.same) c.step-state.result at left in
    let phase = ap (λ (t : CallState). t.phase) left in
    record { phase = phase; wide = on.wide (rw phase tt) }

pub into_answer-requires : goal.into_answer-requires
into_answer-requires g c = record { there = carries c.requires.between LeaveOk c.requires.phase refl }

pub returns-then-eq : goal.returns-then-eq
returns-then-eq g c =
    answers g.T.AtomicValue.target g.E.Fn c.args.asking.eq c.args.asking.given.value c.args.carried c.into_answer.result c.requires.between.stems c.requires.between.owns c.requires.asks.heard c.into_answer.ensures

pub go_on-requires : goal.go_on-requires
go_on-requires g c =
    let at : c.spelt-state.result.phase ≡ LeaveOk = ap (λ (t : CallState). t.phase) c.spelt-state.ensures.same ∙ c.requires.phase in
    let left = taken LeaveOk Released c.spelt-state.result c.step-state.result at c.step-state.ensures.decided in
    let on = leaves_to_ask (spelt_out c.requires.between c.spelt-state.result c.spelt-state.ensures.same) c.step-state.result at left in
    record {
      unfinished = search rules;
      between = asks_size on c.ask_size-state.result (ap (λ (t : CallState). t.phase) left) c.ask_size-state.ensures.ends;
      asks = c.requires.asks;
    }
