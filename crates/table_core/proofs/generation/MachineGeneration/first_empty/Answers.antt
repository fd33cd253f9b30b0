use Rattle.std.proofs.Common.{◌≡◌, ◌∙◌, ◌+◌, ◌%◌, ◌≤◌, ap, sym, subst, arith, None, length}
use Rattle.table_core.specs.Generations.{Gen, bucket}
use Rattle.table_core.specs.Bound.{AllSet}
use Rattle.table_core.proofs.CodeRuns.{known_runs, few_passed, ends_there, ends_last, passed_on}
use Rattle.table_core.proofs.generation.MachineGeneration.first_empty.Goals as goal

pub returns-then-known-eq0-clause-index : goal.returns-then-known-eq0-clause-index
returns-then-known-eq0-clause-index g c =
    ends_there c.args.self.now c.args.hash c.loop-pass.index c.loop-pass._pass c.requires c.loop-pass.invariant.passed
    (subst (λ (g : Gen). bucket g.entries c.loop-pass.index ≡ None) c.loop-pass.invariant.same (c.known_run-known.ensures.empty c.if-known-eq0.true))

pub overflow_add-run : goal.overflow_add-run
overflow_add-run g c =
    let all = known_runs c.args.self.now c.loop-pass.self _ c.loop-pass.index c.index_after-next.result c.known_run-known.result c.known_run.result c.loop-pass.invariant.same c.capacity-capacity.ensures.value c.index_after-next.ensures c.known_run-known.ensures.set c.known_run.ensures.set in
    let few = few_passed c.args.self.now c.args.hash c.loop-pass.index c.loop-pass._pass _ c.requires c.loop-pass.invariant.passed all in
    let len = c.len-pass-end.ensures in
    record { fits = omega arith }

pub note_run-requires-clause-few : goal.note_run-requires-clause-few
note_run-requires-clause-few g c =
    let all = known_runs c.args.self.now c.loop-pass.self _ c.loop-pass.index c.index_after-next.result c.known_run-known.result c.known_run.result c.loop-pass.invariant.same c.capacity-capacity.ensures.value c.index_after-next.ensures c.known_run-known.ensures.set c.known_run.ensures.set in
    subst (λ (g : Gen). c.known_run-known.result + c.known_run.result ≤ length g.entries) (sym c.loop-pass.invariant.same)
    (few_passed c.args.self.now c.args.hash c.loop-pass.index c.loop-pass._pass _ c.requires c.loop-pass.invariant.passed all)

pub note_run-requires-clause-set : goal.note_run-requires-clause-set
note_run-requires-clause-set g c =
    subst (λ (g : Gen). AllSet g c.loop-pass.index (c.known_run-known.result + c.known_run.result)) (sym c.loop-pass.invariant.same)
    (known_runs c.args.self.now c.loop-pass.self _ c.loop-pass.index c.index_after-next.result c.known_run-known.result c.known_run.result c.loop-pass.invariant.same c.capacity-capacity.ensures.value c.index_after-next.ensures c.known_run-known.ensures.set c.known_run.ensures.set)

pub loop-pass-preserved : goal.loop-pass-preserved
loop-pass-preserved g c =
    let all = known_runs c.args.self.now c.loop-pass.self _ c.loop-pass.index c.index_after-next.result c.known_run-known.result c.known_run.result c.loop-pass.invariant.same c.capacity-capacity.ensures.value c.index_after-next.ensures c.known_run-known.ensures.set c.known_run.ensures.set in
    let some = c.if-known-eq0.false in
    record {
      same = c.note_run.ensures ∙ c.loop-pass.invariant.same;
      passed = passed_on c.args.self.now c.args.hash c.loop-pass.index c.loop-pass._pass _ c.index_after-index.result c.loop-pass.invariant.passed (omega arith) all
          (c.index_after-index.ensures ∙ ap (λ n. (c.loop-pass.index + (c.known_run-known.result + c.known_run.result)) % n) c.capacity-capacity.ensures.value);
    }

pub returns-clause-index : goal.returns-clause-index
returns-clause-index g c =
    let len = c.len-pass-end.ensures in
    let done = c.loop-pass-test.false in
    ends_last c.args.self.now c.args.hash c.loop-pass.index c.loop-pass._pass c.requires c.loop-pass.invariant.passed (omega arith)
