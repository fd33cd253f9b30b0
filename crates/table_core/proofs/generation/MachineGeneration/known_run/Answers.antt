use Rattle.std.proofs.Common.{◌≡◌, ◌∙◌, ap, sym, subst, arith, Some}
use Rattle.std.specs.Option.{option_map}
use Rattle.table_core.specs.Generations.{Gen, bucket}
use Rattle.table_core.specs.Bound.{entry_of, IsRun}
use Rattle.table_core.proofs.CodeEntries.{lookup_bucket}
use Rattle.table_core.proofs.CodeRuns.{run_of, set_from}
use Rattle.table_core.proofs.generation.MachineGeneration.known_run.Goals as goal

pub returns-in-Some-clause-set : goal.returns-in-Some-clause-set
returns-in-Some-clause-set g c =
    let run = subst (λ (g : Gen). IsRun g.capacity g.entries c.args.index c.in-Some.slot.now.run) c.self.view_is (run_of c.self.inside.capacity c.args.index _ c.in-Some.slot.now c.self.inside.slots.entries (sym c.in-Some.ensures.value) c.self.invariant.2) in
    let here : Some (entry_of (c.args.index, c.in-Some.slot.now)) ≡ bucket c.args.self.now.entries c.args.index =
    ap (option_map (λ s. entry_of (c.args.index, s))) c.in-Some.ensures.value ∙
    lookup_bucket c.args.index c.self.inside.slots.entries ∙
    ap (λ (g : Gen). bucket g.entries c.args.index) c.self.view_is in
    set_from c.args.self.now c.args.index c.in-Some.slot.now.run c.requires (_, sym here) run

pub returns-in-Some-clause-few : goal.returns-in-Some-clause-few
returns-in-Some-clause-few g c =
    (subst (λ (g : Gen). IsRun g.capacity g.entries c.args.index c.in-Some.slot.now.run) c.self.view_is (run_of c.self.inside.capacity c.args.index _ c.in-Some.slot.now c.self.inside.slots.entries (sym c.in-Some.ensures.value) c.self.invariant.2)).1

pub returns-in-Some-clause-empty : goal.returns-in-Some-clause-empty
returns-in-Some-clause-empty g c z =
    let run = run_of c.self.inside.capacity c.args.index _ c.in-Some.slot.now c.self.inside.slots.entries (sym c.in-Some.ensures.value) c.self.invariant.2 in
    absurd (let l = run.0 in omega (arith, z))

pub returns-in-None-clause-empty : goal.returns-in-None-clause-empty
returns-in-None-clause-empty g c z =
    sym (ap (option_map (λ s. entry_of (c.args.index, s))) c.in-None.ensures.value ∙
    lookup_bucket c.args.index c.self.inside.slots.entries ∙
    ap (λ (g : Gen). bucket g.entries c.args.index) c.self.view_is)
