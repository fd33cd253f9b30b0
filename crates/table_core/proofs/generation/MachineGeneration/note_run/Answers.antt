use Rattle.std.proofs.Common.{sym, subst, map}
use Rattle.table_core.specs.Generations.{Gen}
use Rattle.table_core.specs.Bound.{entry_of, IsRun}
use Rattle.table_core.proofs.CodeRuns.{runs_set, entries_set}
use Rattle.table_core.proofs.generation.MachineGeneration.note_run.Goals.{in-Some, in_default}
use Rattle.table_core.proofs.generation.MachineGeneration.note_run.Goals as goal

pub invariant_of-self : goal.invariant_of-self
invariant_of-self g c =
    let run : IsRun c.self.inside.capacity (map entry_of c.self.inside.slots.entries) c.args.index c.args.run =
    subst (λ (g : Gen). IsRun g.capacity g.entries c.args.index c.args.run) (sym c.self.view_is) (c.requires.some, c.requires.few, λ j least lt. c.requires.set j lt) in
    elim c.match-get_mut.branch [
      | in-Some w ↦
          let slot = w.in-Some.slot.now in
          let noted = record slot { run = c.args.run } in
          let h = c.get_mut.follows.holds noted in
          let same = entries_set c.args.index c.args.run slot c.self.inside.slots.entries (sym w.in-Some.ensures.value) in
          rw w.self-inside-is (c.self.invariant.0, rw h.2 c.self.invariant.1, rw (h.0, same) (runs_set c.self.inside.capacity c.args.index noted _ _ run c.self.invariant.2))
      | in_default w ↦ rw (w.self-inside-is, c.get_mut.follows.holds-at-none) c.self.invariant
    ]

pub returns : goal.returns
returns g c = elim c.match-get_mut.branch [
  | in-Some w ↦
      let slot = w.in-Some.slot.now in
      let same = entries_set c.args.index c.args.run slot c.self.inside.slots.entries (sym w.in-Some.ensures.value) in
      rw w.self-inside-is (rw ((c.get_mut.follows.holds (record slot { run = c.args.run })).0, same) c.self.view_is)
  | in_default w ↦ rw (w.self-inside-is, c.get_mut.follows.holds-at-none) c.self.view_is
]
