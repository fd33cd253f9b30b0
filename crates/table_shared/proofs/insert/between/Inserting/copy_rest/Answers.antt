use Rattle.std.proofs.Common.{◌∙◌, ap, sym}
use Rattle.table_shared.specs.Carried.{table_in}
use Rattle.table_shared.proofs.insert.between.Inserting.copy_rest.Goals as goal

pub unreachable-requires : goal.unreachable-requires
unreachable-requires g c = c.args.self.now.between.builds c.requires.phase (sym c.in_default.ensures.value)

pub copy_rest-self-requires-clause-lock : goal.copy_rest-self-requires-clause-lock
copy_rest-self-requires-clause-lock g c =
    let b = c.args.self.now.between in
    b.of_table c.in-Owned.held.home (ap table_in c.in-Owned.is) ∙ sym (b.grows c.in-Some.growth (sym c.in-Some.ensures.value))
