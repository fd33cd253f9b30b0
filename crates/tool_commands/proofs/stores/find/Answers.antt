use Rattle.std.proofs.Common.{rules, Some, None}
use Rattle.tool_commands.proofs.PairTables.{looks_up}
use Rattle.tool_commands.proofs.stores.find.Goals as goal

pub returns-in_err-entry : goal.returns-in_err-entry
returns-in_err-entry g c = rw c.from_residual.ensures
    (looks_up g.B.AloneTable.shows (λ b. b.value) _ c.args.table.now (c.args.hash, c.args.number) None c.ranges.hash.fits (λ y answer s. search rules) c.in_err-entry.ensures.as_list)

pub returns : goal.returns
returns g c =
    looks_up g.B.AloneTable.shows (λ b. b.value) _ c.args.table.now (c.args.hash, c.args.number) (Some c.in_ok-entry.entry.now) c.ranges.hash.fits (λ y answer s. search rules) c.in_ok-entry.ensures.as_list
