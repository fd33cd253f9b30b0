use Rattle.std.proofs.Common.{◌≡◌, sym, arith, length}
use Rattle.std.proofs.lemmas.List.{length-map}
use Rattle.table_held.specs.Table.{contents_in}
use Rattle.table_held.proofs.Rows.{earlier_row, current_row}
use Rattle.table_held.proofs.raw.generation_at.Goals as goal

pub returns-then-generation-earlier-clause-row : goal.returns-then-generation-earlier-clause-row
returns-then-generation-earlier-clause-row g c = sym (earlier_row c.args.earlier.now c.args.current.now.contents c.args.generation c.index-earlier-generation.result c.if-generation-earlier.true (sym c.index-earlier-generation.is))

pub returns-clause-row : goal.returns-clause-row
returns-clause-row g c =
    let long : length (contents_in c.args.earlier.now) ≡ length c.args.earlier.now = length-map _ _ in
    let last : c.args.generation ≡ length (contents_in c.args.earlier.now) = omega arith in
    rw last (sym (current_row (contents_in c.args.earlier.now) c.args.current.now.contents))
