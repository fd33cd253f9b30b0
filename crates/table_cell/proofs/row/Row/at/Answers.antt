use Rattle.std.proofs.Common.{arith}
use Rattle.table_cell.proofs.Rows.{within_marks, within_words, marked_at, bucket_is}
use Rattle.table_cell.proofs.row.Row.at.Goals as goal

pub index-requires : goal.index-requires
index-requires g c = omega (arith, within_marks c.args.index c.self.invariant c.self.view_is c.requires)

pub index-requires-2 : goal.index-requires-2
index-requires-2 g c = omega (arith, within_words c.args.index c.self.invariant c.self.view_is c.requires)

pub invariant_of-result : goal.invariant_of-result
invariant_of-result g c =
    let below = within_marks c.args.index c.self.invariant c.self.view_is c.requires in
    marked_at c.self.inside.marks.items c.self.inside.words.items c.args.index c.index.result.now c.index-2.result.now c.self.invariant.marked below c.index.ensures c.index-2.ensures

pub returns : goal.returns
returns g c =
    let below = within_marks c.args.index c.self.invariant c.self.view_is c.requires in
    let words = within_words c.args.index c.self.invariant c.self.view_is c.requires in
    rw (← c.self.view_is) (bucket_is c.self.inside.marks.items c.self.inside.words.items c.args.index c.index.result.now c.index-2.result.now c.self.inside.origin.home c.self.inside.alloc
    c.self.invariant.marked below words c.index.ensures c.index-2.ensures c.self.invariant.lies)
