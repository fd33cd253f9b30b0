use Rattle.std.proofs.Common.{arith, ◌≡◌, refl, sym, ap, ◌∙◌}
use Rattle.table_cell.specs.Contents.{content_of, own}
use Rattle.table_cell.specs.declared.bucket.Mark.TheVariants.{Own}
use Rattle.table_cell.proofs.Marks.{is_own}
use Rattle.table_cell.proofs.Rows.{within_marks, set_shows, vacant_shows}
use Rattle.table_cell.proofs.row.Row.place_alone.Goals as goal

pub index-requires : goal.index-requires
index-requires g c = omega (arith, within_marks c.args.index c.self.invariant c.self.view_is c.requires.within)

pub invariant_of-bucket : goal.invariant_of-bucket
invariant_of-bucket g c = is_own c.args.bits c.of.result.from c.args.home.now.id c.of.result.value c.own.result c.own.ensures (ap (λ e. e.bits) (c.of.ensures.0 ∙ c.in-Ok.ensures.ok))

pub put-requires-clause-vacant : goal.put-requires-clause-vacant
put-requires-clause-vacant g c =
    let below = within_marks c.args.index c.self.invariant c.self.view_is c.requires.within in
    rw (← c.self.view_is) (vacant_shows c.self.inside.marks.items c.self.inside.words.items c.args.index c.index.result.now c.self.invariant.marked below c.index.ensures c.in-Unmarked.is)

pub put-requires-clause-lies : goal.put-requires-clause-lies
put-requires-clause-lies g c = (
  ap (λ w. w.home) c.own.ensures ∙ sym c.requires.home,
  ap (λ w. w.from) c.own.ensures ∙ c.of.ensures.1 ∙ c.in-Ok.ensures.allocator ∙ ap (λ r. r.from) c.self.view_is,
)

pub returns-in-Unmarked-clause-vacant : goal.returns-in-Unmarked-clause-vacant
returns-in-Unmarked-clause-vacant g c =
    let below = within_marks c.args.index c.self.invariant c.self.view_is c.requires.within in
    rw (← c.self.view_is) (vacant_shows c.self.inside.marks.items c.self.inside.words.items c.args.index c.index.result.now c.self.invariant.marked below c.index.ensures c.in-Unmarked.is)

pub returns-in-Unmarked-clause-placed : goal.returns-in-Unmarked-clause-placed
returns-in-Unmarked-clause-placed g c =
    let is : content_of (Own c.args.bits) c.own.result.value ≡ own c.of.result.value = ap (λ w. content_of (Own c.args.bits) w.value) c.own.ensures in
    c.put.ensures.put ∙ rw (is, c.of.ensures.0, c.in-Ok.ensures.ok) refl

pub returns-in_default-clause-refused : goal.returns-in_default-clause-refused
returns-in_default-clause-refused g c =
    let below = within_marks c.args.index c.self.invariant c.self.view_is c.requires.within in (
      refl,
      (
        ap (λ e. e.value) (c.into_inner.ensures ∙ c.in-Ok.ensures.ok),
        rw (← c.self.view_is) (set_shows c.self.inside.marks.items c.self.inside.words.items c.args.index c.index.result.now c.self.invariant.marked below c.index.ensures c.in_default.not-Unmarked),
      ),
    )
