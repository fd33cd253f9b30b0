use Rattle.std.proofs.Common.{◌≡◌, ℕ, List, slice_index_or, arith, sym, ap, ◌∙◌, subst}
use Rattle.table_slab.specs.Slabs.{SlabView}
use Rattle.table_slab.specs.Endings.{Opens, EndView, IsLeft}
use Rattle.table_slab.specs.declared.ending.Cell.{Cell}
use Rattle.table_slab.specs.declared.ending.Owned.{Owned}
use Rattle.table_slab.proofs.Ended.{ended_few, found_within, found, slot_left, still_named, still_ending, still_left}
use Rattle.table_slab.proofs.ending.Ending.take_out.Goals as goal

abbrev the_slab : ℕ → List ℕ → SlabView
the_slab bits ns = record { bits = bits; cells = ns }

pub where_is-place-requires-clause-number : goal.where_is-place-requires-clause-number
where_is-place-requires-clause-number g c = ended_few g.row.T.Denot g.row.A.Denot c.self.inside.alloc c.self.inside.closed.id c.self.inside.bits c.self.inside.cells.items c.args.self.now c.self.invariant c.self.view_is c.requires.number

pub index_mut-spot-requires : goal.index_mut-spot-requires
index_mut-spot-requires g c = omega (arith, found_within g.row.T.Denot g.row.A.Denot c.self.inside.alloc c.self.inside.closed.id c.self.inside.bits c.self.inside.cells.items c.args.self.now c.self.invariant c.self.view_is c.requires.number c.where_is-place.ensures)

pub opened-slots-requires-clause-open : goal.opened-slots-requires-clause-open
opened-slots-requires-clause-open g c = let is : c.replace-cell.result ≡ slice_index_or c.self.inside.cells.items c.where_is-place.result.0 c.replace-cell.result = subst (λ (x : Cell g.row.T.Denot g.row.A.Denot). x ≡ slice_index_or c.self.inside.cells.items c.where_is-place.result.0 x) (sym c.replace-cell.ensures.value) c.index_mut-spot.ensures.value in
    let f = found g.row.T.Denot g.row.A.Denot c.self.inside.alloc c.self.inside.closed.id c.self.inside.bits c.self.inside.cells.items c.args.self.now c.self.invariant c.self.view_is c.requires.number c.replace-cell.result c.where_is-place.ensures is in
    f.whole

pub opened-slots-requires-clause-name : goal.opened-slots-requires-clause-name
opened-slots-requires-clause-name g c = let is : c.replace-cell.result ≡ slice_index_or c.self.inside.cells.items c.where_is-place.result.0 c.replace-cell.result = subst (λ (x : Cell g.row.T.Denot g.row.A.Denot). x ≡ slice_index_or c.self.inside.cells.items c.where_is-place.result.0 x) (sym c.replace-cell.ensures.value) c.index_mut-spot.ensures.value in
    let f = found g.row.T.Denot g.row.A.Denot c.self.inside.alloc c.self.inside.closed.id c.self.inside.bits c.self.inside.cells.items c.args.self.now c.self.invariant c.self.view_is c.requires.number c.replace-cell.result c.where_is-place.ensures is in
    f.of

pub take_out-value-requires-clause-inside : goal.take_out-value-requires-clause-inside
take_out-value-requires-clause-inside g c = let is : c.replace-cell.result ≡ slice_index_or c.self.inside.cells.items c.where_is-place.result.0 c.replace-cell.result = subst (λ (x : Cell g.row.T.Denot g.row.A.Denot). x ≡ slice_index_or c.self.inside.cells.items c.where_is-place.result.0 x) (sym c.replace-cell.ensures.value) c.index_mut-spot.ensures.value in
    let f = found g.row.T.Denot g.row.A.Denot c.self.inside.alloc c.self.inside.closed.id c.self.inside.bits c.self.inside.cells.items c.args.self.now c.self.invariant c.self.view_is c.requires.number c.replace-cell.result c.where_is-place.ensures is in
    let opens = subst (λ (xs : List ℕ). Opens c.replace-cell.result xs c.opened-slots.result.slots) c.opened-slots.ensures.site.1 c.opened-slots.ensures.slots in let left = subst (λ (v : EndView). IsLeft v c.args.number) (sym c.self.view_is) c.requires.left in
    (slot_left g.row.T.Denot g.row.A.Denot c.self.inside.alloc c.self.inside.closed.id c.self.inside.bits c.self.inside.cells.items c.where_is-place.result.0 c.replace-cell.result f.within is c.args.standing.now.site.value c.opened-slots.result.slots opens c.args.number c.where_is-place.result.1 c.args.standing.now.written.of f.whole c.where_is-place.ensures left f.inside f.named).0

pub take_out-value-requires-clause-of : goal.take_out-value-requires-clause-of
take_out-value-requires-clause-of g c = let is : c.replace-cell.result ≡ slice_index_or c.self.inside.cells.items c.where_is-place.result.0 c.replace-cell.result = subst (λ (x : Cell g.row.T.Denot g.row.A.Denot). x ≡ slice_index_or c.self.inside.cells.items c.where_is-place.result.0 x) (sym c.replace-cell.ensures.value) c.index_mut-spot.ensures.value in
    let f = found g.row.T.Denot g.row.A.Denot c.self.inside.alloc c.self.inside.closed.id c.self.inside.bits c.self.inside.cells.items c.args.self.now c.self.invariant c.self.view_is c.requires.number c.replace-cell.result c.where_is-place.ensures is in
    let opens = subst (λ (xs : List ℕ). Opens c.replace-cell.result xs c.opened-slots.result.slots) c.opened-slots.ensures.site.1 c.opened-slots.ensures.slots in let left = subst (λ (v : EndView). IsLeft v c.args.number) (sym c.self.view_is) c.requires.left in
    (slot_left g.row.T.Denot g.row.A.Denot c.self.inside.alloc c.self.inside.closed.id c.self.inside.bits c.self.inside.cells.items c.where_is-place.result.0 c.replace-cell.result f.within is c.args.standing.now.site.value c.opened-slots.result.slots opens c.args.number c.where_is-place.result.1 c.args.standing.now.written.of f.whole c.where_is-place.ensures left f.inside f.named).1

pub invariant_of-self : goal.invariant_of-self
invariant_of-self g c = let is : c.replace-cell.result ≡ slice_index_or c.self.inside.cells.items c.where_is-place.result.0 c.replace-cell.result = subst (λ (x : Cell g.row.T.Denot g.row.A.Denot). x ≡ slice_index_or c.self.inside.cells.items c.where_is-place.result.0 x) (sym c.replace-cell.ensures.value) c.index_mut-spot.ensures.value in
    let f = found g.row.T.Denot g.row.A.Denot c.self.inside.alloc c.self.inside.closed.id c.self.inside.bits c.self.inside.cells.items c.args.self.now c.self.invariant c.self.view_is c.requires.number c.replace-cell.result c.where_is-place.ensures is in
    let opens = subst (λ (xs : List ℕ). Opens c.replace-cell.result xs c.opened-slots.result.slots) c.opened-slots.ensures.site.1 c.opened-slots.ensures.slots in let left = subst (λ (v : EndView). IsLeft v c.args.number) (sym c.self.view_is) c.requires.left in
    let o : Owned g.row.T.Denot g.row.A.Denot = record { slots = c.take_out-value.new.self; site = c.opened-slots.result.site } in
    still_ending g.row.T.Denot g.row.A.Denot c.self.inside.alloc c.self.inside.closed.id c.self.inside.bits c.self.inside.cells.items c.where_is-place.result.0 c.replace-cell.result f.within is c.args.standing.now.site.value c.opened-slots.result.slots opens o c.take_out-value.result.1.of c.where_is-place.result.1 c.opened-slots.ensures.site.1 (c.opened-slots.ensures.site.0 ∙ sym f.of) c.take_out-value.ensures.names c.self.invariant

pub returns-clause-slab : goal.returns-clause-slab
returns-clause-slab g c = let is : c.replace-cell.result ≡ slice_index_or c.self.inside.cells.items c.where_is-place.result.0 c.replace-cell.result = subst (λ (x : Cell g.row.T.Denot g.row.A.Denot). x ≡ slice_index_or c.self.inside.cells.items c.where_is-place.result.0 x) (sym c.replace-cell.ensures.value) c.index_mut-spot.ensures.value in
    let f = found g.row.T.Denot g.row.A.Denot c.self.inside.alloc c.self.inside.closed.id c.self.inside.bits c.self.inside.cells.items c.args.self.now c.self.invariant c.self.view_is c.requires.number c.replace-cell.result c.where_is-place.ensures is in
    let opens = subst (λ (xs : List ℕ). Opens c.replace-cell.result xs c.opened-slots.result.slots) c.opened-slots.ensures.site.1 c.opened-slots.ensures.slots in let left = subst (λ (v : EndView). IsLeft v c.args.number) (sym c.self.view_is) c.requires.left in
    let o : Owned g.row.T.Denot g.row.A.Denot = record { slots = c.take_out-value.new.self; site = c.opened-slots.result.site } in
    ap (λ (ns : List ℕ). the_slab c.self.inside.bits ns) (still_named g.row.T.Denot g.row.A.Denot c.self.inside.alloc c.self.inside.closed.id c.self.inside.bits c.self.inside.cells.items c.where_is-place.result.0 c.replace-cell.result f.within is c.args.standing.now.site.value c.opened-slots.result.slots opens o c.take_out-value.result.1.of c.where_is-place.result.1 c.opened-slots.ensures.site.1 (c.opened-slots.ensures.site.0 ∙ sym f.of) c.take_out-value.ensures.names) ∙ ap (λ (v : EndView). v.slab) c.self.view_is

pub returns-clause-others : goal.returns-clause-others
returns-clause-others g c = let is : c.replace-cell.result ≡ slice_index_or c.self.inside.cells.items c.where_is-place.result.0 c.replace-cell.result = subst (λ (x : Cell g.row.T.Denot g.row.A.Denot). x ≡ slice_index_or c.self.inside.cells.items c.where_is-place.result.0 x) (sym c.replace-cell.ensures.value) c.index_mut-spot.ensures.value in
    let f = found g.row.T.Denot g.row.A.Denot c.self.inside.alloc c.self.inside.closed.id c.self.inside.bits c.self.inside.cells.items c.args.self.now c.self.invariant c.self.view_is c.requires.number c.replace-cell.result c.where_is-place.ensures is in
    let opens = subst (λ (xs : List ℕ). Opens c.replace-cell.result xs c.opened-slots.result.slots) c.opened-slots.ensures.site.1 c.opened-slots.ensures.slots in let left = subst (λ (v : EndView). IsLeft v c.args.number) (sym c.self.view_is) c.requires.left in
    let o : Owned g.row.T.Denot g.row.A.Denot = record { slots = c.take_out-value.new.self; site = c.opened-slots.result.site } in
    λ other ne kept. still_left g.row.T.Denot g.row.A.Denot c.self.inside.alloc c.self.inside.closed.id c.self.inside.bits c.self.inside.cells.items c.where_is-place.result.0 c.replace-cell.result f.within is c.args.standing.now.site.value c.opened-slots.result.slots opens o c.take_out-value.result.1.of c.where_is-place.result.1 c.opened-slots.ensures.site.1 (c.opened-slots.ensures.site.0 ∙ sym f.of) c.take_out-value.ensures.names c.args.number other c.where_is-place.ensures ne (subst (λ (v : EndView). IsLeft v other) (sym c.self.view_is) kept)
