use Rattle.std.proofs.Common.{rules, Ok, ◌≡◌}
use Rattle.std.specs.Fn.{FnReturnsAt, FnReturnsAtPair}
use Rattle.table_held.specs.Held.{Inserted}
use Rattle.table_held.proofs.Placed.{Places}
use Rattle.table_held.proofs.Placing.{places_opened, places_grown}
use Rattle.table_held.proofs.Lists.{inserted}
use Rattle.table_held.proofs.raw.HeldRawTable.place_alone.Given.{Over}
use Rattle.table_held.proofs.raw.HeldRawTable.place_alone.Goals as goal

-- a value was handed back
places_back : (g : Over) (c : goal.After-from_residual g) → Places g.T.AtomicValue.target g.L.Law.same g.L.Law.hash_of (FnReturnsAtPair g.E.Fn c.args.eq.now) (FnReturnsAt g.H.Fn c.args.hash_fn.now) c.args.self.now c.args.hash c.args.value c.from_residual.result c.place_or_grow.new.self
places_back g c =
    let same : c.from_residual.result ≡ c.place_or_grow.result = search rules in
    rw same (places_opened g.T.AtomicValue.target g.L.Law.same g.L.Law.hash_of g.L.Law.lawful (FnReturnsAtPair g.E.Fn c.args.eq.now) (FnReturnsAt g.H.Fn c.args.hash_fn.now) c.args.hash c.args.value
    c.args.self.now c.open_alone.new.self c.place_or_grow.result c.place_or_grow.new.self (search rules) (search rules) c.place_or_grow.ensures)

-- a value was placed
places_ok : (g : Over) (c : goal.After-grow_if_wanted g) → Places g.T.AtomicValue.target g.L.Law.same g.L.Law.hash_of (FnReturnsAtPair g.E.Fn c.args.eq.now) (FnReturnsAt g.H.Fn c.args.hash_fn.now) c.args.self.now c.args.hash c.args.value (Ok c.in_ok-placed.placed) c.grow_if_wanted.new.self
places_ok g c =
    let same : c.place_or_grow.result ≡ Ok c.in_ok-placed.placed = search rules in
    rw (← same) (places_grown g.T.AtomicValue.target g.L.Law.same g.L.Law.hash_of g.L.Law.lawful (FnReturnsAtPair g.E.Fn c.args.eq.now) (FnReturnsAt g.H.Fn c.args.hash_fn.now) c.args.hash c.args.value
    c.args.self.now c.place_or_grow.new.self c.place_or_grow.result c.grow_if_wanted.new.self c.grow_if_wanted.result
    (places_opened g.T.AtomicValue.target g.L.Law.same g.L.Law.hash_of g.L.Law.lawful (FnReturnsAtPair g.E.Fn c.args.eq.now) (FnReturnsAt g.H.Fn c.args.hash_fn.now) c.args.hash c.args.value
    c.args.self.now c.open_alone.new.self c.place_or_grow.result c.place_or_grow.new.self (search rules) (search rules) c.place_or_grow.ensures)
    c.grow_if_wanted.ensures.grown c.grow_if_wanted.ensures.unchanged)

inserted_back : (g : Over) (c : goal.After-from_residual g) → Inserted g.T.AtomicValue.target g.L.Law.same g.L.Law.hash_of (FnReturnsAtPair g.E.Fn c.args.eq.now) (FnReturnsAt g.H.Fn c.args.hash_fn.now) c.args.self.now c.args.hash c.args.value c.from_residual.result c.place_or_grow.new.self
inserted_back g c = inserted _ _ _ _ _ _ _ _ _ _ c.open_alone.ensures.counted (places_back g c)

inserted_ok : (g : Over) (c : goal.After-grow_if_wanted g) → Inserted g.T.AtomicValue.target g.L.Law.same g.L.Law.hash_of (FnReturnsAtPair g.E.Fn c.args.eq.now) (FnReturnsAt g.H.Fn c.args.hash_fn.now) c.args.self.now c.args.hash c.args.value (Ok c.in_ok-placed.placed) c.grow_if_wanted.new.self
inserted_ok g c = inserted _ _ _ _ _ _ _ _ _ _ c.open_alone.ensures.counted (places_ok g c)

pub returns-in_err-placed : goal.returns-in_err-placed
returns-in_err-placed g c = search (inserted_back g c)

pub returns : goal.returns
returns g c = search (inserted_ok g c)
