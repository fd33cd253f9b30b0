use Rattle.std.proofs.Common.{◌≡◌, ◌∙◌, ◌+◌, ◌-◌, ◌<◌, length, arith, refl}
use Rattle.std.specs.Prelude.{min, slice_index_or}
use Rattle.std.specs.Fn.{FnReturnsAt}
use Rattle.table_generations.specs.Windows.{IsAhead}
use Rattle.table_generations.specs.declared.growth.Ahead.{Ahead}
use Rattle.table_generations.proofs.Entries.{some_same}
use Rattle.table_generations.proofs.Rehashes.{next_hashed, past_none}
use Rattle.table_generations.proofs.Windows.{first_read}
use Rattle.table_generations.proofs.growth.rehash_window.Goals as goal

pub loop-place-init : goal.loop-place-init
loop-place-init g c = let all : c.read_window-found.result - 0 ≡ c.read_window-found.result = omega arith in (
  c.args.first,
  record {
    home = c.requires.built_home;
    long = refl;
    few = c.requires.few;
    counted = c.requires.counted;
    names = c.requires.names;
    are_read = rw all c.read_window-found.ensures.read;
    rehashes = λ r. r;
  },
)

pub rehash_one-requires-clause-place : goal.rehash_one-requires-clause-place
rehash_one-requires-clause-place g c =
    let (p, inv) = c.loop-place.invariant in
    let old = c.args.old.now.contents in
    let end = c.args.first + min (length old - c.args.first) 64 in
    let place = c.loop-place.place in
    let found = c.read_window-found.result in
    let window = c.read_window-found.new.window in
    let d : Ahead = record { index = 0; hash = 0 } in
    let (i, on, none, (at, e, shows, asked), below, rest) = first_read old (IsAhead old g.T.AtomicValue.target (FnReturnsAt g.H.Fn c.args.hash_fn.now)) end p (found - place) (found - (place + 1)) place window (slice_index_or window place d) d (omega arith) refl inv.are_read in
    omega arith

pub rehash_one-requires-clause-room : goal.rehash_one-requires-clause-room
rehash_one-requires-clause-room g c =
    let (p, inv) = c.loop-place.invariant in
    let old = c.args.old.now.contents in
    let end = c.args.first + min (length old - c.args.first) 64 in
    let place = c.loop-place.place in
    let found = c.read_window-found.result in
    let window = c.read_window-found.new.window in
    let d : Ahead = record { index = 0; hash = 0 } in
    let (i, on, none, here, below, rest) = first_read old (IsAhead old g.T.AtomicValue.target (FnReturnsAt g.H.Fn c.args.hash_fn.now)) end p (found - place) (found - (place + 1)) place window (slice_index_or window place d) d (omega arith) refl inv.are_read in
    let few = inv.few in
    let long = inv.long in
    omega arith

pub loop-place-preserved : goal.loop-place-preserved
loop-place-preserved g c =
    let (p, inv) = c.loop-place.invariant in
    let old = c.args.old.now.contents in
    let target = g.T.AtomicValue.target in
    let rehash = FnReturnsAt g.H.Fn c.args.hash_fn.now in
    let end = c.args.first + min (length old - c.args.first) 64 in
    let place = c.loop-place.place in
    let found = c.read_window-found.result in
    let window = c.read_window-found.new.window in
    let d : Ahead = record { index = 0; hash = 0 } in
    let (i, on, none, (at, e, shows, asked), below, rest) = first_read old (IsAhead old target rehash) end p (found - place) (found - (place + 1)) place window (slice_index_or window place d) d (omega arith) refl inv.are_read in
    let within : i < length old = omega arith in (
      i + 1,
      record {
        home = c.rehash_one.ensures.home;
        long = c.rehash_one.ensures.long ∙ inv.long;
        few = (let few = inv.few in let grown = c.rehash_one.ensures.grown in omega arith);
        counted = c.rehash_one.ensures.counted;
        names = c.rehash_one.ensures.names;
        are_read = rest;
        rehashes = λ r. next_hashed target rehash old p i _ c.loop-place.built.contents c.rehash_one.new.built.contents on within none
            (λ x is. rw (some_same x e _ is shows) asked) (rw at at c.rehash_one.ensures.step) (inv.rehashes r);
      },
    )

pub returns-clause-rehashes : goal.returns-clause-rehashes
returns-clause-rehashes g c =
    let (p, inv) = c.loop-place.invariant in
    let old = c.args.old.now.contents in
    let end = c.args.first + min (length old - c.args.first) 64 in
    let none_left : c.read_window-found.result - c.loop-place.place ≡ 0 = omega arith in
    let (on, past) = rw none_left at inv.are_read in
    λ r. past_none g.T.AtomicValue.target (FnReturnsAt g.H.Fn c.args.hash_fn.now) old (end - p) p end c.loop-place.built.contents (omega arith) (omega arith) past (inv.rehashes r)
