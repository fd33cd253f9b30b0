use Rattle.std.proofs.Common.{◌∙◌, sym, ap, option_copied}
use Rattle.table_held.specs.Table.{marked_at}
use Rattle.table_held.proofs.Rows.{generation_within, bucket_within, some_entry, shows_target}
use Rattle.table_held.proofs.raw.HeldRawTable.target_at.Goals as goal

pub generation_at-generation-requires : goal.generation_at-generation-requires
generation_at-generation-requires g c =
    rw (c.generation.ensures, c.as_slice.ensures.value) (generation_within c.self.inside.first_capacity c.self.inside.earlier.items c.self.inside.current.contents c.self.inside.current.size c.args.self.now c.self.view_is c.args.place c.requires)

pub entry_shown-requires-clause-within : goal.entry_shown-requires-clause-within
entry_shown-requires-clause-within g c =
    let there = bucket_within c.self.inside.first_capacity c.self.inside.earlier.items c.self.inside.current.contents c.self.inside.current.size c.args.self.now c.self.view_is c.args.place c.requires c.generation_at-generation.result.now.contents
    (rw (c.generation.ensures, c.as_slice.ensures.value) at c.generation_at-generation.ensures.row) in
    rw c.index.ensures there.0

pub unreachable-requires : goal.unreachable-requires
unreachable-requires g c =
    let there = bucket_within c.self.inside.first_capacity c.self.inside.earlier.items c.self.inside.current.contents c.self.inside.current.size c.args.self.now c.self.view_is c.args.place c.requires c.generation_at-generation.result.now.contents
    (rw (c.generation.ensures, c.as_slice.ensures.value) at c.generation_at-generation.ensures.row) in
    let (e, is) = some_entry (marked_at c.args.self.now c.args.place) c.requires in
    let shows = rw (c.index.ensures, there.1, is, c.in-None.is) at c.entry_shown.ensures in
    (cc shows)

pub returns : goal.returns
returns g c =
    let there = bucket_within c.self.inside.first_capacity c.self.inside.earlier.items c.self.inside.current.contents c.self.inside.current.size c.args.self.now c.self.view_is c.args.place c.requires c.generation_at-generation.result.now.contents
    (rw (c.generation.ensures, c.as_slice.ensures.value) at c.generation_at-generation.ensures.row) in
    let shows = rw (c.index.ensures, there.1) at c.entry_shown.ensures in
    shows_target _ (marked_at c.args.self.now c.args.place) c.in-Some.entry.now _ (sym shows ∙ ap option_copied c.in-Some.is) c.deref.ensures

pub entry_shown-requires-clause-home : goal.entry_shown-requires-clause-home
entry_shown-requires-clause-home g c = c.generation_at-generation.ensures.home c.self.inside.home.id (rw c.as_slice.ensures.value c.self.invariant.1)
