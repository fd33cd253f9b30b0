use Rattle.std.proofs.Common.{◌≡◌, ◌+◌, length, refl}
use Rattle.std.specs.List.{flat_map}
use Rattle.std.proofs.lemmas.List.{length-append}
use Rattle.table_held.specs.Table.{entries}
use Rattle.table_shards.proofs.ShardWalks.{upper_of_exact}
use Rattle.table_shards.proofs.sharded.into_iter.IntoIterIterator.size_hint.Goals as goal

pub returns-clause-exact : goal.returns-clause-exact
returns-clause-exact g c =
    let all : c.len.result + length (flat_map entries c.as_slice.result.now) ≡ length c.args.self.now = rw (← c.self.view_is, c.as_slice.ensures, length-append, c.len.ensures.value) refl in
    rw all at c.hint_with.ensures

pub returns-clause-upper : goal.returns-clause-upper
returns-clause-upper g c =
    let all : c.len.result + length (flat_map entries c.as_slice.result.now) ≡ length c.args.self.now = rw (← c.self.view_is, c.as_slice.ensures, length-append, c.len.ensures.value) refl in
    upper_of_exact c.hint_with.result.0 c.hint_with.result.1 (length c.args.self.now) (rw all at c.hint_with.ensures)
