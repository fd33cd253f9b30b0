use Rattle.std.proofs.Common.{length, ap, ◌∙◌}
use Rattle.table_cell.specs.Rows.{buckets_of}
use Rattle.table_cell.specs.Rehomed.{AreMovedBelow}
use Rattle.table_cell.proofs.Rehomed.{all_lie, all_keep, all_unnamed, buckets_lie, words_lie, contents-buckets, length-buckets}
use Rattle.table_cell.proofs.row.Row.rehomed.Goals as goal

pub rehome_buckets-requires-clause-lies : goal.rehome_buckets-requires-clause-lies
rehome_buckets-requires-clause-lies g c = rw (← (ap (λ r. r.home) c.self.view_is ∙ c.requires)) (buckets_lie c.self.inside.origin.home c.self.inside.alloc c.self.inside.marks.items c.self.inside.words.items c.self.invariant.marked c.self.invariant.lies)

pub invariant_of-result : goal.invariant_of-result
invariant_of-result g c =
    let long = length-buckets c.self.inside.marks.items c.self.inside.words.items c.self.invariant.marked in
    let moved : AreMovedBelow c.args.home.now.id c.self.inside.alloc (length (buckets_of c.self.inside.marks.items c.self.inside.words.items)) (buckets_of c.self.inside.marks.items c.self.inside.words.items) _ = rw long c.rehome_buckets.ensures.moved in
    record {
      marked = c.rehome_buckets.ensures.marked;
      lies = rw c.new.ensures.1 (words_lie c.args.home.now.id c.self.inside.alloc c.rehome_buckets.new.marks.items c.rehome_buckets.new.words.items c.rehome_buckets.ensures.marked
          (all_lie c.args.home.now.id c.self.inside.alloc (buckets_of c.self.inside.marks.items c.self.inside.words.items) _ moved));
    }

pub returns-clause-own : goal.returns-clause-own
returns-clause-own g c =
    let long = length-buckets c.self.inside.marks.items c.self.inside.words.items c.self.invariant.marked in
    let moved : AreMovedBelow c.args.home.now.id c.self.inside.alloc (length (buckets_of c.self.inside.marks.items c.self.inside.words.items)) (buckets_of c.self.inside.marks.items c.self.inside.words.items) _ = rw long c.rehome_buckets.ensures.moved in
    rw (← c.self.view_is, ← contents-buckets c.self.inside.marks.items c.self.inside.words.items, ← contents-buckets c.rehome_buckets.new.marks.items c.rehome_buckets.new.words.items)
    (all_keep c.args.home.now.id c.self.inside.alloc (buckets_of c.self.inside.marks.items c.self.inside.words.items) _ moved)

pub returns-clause-unnamed : goal.returns-clause-unnamed
returns-clause-unnamed g c =
    let long = length-buckets c.self.inside.marks.items c.self.inside.words.items c.self.invariant.marked in
    let moved : AreMovedBelow c.args.home.now.id c.self.inside.alloc (length (buckets_of c.self.inside.marks.items c.self.inside.words.items)) (buckets_of c.self.inside.marks.items c.self.inside.words.items) _ = rw long c.rehome_buckets.ensures.moved in
    rw (← contents-buckets c.rehome_buckets.new.marks.items c.rehome_buckets.new.words.items)
    (all_unnamed c.args.home.now.id c.self.inside.alloc (buckets_of c.self.inside.marks.items c.self.inside.words.items) _ moved)
