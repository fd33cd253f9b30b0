use Rattle.std.proofs.Common.{◌<◌, length, arith}
use Rattle.table_cell.specs.Rows.{buckets_of}
use Rattle.table_cell.proofs.Rehomed.{length-buckets, one_moved}
use Rattle.table_cell.proofs.row.rehomed.rehome_buckets.Goals as goal

pub rehome_bucket-requires-clause-within : goal.rehome_bucket-requires-clause-within
rehome_bucket-requires-clause-within g c =
    let (marked, below) = c.loop-index.invariant in
    let now = length-buckets c.loop-index.marks.items c.loop-index.words.items marked in
    let was = length-buckets c.args.marks.now.items c.args.words.now.items c.requires.marked in
    let long = below.long in
    omega (arith, now, was, long)

pub rehome_bucket-requires-clause-lies : goal.rehome_bucket-requires-clause-lies
rehome_bucket-requires-clause-lies g c d =
    let (marked, below) = c.loop-index.invariant in
    let was = length-buckets c.args.marks.now.items c.args.words.now.items c.requires.marked in
    let within : c.loop-index.index < length (buckets_of c.args.marks.now.items c.args.words.now.items) = omega (arith, was) in
    rw (below.left c.loop-index.index d (omega arith)) (c.requires.lies c.loop-index.index d within)

pub loop-index-preserved : goal.loop-index-preserved
loop-index-preserved g c =
    let (marked, below) = c.loop-index.invariant in
    let was = length-buckets c.args.marks.now.items c.args.words.now.items c.requires.marked in
    let within : c.loop-index.index < length (buckets_of c.args.marks.now.items c.args.words.now.items) = omega (arith, was) in (
      c.rehome_bucket.ensures.marked,
      one_moved c.args.home.now.id c.args.alloc c.loop-index.index (buckets_of c.args.marks.now.items c.args.words.now.items) _ _ within below c.rehome_bucket.ensures.moved,
    )
