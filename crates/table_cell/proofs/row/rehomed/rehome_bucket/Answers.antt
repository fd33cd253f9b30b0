use Rattle.std.proofs.Common.{◌<◌, ◌∙◌, length, arith, ap}
use Rattle.table_cell.specs.Contents.{bucket_of}
use Rattle.table_cell.specs.Rows.{buckets_of}
use Rattle.table_cell.proofs.Rows.{length-marks, length-words, marked_at, marked_set}
use Rattle.table_cell.proofs.Rehomed.{bucket_set, bucket_read, length-buckets, rehomes_at}
use Rattle.table_cell.proofs.row.rehomed.rehome_bucket.Goals as goal

pub index_mut-place-requires : goal.index_mut-place-requires
index_mut-place-requires g c =
    let marks = length-marks c.args.marks.now.items c.args.words.now.items c.requires.marked in
    let words = length-words c.args.marks.now.items c.args.words.now.items c.requires.marked in
    omega (arith, marks, words)

pub invariant_of-old : goal.invariant_of-old
invariant_of-old g c =
    marked_at c.args.marks.now.items c.args.words.now.items c.args.index c.index.result.now c.replace.result c.requires.marked c.requires.within c.index.ensures (rw c.replace.ensures.value c.index_mut-place.ensures.value)

pub rehomed-requires : goal.rehomed-requires
rehomed-requires g c =
    let read = bucket_read c.args.marks.now.items c.args.words.now.items c.args.index c.index.result.now c.replace.result c.requires.marked c.requires.within c.index.ensures (rw c.replace.ensures.value c.index_mut-place.ensures.value) in
    let lies = c.requires.lies (bucket_of c.index.result.now c.replace.result) in
    record { lies = (ap (λ b. b.home) read ∙ lies.0, ap (λ b. b.from) read ∙ lies.1); of = c.note-note.ensures.0 ∙ ap (λ b. b.id) c.as_ref.ensures }

pub returns-clause-marked : goal.returns-clause-marked
returns-clause-marked g c = marked_set c.args.marks.now.items c.args.words.now.items c.args.index c.mark.inside.mark c.mark.inside.word c.requires.marked c.mark.invariant

pub returns-clause-moved : goal.returns-clause-moved
returns-clause-moved g c =
    let read = bucket_read c.args.marks.now.items c.args.words.now.items c.args.index c.index.result.now c.replace.result c.requires.marked c.requires.within c.index.ensures (rw c.replace.ensures.value c.index_mut-place.ensures.value) in
    let within : c.args.index < length (buckets_of c.args.marks.now.items c.args.words.now.items) = rw (length-buckets c.args.marks.now.items c.args.words.now.items c.requires.marked) c.requires.within in
    rw (bucket_set c.args.marks.now.items c.args.words.now.items c.args.index c.mark.inside.mark c.mark.inside.word c.requires.marked, c.mark.view_is)
    (rehomes_at c.args.home.now.id c.args.alloc c.args.index _ _ c.rehomed.result within read c.rehomed.ensures.lies c.rehomed.ensures.own c.rehomed.ensures.unnamed)
