use Rattle.std.proofs.Common.{subst}
use Rattle.table_cell.specs.Contents.{Reads}
use Rattle.table_cell.proofs.Marks.{reads}
use Rattle.table_cell.proofs.bucket.BucketRef.mark.Goals as goal

pub returns : goal.returns
returns g c = subst (λ b. Reads b.content c.self.inside.mark) c.self.view_is (reads c.self.inside.mark c.self.inside.word.now c.self.invariant)
