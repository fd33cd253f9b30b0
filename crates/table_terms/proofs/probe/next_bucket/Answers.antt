use Rattle.table_terms.proofs.Masks.{mask-next}
use Rattle.table_terms.proofs.probe.next_bucket.Goals as goal

pub returns-clause-next : goal.returns-clause-next
returns-clause-next c = mask-next c.args.capacity c.args.bucket c.requires.power
