use Rattle.shared_set.proofs.Sharing.{knows_in_order, part_in_order}
use Rattle.shared_set.proofs.share.HeldSetShare.share.Goals as goal

pub returns-in-Ok-move_into-clause-known : goal.returns-in-Ok-move_into-clause-known
returns-in-Ok-move_into-clause-known g c =
    knows_in_order c.args.self c.into_iter.result c.in-Ok-move_into.shared c.into_iter.ensures.into_iter_gives c.in-Ok-move_into.ensures.known

pub returns-in-Err-move_into-clause-kept : goal.returns-in-Err-move_into-clause-kept
returns-in-Err-move_into-clause-kept g c =
    part_in_order c.args.self c.into_iter.result c.in-Err-move_into.partly c.into_iter.ensures.into_iter_gives c.in-Err-move_into.ensures.kept
