use Rattle.table_core.proofs.Invariant.{inv}
use Rattle.table_core.proofs.OwnAnswers.{own_answers}
use Rattle.table_core.proofs.Right.{right}
use Rattle.table_core.proofs.OneHistory.{one_history, in_order}
use Rattle.table_core.proofs.Lawful.{placed_apart}
use Rattle.table_core.proofs.Classes.{none_refused_in_vain, classes, same_classes}
use Rattle.table_core.proofs.theorems.schedules_are_lists.Goals as goal

pub returns-clause-right : goal.returns-clause-right
returns-clause-right c l f s x r first lawful ends reply = ((own_answers f (inv f first) s x r ends).own, right l f s x r first lawful ends reply)

pub returns-clause-placed_apart : goal.returns-clause-placed_apart
returns-clause-placed_apart c = placed_apart

pub returns-clause-none_refused_in_vain : goal.returns-clause-none_refused_in_vain
returns-clause-none_refused_in_vain c = none_refused_in_vain

pub returns-clause-classes : goal.returns-clause-classes
returns-clause-classes c = classes

pub returns-clause-same_classes : goal.returns-clause-same_classes
returns-clause-same_classes c = same_classes

pub returns-clause-one_history : goal.returns-clause-one_history
returns-clause-one_history c = one_history

pub returns-clause-in_order : goal.returns-clause-in_order
returns-clause-in_order c = in_order
