-- What the core's theorem says of the replies that a run returns.
use Rattle.std.proofs.Common.{◌≡◌, ℕ, List, Result, Ok, Err, IfOk}
use Rattle.table_core.specs.History.{replies, placed}
use Rattle.table_core.specs.Law.{Law, IsLawful}
use Rattle.table_core.specs.Lists.{OneHistory, history}
use Rattle.table_core.specs.Machine.{empty}
use Rattle.table_core.specs.Replies.{Finished}
use Rattle.table_core.specs.declared.event.Event.{Event}
use Rattle.demo_examples.specs.Schedules.{RunsAsList}

pub runs_as_list : (l : Law) (f : ℕ) (s : List Event) (told : List Finished) → OneHistory l f s → told ≡ replies (empty f) s → IsLawful l f s → RunsAsList l told
runs_as_list l f s told theorem told_is lawful =
    let one = theorem lawful in
    record {
      history = history (empty f) s;
      last = placed (empty f) s;
      run = one.run;
      each = λ r among. one.each r (rw told_is at among);
    }

-- what follows for each value holds of an Ok
pub if_ok : {A E : Type 0} {P Q : A → Type 0} (r : Result A E) → ((a : A) → P a → Q a) → IfOk r P → IfOk r Q
if_ok (Ok a) follows holds = follows a holds
if_ok (Err e) follows holds = tt
