-- That what the calls of a schedule were told is what a list answers.
use Rattle.std.specs.Prelude.{◌≡◌, ℕ, true, List, [], map, Contains}
use Rattle.table_terms.specs.ListObject.{IsListRun}
use Rattle.table_core.specs.Law.{Law}
use Rattle.table_core.specs.Lists.{asked, is_list_reply}
use Rattle.table_core.specs.Replies.{Finished}

-- these calls, in some order, are one run of a growing list, which answers what they were told:
-- each insert and each look-up of them is in it
pub record RunsAsList (l : Law) (told : List Finished) : Type 0 where
  pub history : List Finished
  pub last : List ℕ
  pub run : IsListRun l.equal [] (map (asked l) history) (map (λ r. r.reply) history) last
  pub each : (r : Finished) → Contains told r → is_list_reply r.reply ≡ true → Contains history r
