use Rattle.table_core.proofs.Invariant.{inv, values_stay, kept_is_placed, placed_grows, few_buckets}
use Rattle.table_core.proofs.OwnAnswers.{own_answers}
use Rattle.table_core.proofs.ToldOnce.{told_once}
use Rattle.table_core.proofs.ToldAtEnd.{told_at_end}
use Rattle.table_core.proofs.Refusals.{refusal_causes}
use Rattle.table_core.proofs.Lengths.{lengths_between}
use Rattle.table_core.proofs.Counted.{placed_are_counted}
use Rattle.table_core.proofs.Walks.{walks_whole}
use Rattle.table_core.proofs.FewReads.{lookups_read_few}
use Rattle.table_core.proofs.FewLoads.{loads_once}
use Rattle.table_core.specs.Machine.{after}
use Rattle.table_core.proofs.Turns.{slot}
use Rattle.table_core.proofs.Contents.{nothing_built}
use Rattle.table_core.proofs.theorems.schedules_keep_values.Goals as goal

pub returns-clause-values_stay : goal.returns-clause-values_stay
returns-clause-values_stay c = values_stay

pub returns-clause-kept_is_placed : goal.returns-clause-kept_is_placed
returns-clause-kept_is_placed c = kept_is_placed

pub returns-clause-placed_grows : goal.returns-clause-placed_grows
returns-clause-placed_grows c = placed_grows

pub returns-clause-few_buckets : goal.returns-clause-few_buckets
returns-clause-few_buckets c = few_buckets

pub returns-clause-grows_alone : goal.returns-clause-grows_alone
returns-clause-grows_alone k f s n c first m h = let i = slot n (after f s).calls c m in nothing_built (after f s) (inv f first s).locked i.at c i.there h

pub returns-clause-own_answers : goal.returns-clause-own_answers
returns-clause-own_answers c f s x r first = own_answers f (inv f first) s x r

pub returns-clause-told_once : goal.returns-clause-told_once
returns-clause-told_once c = told_once

pub returns-clause-told_at_end : goal.returns-clause-told_at_end
returns-clause-told_at_end c = told_at_end

pub returns-clause-refusal_causes : goal.returns-clause-refusal_causes
returns-clause-refusal_causes c f s x n v first = refusal_causes f (inv f first) s x n v

pub returns-clause-lengths_between : goal.returns-clause-lengths_between
returns-clause-lengths_between c f s x n k first = lengths_between f (inv f first) s x n k

pub returns-clause-placed_are_counted : goal.returns-clause-placed_are_counted
returns-clause-placed_are_counted c f s first = placed_are_counted f s

pub returns-clause-walks_whole : goal.returns-clause-walks_whole
returns-clause-walks_whole c f s x n list first = walks_whole f (inv f first) s x n list

pub returns-clause-lookups_read_few : goal.returns-clause-lookups_read_few
returns-clause-lookups_read_few c f s n h more first = lookups_read_few f (inv f first) s n h more

pub returns-clause-loads_once : goal.returns-clause-loads_once
returns-clause-loads_once c f s n g first = loads_once f (inv f first) s n g
