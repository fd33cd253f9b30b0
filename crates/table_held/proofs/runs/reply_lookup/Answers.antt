use Rattle.std.proofs.Common.{rules}
use Rattle.table_held.proofs.Replies.{some_replies, none_replies}
use Rattle.table_held.proofs.runs.reply_lookup.Goals as goal

pub returns-in-Some-clause-as_list : goal.returns-in-Some-clause-as_list
returns-in-Some-clause-as_list g c =
    some_replies _ _ _ _ _ _ (λ x r s. record { first = c.args.key; second = s.shown; shows = (search rules, s.shows); says = record { met = search rules } }) _ _ _ c.in-Some.ensures.as_list

pub returns-in-None-clause-as_list : goal.returns-in-None-clause-as_list
returns-in-None-clause-as_list g c =
    none_replies _ _ _ _ _ _ (λ x r s. record { first = c.args.key; second = s.shown; shows = (search rules, s.shows); says = record { met = search rules } }) _ _ c.in-None.ensures.as_list
