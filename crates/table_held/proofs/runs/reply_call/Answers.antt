use Rattle.std.specs.Fn.{FnReturnsAt, FnReturnsAtPair}
use Rattle.table_held.specs.Calls.{FnReturnsAtTwo}
use Rattle.table_held.proofs.Replies.{insert_answers, lookup_answers, len_answers}
use Rattle.table_held.proofs.runs.reply_call.Goals as goal

pub returns-in-Insert-clause-as_list : goal.returns-in-Insert-clause-as_list
returns-in-Insert-clause-as_list g c = rw c.in-Insert.is
    (insert_answers g.T.AtomicValue.target g.L.Law.same g.L.Law.hash_of g.B.AloneTable.shows (FnReturnsAtPair g.E.Fn c.args.eq.now) (FnReturnsAt g.H.Fn c.args.hash_fn.now) (FnReturnsAtTwo g.P.Fn c.args.test.now) _ _ _ _ _ c.reply_insert.ensures.as_list)

pub returns-in-Lookup-clause-as_list : goal.returns-in-Lookup-clause-as_list
returns-in-Lookup-clause-as_list g c = rw c.in-Lookup.is
    (lookup_answers g.T.AtomicValue.target g.L.Law.same g.L.Law.hash_of g.B.AloneTable.shows (FnReturnsAtPair g.E.Fn c.args.eq.now) (FnReturnsAt g.H.Fn c.args.hash_fn.now) (FnReturnsAtTwo g.P.Fn c.args.test.now) _ _ _ _ c.reply_lookup.ensures.as_list)

pub returns-in-Len-clause-as_list : goal.returns-in-Len-clause-as_list
returns-in-Len-clause-as_list g c = rw c.in-Len.is
    (len_answers g.T.AtomicValue.target g.L.Law.same g.L.Law.hash_of g.B.AloneTable.shows (FnReturnsAtPair g.E.Fn c.args.eq.now) (FnReturnsAt g.H.Fn c.args.hash_fn.now) (FnReturnsAtTwo g.P.Fn c.args.test.now) _ _ c.len_alone.ensures.as_list)
