use Rattle.std.specs.Fn.{FnReturnsAt, FnReturnsAtPair}
use Rattle.table_held.specs.Shown.{value_of}
use Rattle.table_held.proofs.Replies.{found_keeps, refused_keeps, placed_replies, found_replies, refused_replies}
use Rattle.table_held.proofs.runs.reply_insert.Goals as goal

pub returns-in-None-clause-as_list : goal.returns-in-None-clause-as_list
returns-in-None-clause-as_list g c =
    placed_replies g.T.AtomicValue.target g.L.Law.same g.L.Law.hash_of g.B.AloneTable.shows (FnReturnsAtPair g.E.Fn c.args.eq.now) (FnReturnsAt g.H.Fn c.args.hash_fn.now) _ _ _ _ _ _
    c.target_at-shown.ensures (rw c.in-None.is at c.in-Ok.ensures.lawful) (rw c.in-None.is at c.in-Ok.ensures.as_list)

pub returns-in-Some-clause-keeps : goal.returns-in-Some-clause-keeps
returns-in-Some-clause-keeps g c = found_keeps g.T.AtomicValue.target (FnReturnsAtPair g.E.Fn c.args.eq.now (g.T.AtomicValue.target c.args.value)) (value_of g.B.AloneTable.shows c.place_alone.new.self) _ _ _ _ c.in-Some.value (rw c.in-Some.is at c.in-Ok.ensures.keeps)

pub returns-in-Some-clause-as_list : goal.returns-in-Some-clause-as_list
returns-in-Some-clause-as_list g c =
    found_replies g.T.AtomicValue.target g.L.Law.same g.L.Law.hash_of g.B.AloneTable.shows (FnReturnsAtPair g.E.Fn c.args.eq.now) (FnReturnsAt g.H.Fn c.args.hash_fn.now) _ _ _ _ _ _ c.in-Some.value
    c.target_at-shown.ensures (rw c.in-Some.is at c.in-Ok.ensures.lawful) (rw c.in-Some.is at c.in-Ok.ensures.as_list)

pub returns-in-Err-clause-keeps : goal.returns-in-Err-clause-keeps
returns-in-Err-clause-keeps g c = refused_keeps g.T.AtomicValue.target (FnReturnsAtPair g.E.Fn c.args.eq.now (g.T.AtomicValue.target c.args.value)) (value_of g.B.AloneTable.shows c.place_alone.new.self) _ _ _ c.in-Err.value c.in-Err.ensures.keeps

pub returns-in-Err-clause-as_list : goal.returns-in-Err-clause-as_list
returns-in-Err-clause-as_list g c =
    refused_replies g.T.AtomicValue.target g.L.Law.same g.L.Law.hash_of g.B.AloneTable.shows (FnReturnsAtPair g.E.Fn c.args.eq.now) (FnReturnsAt g.H.Fn c.args.hash_fn.now) _ _ _ _ c.in-Err.value
    c.in-Err.ensures.lawful c.in-Err.ensures.as_list
