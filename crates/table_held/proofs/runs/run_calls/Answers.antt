use Rattle.std.proofs.Common.{length, rules, arith, refl, sym, ap, ◌∙◌}
use Rattle.std.proofs.lemmas.Grind.{common_steps}
use Rattle.std.specs.Fn.{FnReturnsAt, FnReturnsAtPair}
use Rattle.std.proofs.lemmas.List.Sorted.{IsPermutation-refl}
use Rattle.std.proofs.lemmas.Iterator.Adapters.{YieldsList-from_vec}
use Rattle.std.proofs.lemmas.Iterator.Consumers.{YieldsList-end}
use Rattle.table_held.specs.Calls.{FnReturnsAtTwo}
use Rattle.table_held.proofs.Again.{later_reflexive, later_transitive}
use Rattle.table_held.proofs.CallRuns.{keeps_more, map_same, unchanged_more, lawful_more, answers_more, answers_none}
use Rattle.table_held.proofs.runs.run_calls.Goals as goal

pub loop-call-init : goal.loop-call-init
loop-call-init g c = (
  record {
    keeps = rw c.in-Ok.ensures.items (IsPermutation-refl _);
    later = later_reflexive g.B.AloneTable.shows _;
    counted = c.len_alone.ensures.counted;
    unchanged = λ asks. refl;
    lawful = λ lawful inserts. lawful;
    answers = rw c.in-Ok.ensures.items (answers_none g.T.AtomicValue.target g.L.Law.same g.L.Law.hash_of g.B.AloneTable.shows (FnReturnsAtPair g.E.Fn c.args.eq) (FnReturnsAt g.H.Fn c.args.hash_fn) (FnReturnsAtTwo g.P.Fn c.args.test) _);
  },
  search rules,
  grind (arith, common_steps),
)

pub loop-call-preserved : goal.loop-call-preserved
loop-call-preserved g c = (
  record {
    keeps = rw c.push_reserved.ensures.items (keeps_more _ _ _ c.loop-call.yielded c.loop-call.replies.items c.in-Some.call c.reply_call-reply.result c.loop-call.invariant.0.keeps c.reply_call-reply.ensures.keeps);
    later = later_transitive g.B.AloneTable.shows _ _ _ c.loop-call.invariant.0.later c.reply_call-reply.ensures.later;
    counted = c.reply_call-reply.ensures.counted c.loop-call.invariant.0.counted;
    unchanged = unchanged_more _ _ _ c.loop-call.yielded c.in-Some.call c.loop-call.invariant.0.unchanged c.reply_call-reply.ensures.unchanged;
    lawful = lawful_more g.T.AtomicValue.target g.L.Law.same g.L.Law.hash_of g.B.AloneTable.shows (FnReturnsAtPair g.E.Fn c.args.eq) (FnReturnsAt g.H.Fn c.args.hash_fn) _ _ _ c.loop-call.yielded c.loop-call.replies.items c.in-Some.call c.loop-call.invariant.0.keeps c.loop-call.invariant.0.lawful c.reply_call-reply.ensures.lawful;
    answers = rw c.push_reserved.ensures.items (answers_more g.T.AtomicValue.target g.L.Law.same g.L.Law.hash_of g.B.AloneTable.shows (FnReturnsAtPair g.E.Fn c.args.eq) (FnReturnsAt g.H.Fn c.args.hash_fn) (FnReturnsAtTwo g.P.Fn c.args.test) _ _ _ c.loop-call.yielded c.loop-call.replies.items c.in-Some.call c.reply_call-reply.result c.loop-call.invariant.0.keeps c.loop-call.invariant.0.answers c.reply_call-reply.ensures.as_list);
  },
  grind (arith, common_steps),
  grind (arith, common_steps),
)

-- in the end the calls so far are all calls
pub returns : goal.returns
returns g c =
    let all = YieldsList-end (YieldsList-from_vec {s = c.into_iter-call-iterator.result} c.args.calls.items c.into_iter-call-iterator.ensures.into_iter_gives.0 (c.into_iter-call-iterator.ensures.into_iter_gives.1 ∙ c.args.calls.ok.0)) c.loop-call.yielded c.loop-call.call-iterator c.loop-call.yielded_by c.next.result c.next.new.self c.in-None.is c.next.ensures.steps in
    let taken = sym (map_same c.loop-call.yielded) ∙ all.0 in
    record {
      keeps = rw (← taken) c.loop-call.invariant.0.keeps;
      later = c.loop-call.invariant.0.later;
      counted = c.loop-call.invariant.0.counted;
      unchanged = rw (← taken) c.loop-call.invariant.0.unchanged;
      each = omega (arith, ap length taken);
      refused = tt;
      of_none = λ none. search rules;
      lawful = rw (← taken) c.loop-call.invariant.0.lawful;
      as_list = rw (← taken) c.loop-call.invariant.0.answers;
    }
