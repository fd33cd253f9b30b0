use Rattle.std.proofs.Common.{refl, ap}
use Rattle.std.specs.Prelude.{decimal}
use Rattle.tool_commands.specs.Replies.{insertion_text, lookup_text, number_list}
use Rattle.tool_commands.proofs.Replied.{on_ok}
use Rattle.tool_commands.proofs.calls.PairTableLineCommand.take.Goals as goal

pub returns-in-Insert-clause-answered : goal.returns-in-Insert-clause-answered
returns-in-Insert-clause-answered g c = rw c.in-Insert.is (on_ok c.write_reply.result _ _ (λ wrote.
    (insertion_text c.insert-how.result, (λ ps held. let told = c.insert-how.ensures.inserts ps held in (told.0, (c.insert-how.result, told.1, refl), told.2)), wrote)) c.write_reply.ensures.written)

pub returns-in-Lookup-clause-answered : goal.returns-in-Lookup-clause-answered
returns-in-Lookup-clause-answered g c = rw c.in-Lookup.is (on_ok c.write_reply-in-Lookup.result _ _ (λ wrote.
    (lookup_text c.lookup-found.result, (λ ps held. (ps, (c.lookup-found.result, c.lookup-found.ensures ps held, refl, refl), held)), wrote)) c.write_reply-in-Lookup.ensures.written)

pub returns-in-Length-clause-answered : goal.returns-in-Length-clause-answered
returns-in-Length-clause-answered g c = rw c.in-Length.is (on_ok c.write_reply-in-Length.result _ _ (λ wrote.
    (decimal c.length.result, (λ ps held. (ps, (ap decimal (c.length.ensures ps held), refl), held)), wrote)) c.write_reply-in-Length.ensures.written)

pub returns-in-Capacity-clause-answered : goal.returns-in-Capacity-clause-answered
returns-in-Capacity-clause-answered g c = rw c.in-Capacity.is (on_ok c.write_reply-in-Capacity.result _ _ (λ wrote.
    (decimal c.capacity.result, (λ ps held. (ps, (ap decimal c.capacity.ensures.current, refl), held)), wrote)) c.write_reply-in-Capacity.ensures.written)

pub returns-in-Buckets-clause-answered : goal.returns-in-Buckets-clause-answered
returns-in-Buckets-clause-answered g c = rw c.in-Buckets.is (on_ok c.write_reply-in-Buckets.result _ _ (λ wrote.
    (decimal c.buckets.result, (λ ps held. (ps, (ap decimal c.buckets.ensures.all, refl), held)), wrote)) c.write_reply-in-Buckets.ensures.written)

pub returns-in-Ok-clause-answered : goal.returns-in-Ok-clause-answered
returns-in-Ok-clause-answered g c = rw c.in-Walk.is (on_ok c.write_reply-in-Ok.result _ _ (λ wrote.
    (number_list c.in-Ok.numbers.items, (λ ps held. (ps, (c.in-Ok.numbers.items, c.in-Ok.ensures ps held, refl, refl), held)), (rw c.as_slice.ensures.value at wrote))) c.write_reply-in-Ok.ensures.written)
