use Rattle.std.proofs.Common.{◌∙◌, ap, subst, sym, Some}
use Rattle.std.specs.Fn.{FnReturnsAtPair}
use Rattle.table_cell.specs.Contents.{entry_from}
use Rattle.table_cell.specs.declared.bucket.Entry.{Entry}
use Rattle.table_generations.specs.Buckets.{content_at}
use Rattle.table_core.specs.declared.call.Answer.TheVariants.{Won, MemoryRefused}
use Rattle.table_core.specs.declared.call.Phase.TheVariants.{AtEmpty}
use Rattle.table_shared.proofs.Between.{index_within}
use Rattle.table_shared.specs.Reads.{InsertPuts, PutTells}
use Rattle.table_shared.proofs.Missed.{lost_tells, refused_back, refused_same, taken_back, taken_seen}
use Rattle.table_shared.proofs.Between.{taken}
use Rattle.table_shared.proofs.table.LockFreeRawTable.put_value.Goals as goal

pub place_at-requires-clause-home : goal.place_at-requires-clause-home
place_at-requires-clause-home g c = c.requires.home ∙ sym c.home.ensures

pub place_at-requires-clause-within : goal.place_at-requires-clause-within
place_at-requires-clause-within g c = rw c.requires.walked (index_within c.args.state c.requires.stands)

pub place_at-requires-clause-of : goal.place_at-requires-clause-of
place_at-requires-clause-of g c = c.requires.of

pub step-requires : goal.step-requires
step-requires g c = record { fits = rw c.requires.phase c.requires.stands }

pub step-requires-in-Err-NoMemory : goal.step-requires-in-Err-NoMemory
step-requires-in-Err-NoMemory g c = record { fits = rw c.requires.phase c.requires.stands }

pub returns-in-Ok-clause-of : goal.returns-in-Ok-clause-of
returns-in-Ok-clause-of g c = c.place_at.ensures.of

pub returns-in-Ok-clause-puts : goal.returns-in-Ok-clause-puts
returns-in-Ok-clause-puts g c = (
  c.step.ensures.went,
  taken AtEmpty Won c.args.state c.step.result c.requires.phase c.step.ensures.decided,
  c.deref.ensures ∙ ap (λ (e : Entry g.row.T.Denot). g.T.AtomicValue.target e.value) c.in-Ok.ensures.ok.1,
)

pub returns-in-Ok-clause-tells : goal.returns-in-Ok-clause-tells
returns-in-Ok-clause-tells g c = (c.in-Ok.ensures.ok.0, c.in-Ok.ensures.first.0, c.in-Ok.ensures.first.1 ∙ ap Some (c.in-Ok.ensures.ok.1 ∙ ap (λ bits. entry_from c.args.value bits) c.bits_of_hash-bits.ensures))

pub returns-in-Err-Taken-clause-of : goal.returns-in-Err-Taken-clause-of
returns-in-Err-Taken-clause-of g c = c.place_at.ensures.of

pub meet_first-requires-clause-phase : goal.meet_first-requires-clause-phase
meet_first-requires-clause-phase g c = c.requires.phase

pub meet_first-requires-clause-stands : goal.meet_first-requires-clause-stands
meet_first-requires-clause-stands g c = c.requires.stands

pub meet_first-requires-clause-pending : goal.meet_first-requires-clause-pending
meet_first-requires-clause-pending g c = c.requires.pending

pub meet_first-requires-clause-callable : goal.meet_first-requires-clause-callable
meet_first-requires-clause-callable g c = c.requires.callable

pub returns-in-Err-Taken-clause-puts : goal.returns-in-Err-Taken-clause-puts
returns-in-Err-Taken-clause-puts g c =
    let back = taken_back (content_at c.args.generation.now.contents c.args.state.index) _ _ _ _ _ (rw c.in-Err-Taken.field-0-is at c.in-Err-Taken.ensures.missed) in
    subst (λ v. InsertPuts g.T.AtomicValue.target (FnReturnsAtPair g.E.Fn c.args.eq.now (g.T.AtomicValue.target v)) v c.args.state c.meet_first.result) back c.meet_first.ensures.puts

pub returns-in-Err-Taken-clause-tells : goal.returns-in-Err-Taken-clause-tells
returns-in-Err-Taken-clause-tells g c =
    let at = content_at c.args.generation.now.contents c.args.state.index in
    let missed = rw c.in-Err-Taken.field-0-is at c.in-Err-Taken.ensures.missed in
    let back = taken_back at _ _ _ _ _ missed in
    subst (λ v. PutTells g.T.AtomicValue.target (FnReturnsAtPair g.E.Fn c.args.eq.now (g.T.AtomicValue.target v)) v c.args.state.hash at c.args.note.now.known c.place_at.new.note.known c.meet_first.result) back
    (lost_tells g.T.AtomicValue.target (FnReturnsAtPair g.E.Fn c.args.eq.now (g.T.AtomicValue.target c.in-Err-Taken.value)) c.in-Err-Taken.value c.args.state.hash at c.args.note.now.known c.place_at.new.note.known c.in-Err-Taken.first c.meet_first.result c.meet_first.ensures.tells (taken_seen at _ _ _ _ _ missed))

pub returns-in-Err-NoMemory-clause-of : goal.returns-in-Err-NoMemory-clause-of
returns-in-Err-NoMemory-clause-of g c = c.place_at.ensures.of

pub returns-in-Err-NoMemory-clause-puts : goal.returns-in-Err-NoMemory-clause-puts
returns-in-Err-NoMemory-clause-puts g c = (
  c.step-in-Err-NoMemory.ensures.went,
  taken AtEmpty MemoryRefused c.args.state c.step-in-Err-NoMemory.result c.requires.phase c.step-in-Err-NoMemory.ensures.decided,
  refused_back (content_at c.args.generation.now.contents c.args.state.index) _ _ _ _ (rw c.in-Err-NoMemory.field-0-is at c.in-Err-NoMemory.ensures.missed),
)

pub returns-in-Err-NoMemory-clause-tells : goal.returns-in-Err-NoMemory-clause-tells
returns-in-Err-NoMemory-clause-tells g c = refused_same (content_at c.args.generation.now.contents c.args.state.index) _ _ _ _ (rw c.in-Err-NoMemory.field-0-is at c.in-Err-NoMemory.ensures.missed)
