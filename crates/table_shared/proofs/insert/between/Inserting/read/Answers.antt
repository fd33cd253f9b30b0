use Rattle.std.proofs.Common.{◌≡◌, ap, refl, subst, true}
use Rattle.std.specs.Fn.{FnReturnsAtPair}
use Rattle.table_terms.specs.Hashes.{bits_of}
use Rattle.table_core.specs.declared.call.Answer.TheVariants.{Empty}
use Rattle.table_core.specs.declared.call.Phase.TheVariants.{Probe}
use Rattle.table_shared.specs.Carried.{met_in, value_in}
use Rattle.table_shared.proofs.Alone.{accepted_given, at_empty, passed_given}
use Rattle.table_shared.proofs.Between.{carries, finds_empty, holds_value, passes_probed, taken, within}
use Rattle.table_shared.proofs.Stepping.{carries_on}
use Rattle.table_shared.proofs.Takes.{accepts_entry}
use Rattle.table_shared.proofs.insert.between.Inserting.read.Goals as goal

pub unreachable-requires : goal.unreachable-requires
unreachable-requires g c = c.args.self.now.between.walks (rw c.requires.phase tt) c.in_default.is

pub unreachable-requires-in_default-carried : goal.unreachable-requires-in_default-carried
unreachable-requires-in_default-carried g c =
    let holds = holds_value c.args.self.now.between (rw c.requires.phase tt) in
    c.in_default-carried.not-Value holds.0 holds.1

pub note_at-note-requires : goal.note_at-note-requires
note_at-note-requires g c = within c.args.self.now.between c.in-Some.generation c.in-Some.is (rw c.requires.phase tt)

pub read_bucket-requires : goal.read_bucket-requires
read_bucket-requires g c =
    let b = c.args.self.now.between in
    record {
      phase = rw c.requires.phase tt;
      stands = b.stands (rw c.requires.phase tt);
      home = b.homes c.in-Some.generation c.in-Some.is;
      walked = b.counts c.in-Some.generation c.in-Some.is;
      callable = c.requires.callable;
      of = c.note_at-note.ensures.0;
    }

pub invariant_of-self : goal.invariant_of-self
invariant_of-self g c = record { between = finds_empty c.args.self.now.between c.in-Empty.next c.requires.phase (taken Probe Empty c.args.self.now.state c.in-Empty.next c.requires.phase c.in-Empty.ensures.reads.is) }

pub pass-requires : goal.pass-requires
pass-requires g c =
    let i = c.args.self.now in
    record {
      phase = rw c.requires.phase tt;
      went = c.in-Passed.ensures.reads.went;
      passing = passes_probed i.between c.in-Passed.next c.in-Passed.asked c.requires.phase c.in-Passed.ensures.reads;
    }

pub keep-requires : goal.keep-requires
keep-requires g c =
    let i = c.args.self.now in
    let given : c.in-Value.value ≡ i.asking.given.value = i.between.stems c.in-Value.value (ap value_in c.in-Value.is) in
    record {
      phase = rw c.requires.phase tt;
      went = c.in-Met.ensures.reads.0.went;
      found = accepts_entry i.state c.in-Met.next (rw c.requires.phase tt) c.in-Met.ensures.reads.0;
      accepted = subst (λ x. FnReturnsAtPair g.E.Fn i.asking.eq (g.T.AtomicValue.target x) c.in-Met.target.now true) given c.in-Met.ensures.reads.1;
    }

pub returns-in-Empty-clause-steps : goal.returns-in-Empty-clause-steps
returns-in-Empty-clause-steps g c = carries_on g.E.Fn _ _ _ c.in-Empty.ensures.reads.went (carries c.args.self.now.between Probe c.requires.phase refl) refl refl

pub returns-in-Empty-clause-alone : goal.returns-in-Empty-clause-alone
returns-in-Empty-clause-alone g c = at_empty c.args.self.now.generation c.in-Some.generation c.args.self.now.state.index c.in-Some.is _ _ _ c.in-Empty.ensures.seen

pub returns-in-Passed-clause-alone : goal.returns-in-Passed-clause-alone
returns-in-Passed-clause-alone g c =
    let i = c.args.self.now in
    rw c.pass.ensures.answer (passed_given i.generation c.in-Some.generation i.state.index c.in-Some.is g.T.AtomicValue.target g.E.Fn i.asking.eq c.in-Value.value i.asking.given.value (i.between.stems c.in-Value.value (ap value_in c.in-Value.is)) (bits_of i.state.hash) _ _ c.in-Passed.asked (met_in c.pass.new.self.carried) c.in-Passed.ensures.seen)

pub returns-in-Met-clause-alone : goal.returns-in-Met-clause-alone
returns-in-Met-clause-alone g c =
    let i = c.args.self.now in
    rw (c.keep.ensures.answer, c.keep.ensures.kept) (accepted_given i.generation c.in-Some.generation i.state.index c.in-Some.is g.T.AtomicValue.target g.E.Fn i.asking.eq c.in-Value.value i.asking.given.value (i.between.stems c.in-Value.value (ap value_in c.in-Value.is)) (bits_of i.state.hash) _ _ c.in-Met.target c.in-Met.ensures.seen)
