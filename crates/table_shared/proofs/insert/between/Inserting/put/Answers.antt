use Rattle.std.proofs.Common.{◌≡◌, ◌∙◌, ap, refl, subst, sym, true}
use Rattle.std.specs.Fn.{FnReturnsAtPair}
use Rattle.table_terms.specs.Hashes.{bits_of}
use Rattle.table_shared.specs.declared.insert.between.Carried.TheVariants.{Value}
use Rattle.table_shared.specs.Carried.{met_in, value_in}
use Rattle.table_shared.proofs.Alone.{accepted_given, at_vacant, passed_given}
use Rattle.table_shared.proofs.Between.{has_back, holds_value, loses, wins, within}
use Rattle.table_shared.proofs.Stepping.{steps_again, steps_unmet}
use Rattle.table_shared.proofs.insert.between.Inserting.put.Goals as goal

pub unreachable-requires : goal.unreachable-requires
unreachable-requires g c = c.args.self.now.between.walks (rw c.requires.phase tt) c.in_default.is

pub unreachable-requires-in_default-replace : goal.unreachable-requires-in_default-replace
unreachable-requires-in_default-replace g c =
    let holds = holds_value c.args.self.now.between (rw c.requires.phase tt) in
    c.in_default-replace.not-Value holds.0 (c.replace.ensures.value ∙ holds.1)

pub note_at-note-requires : goal.note_at-note-requires
note_at-note-requires g c = within c.args.self.now.between c.in-Some.generation c.in-Some.is (rw c.requires.phase tt)

pub put_value-requires : goal.put_value-requires
put_value-requires g c =
    let b = c.args.self.now.between in
    record {
      phase = c.requires.phase;
      stands = b.stands (rw c.requires.phase tt);
      pending = b.hopes (rw c.requires.phase tt);
      home = b.homes c.in-Some.generation c.in-Some.is;
      walked = b.counts c.in-Some.generation c.in-Some.is;
      callable = c.requires.callable;
      of = c.note_at-note.ensures.0;
    }

pub invariant_of-self : goal.invariant_of-self
invariant_of-self g c =
    let b = c.args.self.now.between in
    let given = b.stems c.in-Value.value (ap value_in (sym c.in-Value.ensures.value)) in
    record { between = wins b c.in-Won.next c.in-Won.target c.requires.phase c.in-Won.ensures.puts.1 (c.in-Won.ensures.puts.2 ∙ ap g.T.AtomicValue.target given) }

pub invariant_of-self-in-Refused : goal.invariant_of-self-in-Refused
invariant_of-self-in-Refused g c =
    let b = c.args.self.now.between in
    let given = b.stems c.in-Value.value (ap value_in (sym c.in-Value.ensures.value)) in
    record { between = has_back b c.in-Refused.next c.in-Refused.value c.requires.phase c.in-Refused.ensures.puts.1 (c.in-Refused.ensures.puts.2 ∙ given) }

pub invariant_of-self-in-Passed : goal.invariant_of-self-in-Passed
invariant_of-self-in-Passed g c =
    let b = c.args.self.now.between in
    let given = b.stems c.in-Value.value (ap value_in (sym c.in-Value.ensures.value)) in
    record { between = loses b c.in-Passed.value c.requires.phase (c.in-Passed.ensures.puts.2 ∙ given) }

pub invariant_of-self-in-Met : goal.invariant_of-self-in-Met
invariant_of-self-in-Met g c =
    let b = c.args.self.now.between in
    let given = b.stems c.in-Value.value (ap value_in (sym c.in-Value.ensures.value)) in
    record { between = loses b c.in-Met.value c.requires.phase (c.in-Met.ensures.puts.2 ∙ given) }

pub pass-requires : goal.pass-requires
pass-requires g c = record { phase = rw c.requires.phase tt; went = c.in-Passed.ensures.puts.0; passing = c.in-Passed.ensures.puts.1 }

pub keep-requires : goal.keep-requires
keep-requires g c =
    let i = c.args.self.now in
    let given : c.in-Value.value ≡ i.asking.given.value = i.between.stems c.in-Value.value (ap value_in (sym c.in-Value.ensures.value)) in
    record {
      phase = rw c.requires.phase tt;
      went = c.in-Met.ensures.puts.0;
      found = c.in-Met.ensures.puts.1;
      accepted = subst (λ x. FnReturnsAtPair g.E.Fn i.asking.eq (g.T.AtomicValue.target x) c.in-Met.target.now true) given c.in-Met.ensures.puts.3;
    }

pub returns-in-Won-clause-steps : goal.returns-in-Won-clause-steps
returns-in-Won-clause-steps g c = steps_unmet g.E.Fn _ _ _ c.in-Won.ensures.puts.0 (λ e. absurd (cc)) refl (ap met_in (sym c.in-Value.ensures.value)) tt

pub returns-in-Won-clause-alone : goal.returns-in-Won-clause-alone
returns-in-Won-clause-alone g c = λ _. at_vacant c.args.self.now.generation c.in-Some.generation c.args.self.now.state.index c.in-Some.is _ c.in-Won.ensures.tells.0

pub returns-in-Refused-clause-steps : goal.returns-in-Refused-clause-steps
returns-in-Refused-clause-steps g c = steps_unmet g.E.Fn _ _ _ c.in-Refused.ensures.puts.0 (λ e. absurd (cc)) refl (ap met_in (sym c.in-Value.ensures.value)) tt

pub returns-in-Refused-clause-alone : goal.returns-in-Refused-clause-alone
returns-in-Refused-clause-alone g c = λ no. absurd (no refl)

pub returns-in-Passed-clause-steps : goal.returns-in-Passed-clause-steps
returns-in-Passed-clause-steps g c = steps_again g.E.Fn c.args.self.now _ _ _ refl refl (ap (λ v. Value v) c.in-Passed.ensures.puts.2 ∙ c.in-Value.ensures.value) c.pass.ensures.steps

pub returns-in-Passed-clause-alone : goal.returns-in-Passed-clause-alone
returns-in-Passed-clause-alone g c =
    let i = c.args.self.now in
    λ _. rw c.pass.ensures.answer (passed_given i.generation c.in-Some.generation i.state.index c.in-Some.is g.T.AtomicValue.target g.E.Fn i.asking.eq c.in-Value.value i.asking.given.value (i.between.stems c.in-Value.value (ap value_in (sym c.in-Value.ensures.value))) (bits_of i.state.hash) _ _ c.in-Passed.asked (met_in c.pass.new.self.carried) c.in-Passed.ensures.tells)

pub returns-in-Met-clause-steps : goal.returns-in-Met-clause-steps
returns-in-Met-clause-steps g c = steps_again g.E.Fn c.args.self.now _ _ _ refl refl (ap (λ v. Value v) c.in-Met.ensures.puts.2 ∙ c.in-Value.ensures.value) c.keep.ensures.steps

pub returns-in-Met-clause-alone : goal.returns-in-Met-clause-alone
returns-in-Met-clause-alone g c =
    let i = c.args.self.now in
    λ _. rw (c.keep.ensures.answer, c.keep.ensures.kept) (accepted_given i.generation c.in-Some.generation i.state.index c.in-Some.is g.T.AtomicValue.target g.E.Fn i.asking.eq c.in-Value.value i.asking.given.value (i.between.stems c.in-Value.value (ap value_in (sym c.in-Value.ensures.value))) (bits_of i.state.hash) _ _ c.in-Met.target c.in-Met.ensures.tells)
