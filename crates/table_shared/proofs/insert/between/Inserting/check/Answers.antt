use Rattle.std.proofs.Common.{ap, inl, inr, refl, rules, Some}
use Rattle.table_core.specs.declared.call.Answer.TheVariants.{Begun, Failed, Unwanted}
use Rattle.table_core.specs.declared.call.Phase.TheVariants.{Building, Owned}
use Rattle.table_shared.specs.Carried.{table_in}
use Rattle.table_shared.proofs.Looked.{some_same}
use Rattle.table_shared.proofs.Between.{begins_none, carries, goes_on, taken}
use Rattle.table_shared.proofs.Stepping.{carries_on}
use Rattle.table_shared.proofs.insert.between.Inserting.check.Goals as goal

pub step-self-requires : goal.step-self-requires
step-self-requires g c = record { fits = rw c.requires.phase refl }

pub invariant_of-self : goal.invariant_of-self
invariant_of-self g c =
    let i = c.args.self.now in
    record { between = begins_none i.between c.step-self.result c.requires.phase (inl (taken Owned Unwanted i.state c.step-self.result c.requires.phase c.step-self.ensures.decided)) }

pub step-self-requires-in-Failed : goal.step-self-requires-in-Failed
step-self-requires-in-Failed g c = record { fits = rw c.requires.phase refl }

pub invariant_of-self-in-Failed : goal.invariant_of-self-in-Failed
invariant_of-self-in-Failed g c =
    let i = c.args.self.now in
    record { between = begins_none i.between c.step-self-in-Failed.result c.requires.phase (inr (taken Owned Failed i.state c.step-self-in-Failed.result c.requires.phase c.step-self-in-Failed.ensures.decided)) }

pub step-self-requires-in-Begun : goal.step-self-requires-in-Begun
step-self-requires-in-Begun g c = record { fits = rw c.requires.phase refl }

pub invariant_of-self-in-Begun : goal.invariant_of-self-in-Begun
invariant_of-self-in-Begun g c =
    let i = c.args.self.now in
    record {
      between =
          goes_on i.between Owned Building c.step-self-in-Begun.result (Some c.in-Begun.growth) c.requires.phase (taken Owned Begun i.state c.step-self-in-Begun.result c.requires.phase c.step-self-in-Begun.ensures.decided)
          (search rules) refl refl refl (λ _ e. absurd (cc)) (λ x e. rw (← some_same c.in-Begun.growth x e) c.in-Begun.ensures.home_is);
    }

pub returns-in-Unwanted : goal.returns-in-Unwanted
returns-in-Unwanted g c = carries_on g.E.Fn _ _ _ c.step-self.ensures.went (carries c.args.self.now.between Owned c.requires.phase refl) refl refl

pub returns-in-Failed : goal.returns-in-Failed
returns-in-Failed g c = carries_on g.E.Fn _ _ _ c.step-self-in-Failed.ensures.went (carries c.args.self.now.between Owned c.requires.phase refl) refl refl

pub returns-in-Begun : goal.returns-in-Begun
returns-in-Begun g c = carries_on g.E.Fn _ _ _ c.step-self-in-Begun.ensures.went (carries c.args.self.now.between Owned c.requires.phase refl) refl refl

pub begin-requires : goal.begin-requires
begin-requires g c = record { lock = c.args.self.now.between.of_table c.in-Owned.held.home (ap table_in c.in-Owned.is) }
