use Rattle.std.proofs.Common.{◌≡◌, ◌∙◌, ap, refl, rules, sym, Some, None}
use Rattle.table_core.specs.declared.call.Answer.TheVariants.{Copied, Shown}
use Rattle.table_core.specs.declared.call.Phase.TheVariants.{Building, LeaveOwned}
use Rattle.table_shared.specs.Carried.{table_in}
use Rattle.table_shared.proofs.Looked.{some_same}
use Rattle.table_shared.proofs.Between.{carries, goes_on, taken}
use Rattle.table_shared.proofs.Stepping.{carries_on}
use Rattle.table_shared.proofs.insert.between.Inserting.build.Goals as goal

pub unreachable-requires : goal.unreachable-requires
unreachable-requires g c = c.args.self.now.between.builds c.requires.phase (sym c.in_default.ensures.value)

pub show-published-requires : goal.show-published-requires
show-published-requires g c = record {
  lock = c.args.self.now.between.of_table c.in-Owned.held.home (ap table_in c.in-Owned.is);
  home = c.copy_next.ensures.home ∙ c.args.self.now.between.grows c.in-Some.growth (sym c.in-Some.ensures.value);
  whole = (rw c.if-copy_next.false at c.copy_next.ensures.copies).1;
}

pub step-self-requires : goal.step-self-requires
step-self-requires g c = record { fits = rw c.requires.phase refl }

pub invariant_of-self : goal.invariant_of-self
invariant_of-self g c =
    let i = c.args.self.now in
    record {
      between =
          goes_on i.between Building Building c.step-self.result (Some c.copy_next.new.self) c.requires.phase (taken Building Copied i.state c.step-self.result c.requires.phase c.step-self.ensures.decided)
          (search rules) refl refl refl (λ _ e. absurd (cc)) (λ x e. rw (← some_same c.copy_next.new.self x e) (c.copy_next.ensures.home ∙ i.between.grows c.in-Some.growth (sym c.in-Some.ensures.value)));
    }

pub step-self-requires-2 : goal.step-self-requires-2
step-self-requires-2 g c = record { fits = rw c.requires.phase refl }

pub invariant_of-self-2 : goal.invariant_of-self-2
invariant_of-self-2 g c =
    let i = c.args.self.now in
    record {
      between =
          goes_on i.between Building LeaveOwned c.step-self-2.result c.take.new.self c.requires.phase (taken Building Shown i.state c.step-self-2.result c.requires.phase c.step-self-2.ensures.decided)
          (search rules) refl refl refl (λ e. absurd (cc)) (λ x e. absurd (let none : Some x ≡ None = sym e ∙ c.take.ensures.after in cc));
    }

pub returns-then-copy_next : goal.returns-then-copy_next
returns-then-copy_next g c = carries_on g.E.Fn _ _ _ c.step-self.ensures.went (carries c.args.self.now.between Building c.requires.phase refl) refl refl

pub returns : goal.returns
returns g c = carries_on g.E.Fn _ _ _ c.step-self-2.ensures.went (carries c.args.self.now.between Building c.requires.phase refl) refl refl
