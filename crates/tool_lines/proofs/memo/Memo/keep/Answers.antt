use Rattle.std.proofs.Common.{◌≡◌, true, rules, sym, ap, ◌∙◌}
use Rattle.std.specs.Prelude.{◌==◌}
use Rattle.tool_lines.proofs.Kept.{stays, stays_with, placed_keeps, found_keeps, equal_numbers}
use Rattle.tool_lines.proofs.memo.Memo.keep.Goals as goal

pub returns-in-Ok-default-None-clause-kept : goal.returns-in-Ok-default-None-clause-kept
returns-in-Ok-default-None-clause-kept g c =
    let told = rw c.in-Ok-default-None.field-0-1-is at c.in-Ok-default-None.ensures.keeps in
    placed_keeps c.self.inside.answers c.place_alone.new.self c.in_ok-kept.kept _ (ap (λ a. a.argument) c.in_ok-kept.ensures.ok) told.1

pub returns-in-Ok-default-None-clause-stays : goal.returns-in-Ok-default-None-clause-stays
returns-in-Ok-default-None-clause-stays g c =
    let told = rw c.in-Ok-default-None.field-0-1-is at c.in-Ok-default-None.ensures.keeps in
    stays_with c.self.inside.answers c.args.self.now c.place_alone.new.self c.self.view_is c.in_ok-kept.kept told.1

pub returns-in-Ok-default-Some-clause-kept : goal.returns-in-Ok-default-Some-clause-kept
returns-in-Ok-default-Some-clause-kept g c =
    let told = rw c.in-Ok-default-Some.field-0-1-is at c.in-Ok-default-Some.ensures.keeps in
    let value_is : c.in_ok-kept.kept.value.argument ≡ c.args.kept.argument = ap (λ a. a.argument) c.in_ok-kept.ensures.ok in
    found_keeps c.self.inside.answers c.place_alone.new.self _ told.1 told.2
    (λ e accepted.
    let same : true ≡ (c.in_ok-kept.kept.value.argument == e.value.argument) = search rules in
    sym (equal_numbers _ _ (sym same)) ∙ value_is)

pub returns-in-Ok-default-Some-clause-stays : goal.returns-in-Ok-default-Some-clause-stays
returns-in-Ok-default-Some-clause-stays g c =
    let told = rw c.in-Ok-default-Some.field-0-1-is at c.in-Ok-default-Some.ensures.keeps in
    stays c.self.inside.answers c.args.self.now c.place_alone.new.self c.self.view_is told.2

pub returns-clause-stays : goal.returns-clause-stays
returns-clause-stays g c =
    stays c.self.inside.answers c.args.self.now c.place_alone.new.self c.self.view_is c.in-Err.ensures.keeps.1
