use Rattle.std.proofs.Common.{ap, sym, ◌∙◌, Some}
use Rattle.std.specs.Option.{option_map}
use Rattle.std.proofs.lemmas.Option.{slice_get_within}
use Rattle.table_core.specs.Calls.{Call}
use Rattle.table_core.proofs.CodeEvents.{at_position, no_position}
use Rattle.table_core.proofs.calls.Calls.state_of.Goals as goal

pub get-requires : goal.get-requires
get-requires g c =
    slice_get_within c.args.self.now c.in-Some.at _ (at_position c.args.number _ _ (sym c.in-Some.ensures)).there

pub returns-in-Some : goal.returns-in-Some
returns-in-Some g c =
    let a = at_position c.args.number c.args.self.now c.in-Some.at (sym c.in-Some.ensures) in
    ap Some c.state.ensures ∙ ap (option_map (λ (d : Call). d.state)) (sym c.get.ensures ∙ a.there ∙ sym a.numbered)

pub returns-in-None : goal.returns-in-None
returns-in-None g c = ap (option_map (λ (d : Call). d.state)) (sym (no_position c.args.number c.args.self.now (sym c.in-None.ensures)))
