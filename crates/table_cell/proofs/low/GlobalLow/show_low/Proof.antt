-- The right to free a block tells that it starts there.
use Rattle.std.proofs.Common.{[], ◌∷◌, refl}
use base.Logic.{guard_i}
use base.Fml.{ftrue}
use mir.Val.{vunit}
use types.Logic.{sem}
use types.Kit.{‵, raw, given, ◌$◌, ◌∵◌, !, qed, drop, use1, join, fjoin, fpack, learn, feq_i, suffices, group, done}
use types.Run.{enter, of_opd, unit_lit, returns}
use types.ByLocal.{alloc_all, pass_all, free_all, look_at, get, sets}
use contract.Monad.{fact_use}
use denote.Exit.{yes}
use denote.RawPtr.{RawPtr, Testable, rawptr_vals, rawptr_Tells}
use denote.Signature.{plain}
use denote.Steps.{nothing}
use denote.Triple.Entry.{on_entry}
use denote.Triple.Walked.{Stays, walk_of, stay_dropped, Goes-dropped, ends_at}
use Rattle.std.proofs.raw_atomic.Walks.{proved}
use Rattle.core.proofs.atomic.Steps.{Ptr-Good}
use Rattle.std.proofs.GlobalToken.{dealloc_token-Testable}
use Rattle.std.specs.contracts.impls.GlobalAllocator.TheImpl.{ghosts}
use Rattle.table_cell.specs.contracts.low.GlobalLow.show_low as f
use Rattle.table_cell.proofs.low.GlobalLow.show_low.Statement.{statement}
use Rattle.table_cell.proofs.low.GlobalLow.show_low.Code as code

abbrev stayed : Stays f.ended.signature.params f.ended.kept
stayed = (stay_dropped _ yes, tt)

pub show_low_spec : {M : Type 1} → statement M
show_low_spec 𝓤 𝓛 𝓜 𝓡 wired =
    let c = f.clauses 𝓛 𝓜.mem 𝓡.returns in let W = walk_of 𝓛 f.ended stayed c in
    proved 𝓛 f.ended stayed c 𝓜 𝓡 (Goes-dropped 𝓛 0 (plain (λ _. RawPtr)) yes (λ κs x w. refl), tt)
    f.Key.name code.function (code.unfolded 𝓤 𝓛.H 𝓜 𝓡 wired)
    (λ κs. (rawptr_vals, tt)) (λ κs. (rawptr_Tells, tt)) (λ κs qs bounds a g are.
    let k = ghosts.dealloc_token g.0 g.1 in let y : W.Ghost = ((κs, qs, bounds, a, (rawptr_vals a.0, tt)), g) in
    qed 𝓛 (raw (on_entry 𝓛 f.signature κs qs a y.0.4) ∷ ‵ (k a.0) ∷ []) ∵ drop ! $
    use1 𝓛 (given (Testable a.0) (‵ (k a.0))) (fact_use 𝓤 (Testable a.0) (dealloc_token-Testable 𝓛 g.0 g.1 a.0) (guard_i 𝓤 (Testable a.0) (sem 𝓛 (k a.0)))) $ learn ! (λ low.
    enter ! _ _ _ _ _ $ alloc_all ! (λ l. pass_all ! refl (Ptr-Good a.0, tt) $
    sets ! (of_opd ! (get ! refl)) refl (Ptr-Good a.0) $ sets ! (of_opd ! (unit_lit !)) refl (tt, tt) $ returns ! (look_at ! 0 refl) $ free_all ! refl $
    suffices ! _ (ends_at 𝓛 f.ended stayed c y vunit tt (tt, tt) (tt, tt)) $
    nothing ! $ fpack ! (Testable a.0) (λ _. ftrue) low $ fjoin ! $ feq_i ! _ (vunit ∷ []) _ refl $ nothing ! $ nothing ! $ join ! $ nothing ! $ group ! 3 $ done !)))
