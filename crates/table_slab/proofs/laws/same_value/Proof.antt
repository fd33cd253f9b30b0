-- Two that show one slot show one value.
use Rattle.std.proofs.Common.{◌≡◌, [], ◌∷◌, ◌++◌, refl}
use mir.Syntax.{a_type}
use mir.Val.{vunit}
use mir.MapTy.{inst_fn}
use types.Kit.{‵, raw, ◌⊛◌, ◌$◌, ◌∵◌, !, qed, keep, move, split, join, fsplit, fsplit3, fjoin, feq_i, suffices, use2, done}
use types.Run.{of_opd, unit_lit, returns}
use types.ByLocal.{alloc_all, pass_all, free_all, look_at, sets}
use contract.Monad.{fact}
use contract.Running.{tables}
use denote.Exit.{yes}
use denote.RattleType.{RattleType, owns}
use denote.Signature.{types_at, plain}
use denote.Builtin.{RefOf}
use denote.Steps.{nothing, heard}
use denote.Param.{param, layouts}
use denote.Triple.Entry.{alive}
use denote.Triple.Walked.{Stays, stay_dropped, Goes-dropped, ends_at}
use Rattle.std.proofs.raw_atomic.Walks.{proved_at}
use Rattle.table_cell.proofs.Walks.{begins}
use Rattle.table_slab.specs.contracts.rights.Written as Written
use Rattle.table_slab.proofs.Shown.{one_value}
use Rattle.table_slab.specs.contracts.laws.same_value as f
use Rattle.table_slab.proofs.laws.same_value.Statement.{statement}
use Rattle.table_slab.proofs.laws.same_value.Code as code

pub same_value_spec : {M : Type 1} → statement M
same_value_spec 𝓤 𝓛 𝓜 𝓡 wired T L =
    let Known : RattleType = Written.the_row (param 0 T) in let En = f.ended T in let c = f.clauses T 𝓛 𝓜.mem 𝓡.returns in
    let one = RefOf (0 ∷ []) tt (plain (λ _. Known)) (λ _. tt) in let other = RefOf (1 ∷ []) tt (plain (λ _. Known)) (λ _. tt) in
    let dropped : Stays En.signature.params En.kept = (stay_dropped one yes, (stay_dropped other yes, tt)) in
    let 𝓣 = tables 𝓤 𝓛.H 𝓜 𝓡 𝓡.env in let types = layouts (a_type ∷ []) (T, tt) in let fn = inst_fn types code.function in
    proved_at 𝓛 En dropped c 𝓜 𝓡 (Goes-dropped 𝓛 3 one yes (λ κs x w. refl), (Goes-dropped 𝓛 3 other yes (λ κs x w. refl), tt)) (f.Key.name types) fn (code.unfolded 𝓤 𝓛.H 𝓜 𝓡 wired (T, tt)) (λ y are.
    let this = y.0.3.0 in let that = y.0.3.1.0 in let Agree = this.now.value ≡ that.now.value in
    qed 𝓛 ((raw (alive 𝓛 En.signature y.0.0 y.0.1) ⊛ ‵ (owns (types_at En.signature.params y.0.0) y.0.3 y.0.4)) ∷ raw (fact 𝓤 _) ∷ raw (fact 𝓤 (y.0.3.0.now.of ≡ y.0.3.1.0.now.of)) ∷ []) ∵
    move ! (2 ∷ []) $ heard ! (this.now.of ≡ that.now.of) (λ same. split ! $ move ! (1 ∷ []) $ fsplit3 ! $ fsplit ! $ move ! (2 ∷ []) $ fsplit ! $ keep ! (3 ∷ 1 ∷ 5 ∷ []) $
    -- [one `&`; the other; the tokens]
    use2 𝓛 (raw (fact 𝓤 Agree)) (one_value 𝓛 (param 0 T) y.0.0.0 y.0.0.1.0 this.ref_ptr.0 this.ref_ptr.1 that.ref_ptr.0 that.ref_ptr.1 this.now that.now same) $
    begins ! fn (λ i. are.0.0 i ++ (are.1.0.0 i ++ [])) $ alloc_all ! (λ l. pass_all ! refl ((tt, tt), ((tt, tt), tt)) $
    sets ! (of_opd ! (unit_lit !)) refl (tt, tt) $ returns ! (look_at ! 0 refl) $ free_all ! refl $
    suffices ! _ (ends_at 𝓛 En dropped c y vunit tt (tt, (tt, tt)) (tt, (tt, tt))) $ feq_i ! _ (vunit ∷ []) (vunit ∷ []) refl $
    -- [nothing of the two; the unit; what is shown; the tokens]
    nothing ! $ nothing ! $ fjoin ! $ nothing ! $ fjoin ! $ join ! $ keep ! (2 ∷ 0 ∷ 1 ∷ []) $ join ! $ join ! $ done !)))
