-- A note may be told what it does not know.
use Rattle.std.proofs.Common.{◌≡◌, ℕ, List, [], ◌∷◌, ◌++◌, refl, sym, subst}
use mir.Syntax.{a_type}
use mir.Val.{Val, vptr, vunit}
use mir.MapTy.{inst_fn}
use base.Logic.{SProp, ent, emp, id⊢}
use base.Fml.{Lft, Share, Fml, ftrue, fsep, flft}
use prog.Wp.{WpFn}
use types.Kit.{‵, raw, ◌⊛◌, later, ◌$◌, ◌∵◌, !, qed, by, move, keep, drop, split, join, fsplit, fsplit3, fjoin, suffices, use0, use2, await, rewrite, feq_i}
use types.Run.{of_opd, unit_lit, returns, enter}
use types.ByLocal.{alloc_all, pass_all, free_all, look_at, sets}
use contract.Monad.{fact, fact_i}
use contract.BorrowLft.{◌⊑◌}
use contract.Running.{tables}
use denote.Exit.{no}
use denote.RattleType.{RattleType, owns}
use denote.Signature.{types_at, plain}
use denote.Steps.{nothing, heard}
use denote.Param.{param, layout, layouts}
use denote.Param.Laws.{param_laws}
use denote.Triple.Walked.{Stays, stay_dropped, walk_of, Goes-dropped, stay_ref, Goes-ref}
use Rattle.core.proofs.cell.Inside.{one}
use Rattle.std.proofs.raw_atomic.Walks.{proved_at, leaves}
use Rattle.std.specs.declared.option.Option.{Option}
use Rattle.std.specs.declared.option.Option.TheVariants.{Some}
use Rattle.table_cell.specs.Notes.{learnt}
use Rattle.table_cell.proofs.Ajar as behind
use Rattle.table_cell.proofs.Notes as notes
use Rattle.table_cell.proofs.Notes.{Note}
use Rattle.table_slab.specs.contracts.site.Site as Site
use Rattle.table_slab.proofs.site.Site.TheLaws as site_laws
use Rattle.table_slab.specs.contracts.site.hear.{ended, clauses}
use Rattle.table_slab.specs.contracts.site.hear.Key.{name as #self}
use Rattle.table_slab.proofs.site.hear.Statement.{statement}
use Rattle.table_slab.proofs.site.hear.Code as code

pub hear_spec : {M : Type 1} → statement M
hear_spec 𝓤 𝓛 𝓜 𝓡 wired T L =
    let H = 𝓛.H in let 𝓣 = tables 𝓤 H 𝓜 𝓡 𝓡.env in let R : RattleType = param 0 T in let LR = param_laws 0 T L in let En = ended T in let c = clauses T 𝓛 𝓜.mem 𝓡.returns in
    let inst = layouts (a_type ∷ []) (T, tt) in let fn = inst_fn inst code.function in let a_note = plain (λ _. Note R) in let a_site = plain (λ _. Site.the_row R) in
    let hs : Stays En.signature.params En.kept = (stay_ref (0 ∷ []) tt a_note, (stay_dropped a_site no, tt)) in
    proved_at 𝓛 En hs c 𝓜 𝓡 (Goes-ref 𝓛 2 0 tt a_note, (Goes-dropped 𝓛 2 a_site no (λ κs x f. refl), tt)) (#self inst) fn (code.unfolded 𝓤 H 𝓜 𝓡 wired (T, tt)) (λ z are.
    let κs = z.0.0 in let qs = z.0.1 in let Post : Val → SProp 𝓤 = (walk_of 𝓛 En hs c).post z in let Run : List Val → SProp 𝓤 = λ ws. WpFn 𝓤 H 𝓣.C 𝓣.Λ fn ws Post in
    let κ' : Lft = κs.0 in let q' : Share = qs.0 in let m = z.0.3.0 in let nb : ℕ = m.ref_ptr.0 in let no' : ℕ = m.ref_ptr.1 in let n = m.now in let γ : ℕ = n.of in let at : List Val = z.0.4.0 in
    let mark = notes.the_note R in let lent : (Note R).Denot → Fml = λ k. behind.lent mark κ' q' m k at in let Ajar : Fml = behind.ajar mark κ' q' m in let N : Fml = learnt R γ n.known in
    let x = z.0.3.1.0 in let k : (Note R).Denot = notes.knowing R n (Some x.value) in let K : Fml = learnt R γ (Some x.value) in let Told : Type 0 = (γ ≡ γ) × (mathlib.Core.Path.Path (Option T.Denot) (Some x.value) (Some x.value)) in
    let v = one (layout (Site.the_row R)) z.0.4.1.0 (((site_laws.the_row_laws R LR).lawful 𝓛).typed x z.0.4.1.0 are.1.0) in let Vs : List Val = vptr nb no' ∷ v.0 ∷ [] in
    qed 𝓛 (((‵ (flft κ' q') ⊛ ‵ (fsep (flft κs.1.0 qs.1.0) ftrue)) ⊛ ‵ (owns (types_at En.signature.params κs) z.0.3 z.0.4)) ∷ raw (fact 𝓤 (κs.1.0 ⊑ T.lives)) ∷ raw (fact 𝓤 (x.cell ≡ γ)) ∷ []) ∵
    move ! (2 ∷ []) $ heard ! (x.cell ≡ γ) (λ same. split ! $ split ! $ move ! (2 ∷ []) $ fsplit3 ! $ move ! (1 ∷ []) $ fsplit ! $ keep ! (2 ∷ 4 ∷ 1 ∷ 5 ∷ []) $ rewrite ! 2 (λ (j : ℕ). ‵ (learnt R j (Some x.value))) same refl $
    -- [the note; its token; what is told; T's token]
    suffices ! (Run Vs) (subst (λ (us : List Val). ent 𝓤 (Run Vs) (Run us)) (sym (λ i. are.0.0 i ++ (v.1 i ++ []))) (id⊢ 𝓤 (Run Vs))) $
    enter ! 𝓣.C 𝓣.Λ fn Vs Post $ alloc_all ! (λ l. pass_all ! refl ((tt, tt), (v.2, tt)) $
    use2 𝓛 (later (‵ N ⊛ ‵ Ajar)) (behind.opens_up mark κ' q' m 𝓛 at) $ await ! tt $ split ! $ drop ! $ move ! (1 ∷ 0 ∷ []) $
    use2 𝓛 (later (‵ (lent k) ⊛ ‵ (flft κ' q'))) (behind.shuts mark κ' q' m 𝓛 at k are.0.0) $ await ! tt $ split ! $
    nothing ! $ nothing ! $ fjoin ! $ move ! (1 ∷ 0 ∷ []) $ fjoin ! $ move ! (1 ∷ 2 ∷ []) $ join ! $
    sets ! (of_opd ! (unit_lit !)) refl (tt, tt) $ feq_i ! (List Val) (vunit ∷ []) (vunit ∷ []) refl $ use0 𝓛 (raw (fact 𝓤 Told)) (fact_i 𝓤 Told (emp 𝓤) (refl, refl)) $
    returns ! (look_at ! 0 refl) $ free_all ! refl $ keep ! (2 ∷ 3 ∷ 1 ∷ 0 ∷ []) $ by ! (leaves 𝓛 En hs c z vunit tt (k, (tt, tt)) (tt, (tt, tt))))))
