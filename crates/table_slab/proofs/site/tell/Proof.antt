-- What a note knows can be had beside it.
use Rattle.std.proofs.Common.{◌≡◌, ℕ, List, [], ◌∷◌, ◌++◌, refl, sym, subst}
use mir.Syntax.{a_type}
use mir.Val.{Val, vptr}
use mir.MapTy.{inst_fn}
use base.Logic.{SProp, ent, emp, id⊢}
use base.Fml.{Lft, Share, Fml, ftrue, fsep, flft}
use prog.Wp.{WpFn}
use types.Kit.{‵, raw, ◌⊛◌, later, ◌$◌, ◌∵◌, !, qed, by, move, keep, split, join, fsplit, fjoin, suffices, use0, use1, use2, await, rewrite}
use types.Run.{no_more, and_then, returns, enter}
use types.ByLocal.{alloc_all, pass_all, free_all, look_at, get, sets}
use types.Part.{agg}
use contract.Monad.{fact, fact_i}
use contract.BorrowLft.{◌⊑◌}
use contract.Running.{tables}
use denote.RattleType.{RattleType, owns}
use denote.Signature.{types_at, plain}
use denote.Steps.{nothing, heard}
use denote.Param.{param, layouts}
use denote.Triple.Walked.{Stays, walk_of, stay_ref, Goes-ref}
use Rattle.std.proofs.raw_atomic.Walks.{proved_at, leaves}
use Rattle.std.specs.declared.option.Option.{Option}
use Rattle.std.specs.declared.option.Option.TheVariants.{Some}
use Rattle.table_cell.specs.Notes.{learnt}
use Rattle.table_cell.proofs.Ajar as behind
use Rattle.table_cell.proofs.Notes as notes
use Rattle.table_cell.proofs.Notes.{Note}
use Rattle.table_slab.specs.contracts.site.Site as Site
use Rattle.table_slab.proofs.Made.{token_val}
use Rattle.table_slab.proofs.Sites.{learnt_twice, site_made}
use Rattle.table_slab.specs.contracts.site.tell.{ended, clauses}
use Rattle.table_slab.specs.contracts.site.tell.Key.{name as #self}
use Rattle.table_slab.proofs.site.tell.Statement.{statement}
use Rattle.table_slab.proofs.site.tell.Code as code

pub tell_spec : {M : Type 1} → statement M
tell_spec 𝓤 𝓛 𝓜 𝓡 wired T L =
    let H = 𝓛.H in let 𝓣 = tables 𝓤 H 𝓜 𝓡 𝓡.env in let R : RattleType = param 0 T in let En = ended T in let c = clauses T 𝓛 𝓜.mem 𝓡.returns in
    let inst = layouts (a_type ∷ []) (T, tt) in let fn = inst_fn inst code.function in let a_note = plain (λ _. Note R) in
    let hs : Stays En.signature.params En.kept = (stay_ref (0 ∷ []) tt a_note, tt) in
    proved_at 𝓛 En hs c 𝓜 𝓡 (Goes-ref 𝓛 2 0 tt a_note, tt) (#self inst) fn (code.unfolded 𝓤 H 𝓜 𝓡 wired (T, tt)) (λ z are.
    let κs = z.0.0 in let qs = z.0.1 in let Post : Val → SProp 𝓤 = (walk_of 𝓛 En hs c).post z in let Run : List Val → SProp 𝓤 = λ ws. WpFn 𝓤 H 𝓣.C 𝓣.Λ fn ws Post in
    let κ' : Lft = κs.0 in let q' : Share = qs.0 in let m = z.0.3.0 in let nb : ℕ = m.ref_ptr.0 in let no' : ℕ = m.ref_ptr.1 in let n = m.now in let γ : ℕ = n.of in let at : List Val = z.0.4.0 in
    let mark = notes.the_note R in let lent : (Note R).Denot → Fml = λ k. behind.lent mark κ' q' m k at in let Ajar : Fml = behind.ajar mark κ' q' m in let N : Fml = learnt R γ n.known in
    let Known : Type 0 = (x : T.Denot) × (n.known ≡ Some x) in
    qed 𝓛 (((‵ (flft κ' q') ⊛ ‵ (fsep (flft κs.1.0 qs.1.0) ftrue)) ⊛ ‵ (owns (types_at En.signature.params κs) z.0.3 z.0.4)) ∷ raw (fact 𝓤 (κs.1.0 ⊑ T.lives)) ∷ raw (fact 𝓤 Known) ∷ []) ∵ move ! (2 ∷ []) $ heard ! Known (λ known.
    let x : T.Denot = known.0 in let S : RattleType = Site.the_row R in let r : S.Denot = record { marker = record {}; cell = γ; value = x } in let Told : Type 0 = (n ≡ n) × (γ ≡ γ) × (n.known ≡ Some x) in let K : Fml = learnt R γ (Some x) in
    split ! $ split ! $ move ! (2 ∷ []) $ fsplit ! $ keep ! (0 ∷ 2 ∷ 3 ∷ []) $
    -- [the note; its token; T's token]
    suffices ! (Run (vptr nb no' ∷ [])) (subst (λ (us : List Val). ent 𝓤 (Run (vptr nb no' ∷ [])) (Run us)) (sym (λ i. are.0.0 i ++ [])) (id⊢ 𝓤 (Run (vptr nb no' ∷ [])))) $
    enter ! 𝓣.C 𝓣.Λ fn (vptr nb no' ∷ []) Post $ alloc_all ! (λ l. pass_all ! refl ((tt, tt), tt) $
    use2 𝓛 (later (‵ N ⊛ ‵ Ajar)) (behind.opens_up mark κ' q' m 𝓛 at) $ await ! tt $ split ! $ rewrite ! 0 (λ (v : Option T.Denot). ‵ (learnt R γ v)) known.1 refl $ use1 𝓛 (‵ K ⊛ ‵ K) (learnt_twice 𝓛 R γ x) $ split ! $
    rewrite ! 0 (λ (v : Option T.Denot). ‵ (learnt R γ v)) (sym known.1) refl $ move ! (0 ∷ 2 ∷ []) $ use2 𝓛 (later (‵ (lent n) ⊛ ‵ (flft κ' q'))) (behind.shuts mark κ' q' m 𝓛 at n are.0.0) $ await ! tt $ split ! $
    -- [the note; its token; what it knows; T's token]
    nothing ! $ move ! (1 ∷ 0 ∷ []) $ fjoin ! $ move ! (2 ∷ []) $ use1 𝓛 (‵ (S.own_val r (token_val ∷ []))) (site_made 𝓛 R γ x) $ sets ! (agg ! (no_more !)) refl (tt, tt) $ sets ! (agg ! (and_then ! (get ! refl) (no_more !))) refl (tt, (tt, tt)) $
    move ! (2 ∷ 3 ∷ []) $ join ! $ use0 𝓛 (raw (fact 𝓤 Told)) (fact_i 𝓤 Told (emp 𝓤) (refl, refl, known.1)) $
    returns ! (look_at ! 0 refl) $ free_all ! refl $ keep ! (1 ∷ 3 ∷ 2 ∷ 0 ∷ []) $ by ! (leaves 𝓛 En hs c z token_val r (n, tt) (tt, tt)))))
