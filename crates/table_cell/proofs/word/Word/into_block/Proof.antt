-- `into_block` has the block back, since its home has ended.
use Rattle.std.proofs.Common.{◌≡◌, ℕ, true, [], ◌∷◌, ◌++◌, refl, ap, ◌∙◌, subst}
use Rattle.std.specs.Prelude.{IsSome}
use mir.Syntax.{a_type, dcons, dnil}
use mir.Val.{Val, vptr}
use mir.MapTy.{inst_fn}
use base.Logic.{SProp, emp, id⊢}
use base.Fml.{ftrue, flft, fdead}
use types.Kit.{‵, raw, ◌⊛◌, some, later, ◌$◌, ◌∵◌, !, qed, by, move, keep, drop, split, split3, join, fsplit, fsplit3, fjoin, fpick, pick, learn, use0, use1, use2, await, rewrite, feq_l}
use types.Run.{stop, fld, of_opd, no_more, and_then, returns}
use types.ByLocal.{alloc_all, pass_all, free_all, look_at, get, get_in, sets, lands_as}
use types.Part.{agg, sub, whole}
use contract.Monad.{fact, fact_i}
use contract.BorrowLft.{◌⊑◌}
use contract.Running.{tables}
use denote.Exit.{yes, no}
use denote.RattleType.{RattleType, owns}
use denote.Laws.{Typed}
use denote.Signature.{types_at, type_at, plain}
use denote.Builtin.{RefOf, RawPtr}
use denote.RawPtr.{Ptr, block_ptr, ptr_val}
use denote.Opens.{unhide}
use denote.Steps.{nothing, only, heard}
use denote.Param.{param, bounded}
use denote.Param.Laws.{param_laws}
use denote.Triple.Clauses.{Lasts, lasts}
use denote.Triple.Spec.{triple_of}
use denote.Triple.Call.{calls_at}
use denote.Triple.Walked.{Stays, stay_dropped, walk_of, Goes-dropped}
use Rattle.std.specs.Sync.Atomic.Pointer.{atomic_ptr_holding}
use Rattle.core.specs.contracts.atomic.ptr.AtomicPtr as atomic
use Rattle.core.proofs.atomic.ptr.AtomicPtr.TheLaws as atomic_laws
use Rattle.core.proofs.atomic.Steps.{fm}
use Rattle.table_cell.proofs.Walks.{begins}
use Rattle.std.proofs.raw_atomic.Walks.{proved_at, leaves}
use Rattle.table_cell.specs.Words.{Shows}
use Rattle.table_cell.specs.contracts.home.Closed as closed
use Rattle.table_cell.specs.contracts.word.Word as word
use Rattle.table_cell.proofs.Moves as moves
use Rattle.table_cell.proofs.Values.{marked, Loose, loose_good, loose_in, word_out}
use Rattle.table_cell.specs.contracts.word.Word.into_block.{ended, clauses}
use Rattle.table_cell.specs.contracts.word.Word.into_block.Key.{name as #self}
use Rattle.table_cell.proofs.word.Word.into_block.Statement.{statement}
use Rattle.table_cell.proofs.word.Word.into_block.Code as code
use Rattle.core.specs.contracts.atomic.ptr.AtomicPtr.into_inner as callee
use Rattle.core.proofs.atomic.ptr.AtomicPtr.into_inner.Met.{met}

pub into_block_spec : {M : Type 1} → statement M
into_block_spec 𝓤 𝓛 𝓜 𝓡 wired T A L LA f fd g d dd homed alloc glued =
    let H = 𝓛.H in let 𝓣 = tables 𝓤 H 𝓜 𝓡 𝓡.env in let R : RattleType = param 0 T in let LR = param_laws 0 T L in let Y : RattleType = param 1 A in let En = ended T A f fd g d dd in let c = clauses T A f fd g d dd 𝓛 𝓜.mem 𝓡.returns in
    let inst = bounded (a_type ∷ a_type ∷ []) (T, (A, tt)) (dcons fd (dcons d (dcons dd dnil))) in let fn = inst_fn inst code.function in let P : RattleType = atomic.the_row R in let LP = atomic_laws.the_row_laws R LR in
    let W : RattleType = word.the_row R Y f g in let ref = RefOf (0 ∷ []) tt (plain (λ _. closed.the_row)) (λ _. tt) in let hs : Stays En.signature.params En.kept = (stay_dropped (plain (λ _. W)) no, (stay_dropped ref yes, tt)) in
    proved_at 𝓛 En hs c 𝓜 𝓡 (Goes-dropped 𝓛 3 (plain (λ _. W)) no (λ κs x f. refl), (Goes-dropped 𝓛 3 ref yes (λ κs x f. refl), tt)) (#self inst) fn (code.unfolded 𝓤 H 𝓜 𝓡 wired (T, (A, tt)) fd d dd) (λ z are.
    let κs = z.0.0 in let qs = z.0.1 in let Post : Val → SProp 𝓤 = (walk_of 𝓛 En hs c).post z in let Out : RattleType = type_at En.signature.result κs in
    let wd = z.0.3.0 in let h = wd.home in let a = wd.from in let cb = z.0.3.1.0.ref_ptr.0 in let co = z.0.3.1.0.ref_ptr.1 in
    let κT = κs.1.0 in let qT = qs.1.0 in let tok = ‵ (flft κT qT) ⊛ ‵ ftrue in let rest = ‵ (flft κs.1.1.0 qs.1.1.0) ⊛ ‵ ftrue in let k = triple_of 𝓛 (callee.signature T) (callee.spec T 𝓛 𝓜.mem 𝓡.returns) in
    let Asked : Type 0 = (z.0.3.1.0.now.id ≡ h) × (wd.owning ≡ true) × IsSome wd.value in let Told : R.Denot → Type 0 = λ x. (a ≡ a) × Shows f.fits wd x in
    qed 𝓛 (((‵ (flft κs.0 qs.0) ⊛ ‵ (flft κT qT) ⊛ rest) ⊛ ‵ (owns (types_at En.signature.params κs) z.0.3 z.0.4)) ∷ raw (fact 𝓤 (κT ⊑ T.lives)) ∷ raw (fact 𝓤 (κs.1.1.0 ⊑ A.lives)) ∷ raw (fact 𝓤 Asked) ∷ []) ∵
    move ! (1 ∷ 3 ∷ []) $ heard ! (κT ⊑ T.lives) (λ within. heard ! Asked (λ asked. keep ! (0 ∷ []) $ split ! $ split3 ! $ move ! (3 ∷ []) $ fsplit3 ! $ move ! (1 ∷ []) $ fsplit ! $ drop ! $ unhide ! $ fsplit ! $ drop ! $
    rewrite ! 0 (λ (i : ℕ). ‵ (fdead (i ∷ []))) asked.0 refl $ move ! (1 ∷ []) $ fsplit ! $ fpick ! (λ laid. drop ! $ fpick ! (λ p. fsplit ! $
    word_out P Y (atomic_ptr_holding p) ! refl (LP.lawful 𝓛) z.0.4.0 (λ v gv ws. let w : Val = marked v in
    let y : k.Ghost = (((κT, tt), (qT, tt), tt, (atomic_ptr_holding p, tt), (v ∷ [], tt)), tt) in
    -- [the pointer; beside it; the home's end; nothing; κ's token; T's token; the other tokens]
    nothing ! $ move ! (1 ∷ 0 ∷ []) $ fjoin ! $ move ! (5 ∷ 3 ∷ []) $ join ! $ join ! $ use0 𝓛 (raw (fact 𝓤 (κT ⊑ T.lives))) (fact_i 𝓤 (κT ⊑ T.lives) (emp 𝓤) within) $ nothing ! $ move ! (1 ∷ 0 ∷ []) $ join ! $ move ! (1 ∷ 0 ∷ []) $ join ! $
    use1 𝓛 (raw (k.pre y)) (id⊢ 𝓤 _) $
    begins ! fn (λ i. ws i ++ (are.1.0.0 i ++ [])) $ alloc_all ! (λ l. pass_all ! refl ((subst (Typed W.mir) ws laid).0, ((tt, tt), tt)) $
    sets ! (of_opd ! (get_in ! (fld ! refl (stop !)) (sub ! 0 refl (whole !)))) refl gv $ sets ! (of_opd ! (get ! refl)) refl gv $ calls_at ! (fm 𝓛 𝓜 𝓡) k (met 𝓤 𝓛 𝓜 𝓡 (code.calls-core::atomic::ptr::AtomicPtr::into_inner 𝓡.env wired) T L) y (and_then ! (get ! refl) (no_more !)) (λ u.
    use1 𝓛 (later (some (λ (r : Ptr). (tok ⊛ ‵ (RawPtr.own_val r (u ∷ []))) ⊛ some (λ (ls : Lasts (callee.ended T) (κT, tt) y.0.3). ‵ (lasts (callee.ended T) (κT, tt) y.0.3 ls) ⊛ raw (fact 𝓤 (r ≡ p)))))) (id⊢ 𝓤 (k.post y u)) $
    await ! tt $ pick ! (λ r. split ! $ move ! (1 ∷ []) $ pick ! (λ _. split ! $ drop ! $ heard ! (r ≡ p) (λ same. split ! $ move ! (1 ∷ []) $ feq_l ! (λ e.
    -- [T's token; beside it; the home's end; κ's token; the other tokens]
    move ! (1 ∷ []) $ moves.where_set R (g.dealloc_token a) h wd.id wd.owning wd.value (Shows f.fits wd) ! p asked.2 (λ b o is. move ! (2 ∷ 0 ∷ []) $
    use2 𝓛 (later (moves.Block 𝓛 R LR (g.dealloc_token a) h wd.id wd.owning wd.value (Shows f.fits wd) (block_ptr b o))) (moves.held_block 𝓛 R LR (g.dealloc_token a) h wd.id wd.owning wd.value (Shows f.fits wd) (block_ptr b o) asked.1) $ await ! tt $
    pick ! (λ x. learn ! (λ so. let d : (Loose R Y g).Denot = record { at = block_ptr b o; allocator = record {}; value = x; from = a } in
    lands_as ! (ap only e ∙ ap ptr_val same ∙ ap ptr_val is) refl (tt, tt) $ sets ! (agg ! (no_more !)) refl (tt, tt) $ sets ! (agg ! (and_then ! (get ! refl) (and_then ! (get ! refl) (no_more !)))) refl (loose_good R Y g (block_ptr b o)) $
    loose_in R Y g ! (block_ptr b o) a x $
    -- [the loose block; T's token; κ's token; the other tokens]
    move ! (1 ∷ []) $ split ! $ move ! (0 ∷ 4 ∷ []) $ join ! $ move ! (3 ∷ 0 ∷ []) $ join ! $ use0 𝓛 (raw (fact 𝓤 (Told x))) (fact_i 𝓤 (Told x) (emp 𝓤) (refl, so)) $ nothing ! $ nothing ! $ fjoin ! $ nothing ! $ fjoin ! $
    returns ! (look_at ! 0 refl) $ free_all ! refl $ keep ! (2 ∷ 0 ∷ 4 ∷ 1 ∷ []) $ by ! (leaves 𝓛 En hs c z (marked (vptr b o)) d (tt, (tt, tt)) (tt, (tt, tt))))))))))))))))))
