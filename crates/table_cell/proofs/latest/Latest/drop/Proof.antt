-- `drop` forgets the block.
use Rattle.std.proofs.Common.{◌≡◌, List, [], ◌∷◌, ◌++◌, refl, ap, subst}
use mir.Syntax.{a_type, dcons, dnil}
use mir.Val.{Val, vunit}
use mir.MapTy.{inst_fn}
use base.Logic.{SProp, emp, id⊢}
use base.Fml.{ftrue, flft}
use types.Kit.{‵, raw, ◌⊛◌, some, later, ◌$◌, ◌∵◌, !, qed, by, move, keep, drop, split, split3, join, fsplit, fjoin, fpick, pick, use0, use1, await, feq_i, feq_l}
use types.Run.{stop, fld, unit_lit, of_opd, no_more, and_then, returns}
use types.ByLocal.{alloc_all, pass_all, free_all, look_at, get, get_in, sets, lands_as, env}
use types.Part.{sub, whole}
use contract.Monad.{fact, fact_i}
use contract.BorrowLft.{◌⊑◌}
use contract.Running.{tables}
use denote.Exit.{no}
use denote.RattleType.{RattleType, owns}
use denote.Laws.{Typed}
use denote.Signature.{types_at, plain}
use denote.Builtin.{RawPtr}
use denote.RawPtr.{Ptr}
use denote.Steps.{nothing, only, heard}
use denote.Param.{param, bounded}
use denote.Param.Laws.{param_laws}
use denote.Triple.Clauses.{Lasts, lasts}
use denote.Triple.Spec.{triple_of}
use denote.Triple.Call.{calls_at}
use denote.Triple.Walked.{Stays, stay_dropped, walk_of, Goes-dropped}
use Rattle.std.specs.Sync.Atomic.Pointer.{atomic_ptr_holding}
use Rattle.core.specs.contracts.atomic.ptr.AtomicPtr as atomic
use Rattle.core.proofs.atomic.ptr.AtomicPtr.TheLaws as atomic_laws
use Rattle.core.proofs.atomic.Steps.{Ptr-Good, fm}
use Rattle.table_cell.proofs.Walks.{begins}
use Rattle.std.proofs.raw_atomic.Walks.{proved_at, leaves}
use Rattle.table_cell.specs.contracts.latest.Latest as latest
use Rattle.table_cell.proofs.Values.{marked, word_out}
use Rattle.table_cell.specs.contracts.latest.Latest.drop.{ended, clauses}
use Rattle.table_cell.specs.contracts.latest.Latest.drop.Key.{name as #self}
use Rattle.table_cell.proofs.latest.Latest.drop.Statement.{statement}
use Rattle.table_cell.proofs.latest.Latest.drop.Code as code
use Rattle.core.specs.contracts.atomic.ptr.AtomicPtr.into_inner as callee
use Rattle.core.proofs.atomic.ptr.AtomicPtr.into_inner.Met.{met}

pub drop_spec : {M : Type 1} → statement M
drop_spec 𝓤 𝓛 𝓜 𝓡 wired T A L LA f fd g d td dd homed alloc tglued glued =
    let H = 𝓛.H in let 𝓣 = tables 𝓤 H 𝓜 𝓡 𝓡.env in let R : RattleType = param 0 T in let LR = param_laws 0 T L in let Y : RattleType = param 1 A in let En = ended T A f fd g d td dd in let c = clauses T A f fd g d td dd 𝓛 𝓜.mem 𝓡.returns in
    let inst = bounded (a_type ∷ a_type ∷ []) (T, (A, tt)) (dcons fd (dcons d (dcons td (dcons dd dnil)))) in let fn = inst_fn inst code.function in let P : RattleType = atomic.the_row R in let LP = atomic_laws.the_row_laws R LR in
    let W : RattleType = latest.the_row R Y f g in let hs : Stays En.signature.params En.kept = (stay_dropped (plain (λ _. W)) no, tt) in
    proved_at 𝓛 En hs c 𝓜 𝓡 (Goes-dropped 𝓛 2 (plain (λ _. W)) no (λ κs x f. refl), tt) (#self inst) fn (code.unfolded 𝓤 H 𝓜 𝓡 wired (T, (A, tt)) fd d td dd) (λ z are.
    let κs = z.0.0 in let qs = z.0.1 in let Post : Val → SProp 𝓤 = (walk_of 𝓛 En hs c).post z in
    let κT = κs.0 in let qT = qs.0 in let tok = ‵ (flft κT qT) ⊛ ‵ ftrue in let k = triple_of 𝓛 (callee.signature T) (callee.spec T 𝓛 𝓜.mem 𝓡.returns) in
    qed 𝓛 (((‵ (flft κT qT) ⊛ ‵ (flft κs.1.0 qs.1.0) ⊛ ‵ ftrue) ⊛ ‵ (owns (types_at En.signature.params κs) z.0.3 z.0.4)) ∷ raw (fact 𝓤 (κT ⊑ T.lives)) ∷ raw (fact 𝓤 (κs.1.0 ⊑ A.lives)) ∷ ‵ ftrue ∷ []) ∵
    move ! (1 ∷ []) $ heard ! (κT ⊑ T.lives) (λ within. keep ! (0 ∷ []) $ split ! $ split3 ! $ move ! (3 ∷ []) $ fsplit ! $ fsplit ! $ fpick ! (λ laid. drop ! $ fpick ! (λ p. fsplit ! $
    word_out P Y (atomic_ptr_holding p) ! refl (LP.lawful 𝓛) z.0.4.0 (λ v gv ws. let w : Val = marked v in
    -- [the pointer; beside it; nothing; T's token; A's token; nothing]
    let y : k.Ghost = (((κT, tt), (qT, tt), tt, (atomic_ptr_holding p, tt), (v ∷ [], tt)), tt) in
    nothing ! $ move ! (1 ∷ 0 ∷ []) $ fjoin ! $ move ! (3 ∷ 5 ∷ []) $ join ! $ join ! $ use0 𝓛 (raw (fact 𝓤 (κT ⊑ T.lives))) (fact_i 𝓤 (κT ⊑ T.lives) (emp 𝓤) within) $ nothing ! $ move ! (1 ∷ 0 ∷ []) $ join ! $ move ! (1 ∷ 0 ∷ []) $ join ! $
    use1 𝓛 (raw (k.pre y)) (id⊢ 𝓤 _) $
    begins ! fn (λ i. ws i ++ []) $ alloc_all ! (λ l. pass_all ! refl ((subst (Typed W.mir) ws laid).0, tt) $ let Ev = env fn.locals l in
    sets ! (of_opd ! (get_in ! (fld ! refl (stop !)) (sub ! 0 refl (whole !)))) refl gv $ sets ! (of_opd ! (get ! refl)) refl gv $ calls_at ! (fm 𝓛 𝓜 𝓡) k (met 𝓤 𝓛 𝓜 𝓡 (code.calls-core::atomic::ptr::AtomicPtr::into_inner 𝓡.env wired) T L) y (and_then ! (get ! refl) (no_more !)) (λ u.
    use1 𝓛 (later (some (λ (r : Ptr). (tok ⊛ ‵ (RawPtr.own_val r (u ∷ []))) ⊛ some (λ (ls : Lasts (callee.ended T) (κT, tt) y.0.3). ‵ (lasts (callee.ended T) (κT, tt) y.0.3 ls) ⊛ raw (fact 𝓤 (r ≡ p)))))) (id⊢ 𝓤 (k.post y u)) $
    await ! tt $ pick ! (λ r. split ! $ move ! (1 ∷ []) $ drop ! $ split ! $ move ! (1 ∷ []) $ feq_l ! (λ e. split ! $
    -- [T's token; nothing; beside it; nothing; A's token]
    move ! (4 ∷ 1 ∷ []) $ join ! $ move ! (1 ∷ 0 ∷ []) $ join ! $
    lands_as ! (ap only e) refl (Ptr-Good r) $ sets ! (of_opd ! (unit_lit !)) refl (tt, tt) $ feq_i ! (List Val) (vunit ∷ []) (vunit ∷ []) refl $ nothing ! $ nothing ! $ nothing ! $ fjoin ! $
    returns ! (look_at ! 0 refl) $ free_all ! refl $ keep ! (3 ∷ 0 ∷ 2 ∷ 1 ∷ []) $ by ! (leaves 𝓛 En hs c z vunit tt (tt, tt) (tt, tt)))))))))))
