-- The block goes to the memory below as it came: neither the walk nor that memory's contract looks into it. Assumes `Logic`.
use Rattle.std.proofs.Common.{◌≡◌, ℕ, [], ◌∷◌, refl, ap, w64}
use mir.Syntax.{a_type, dcons, dnil, named}
use mir.MapTy.{inst_fn}
use mir.Val.{vptr, vunit}
use base.Logic.{emp, id⊢}
use base.Fml.{ftrue, fsep}
use types.Kit.{‵, raw, ◌⊛◌, some, later, given, ◌$◌, ◌∵◌, !, qed, move, keep, use0, use1, use2, split, join, fsplit, fjoin, pick, learn, feq_i, feq_l, await, suffices, done}
use types.Run.{enter, of_opd, unit_lit, no_more, and_then, returns}
use types.ByLocal.{alloc_all, pass_all, free_all, look_at, get, sets, lands_as}
use contract.BorrowLft.{◌⊑◌}
use contract.Monad.{fact, fact_i}
use contract.Running.{tables}
use denote.Builtin.{unit, usize, RefOf}
use denote.Exit.{yes}
use denote.Param.{bounded, param}
use denote.Plain.{uint_vals, uint_Tells}
use denote.RattleType.{owns}
use denote.RawPtr.{RawPtr, rawptr_vals, rawptr_Tells}
use denote.Ref.{shr_vals, shr_Tells}
use denote.Signature.{Slot, plain}
use denote.Steps.{heard, nothing, only}
use denote.Triple.Call.{calls_at}
use denote.Triple.Spec.{triple_of}
use denote.Triple.Table.{framed}
use denote.Triple.Walked.{Stays, walk_of, stay_dropped, Goes-dropped, ends_at}
use Rattle.core.specs.contracts.alloc.Allocator.deallocate as inner
use Rattle.core.proofs.atomic.Steps.{Ptr-Good}
use Rattle.std.proofs.raw_atomic.Walks.{proved}
use Rattle.testkit.proofs.Calls.{Reach, Tokens, Heap, Below, below, to_reach, reach_begins, reach_ends}
use Rattle.testkit.proofs.refusing.Refusing.memory_of_returned.Met as counts
use Rattle.core.specs.Allocator.{HasLayout, owned_block}
use Rattle.testkit.specs.Rules.{memory_of}
use Rattle.testkit.specs.contracts.refusing.Refusing as ruled
use Rattle.testkit.specs.contracts.refusing.RefusingAllocator.deallocate as f
use Rattle.testkit.proofs.refusing.RefusingAllocator.deallocate.Statement.{statement}
use Rattle.testkit.proofs.refusing.RefusingAllocator.deallocate.Code as code

pub deallocate_spec : {M : Type 1} → statement M
deallocate_spec 𝓤 𝓛 𝓜 𝓡 wired B L g d dd met glued =
    let 𝓣 = tables 𝓤 𝓛.H 𝓜 𝓡 𝓡.env in let fm = framed 𝓤 𝓛.H 𝓜 𝓣 in
    let c = f.clauses B g d dd 𝓛 𝓜.mem 𝓡.returns in
    let stayed : Stays (f.ended B g d dd).signature.params (f.ended B g d dd).kept = (stay_dropped _ yes, (stay_dropped _ yes, (stay_dropped _ yes, (stay_dropped _ yes, tt)))) in
    let W = walk_of 𝓛 (f.ended B g d dd) stayed c in
    let handle : Slot 2 = RefOf (0 ∷ []) tt (plain (λ _. ruled.the_row (param 0 B))) (λ _. tt) in
    let gone = λ (s : Slot 2). Goes-dropped 𝓛 2 s yes in
    let types = bounded (a_type ∷ []) (B, tt) (dcons d (dcons dd dnil)) in
    proved 𝓛 (f.ended B g d dd) stayed c 𝓜 𝓡
    (gone handle (λ κs x w. refl), (gone (plain (λ _. RawPtr)) (λ κs x w. refl), (gone (plain (λ _. usize)) (λ κs x w. refl), (gone (plain (λ _. usize)) (λ κs x w. refl), tt))))
    (f.Key.name types) (inst_fn types code.function) (code.unfolded 𝓤 𝓛.H 𝓜 𝓡 wired (B, tt) d dd)
    (λ κs. (shr_vals, (rawptr_vals, (uint_vals w64, (uint_vals w64, tt)))))
    (λ κs. (shr_Tells (named 0) κs.0 (ruled.the_row (param 0 B)), (rawptr_Tells, (uint_Tells w64, (uint_Tells w64, tt))))) (λ κs qs bounds a τ are.
    let heap = a.0 in let p = a.1.0 in let bytes = a.1.1.0 in let aligned = a.1.1.1.0 in let mem = 𝓜.mem in let run = 𝓡.returns in
    let y : W.Ghost = ((κs, qs, bounds, a, (shr_vals heap, (rawptr_vals p, (uint_vals w64 bytes, (uint_vals w64 aligned, tt))))), τ) in
    let Alive = raw (Tokens B g d dd 𝓛 mem run κs qs bounds heap) in
    let Others = owns (RawPtr ∷ usize ∷ usize ∷ []) a.1 y.0.4.1 in
    let Block = raw (fact 𝓤 (HasLayout τ bytes aligned)) ⊛ ‵ (owned_block (g.dealloc_token (memory_of heap.now)) τ p) in
    let reaches = to_reach B g d dd 𝓛 mem run κs qs bounds heap in
    let Inner = triple_of 𝓛 (inner.signature B) (inner.spec B g d dd 𝓛 mem run) in
    let gives_back : ℕ × ℕ → Inner.Ghost = λ m. ((κs, qs, bounds, (below B g d dd 𝓛 mem run κs qs bounds heap m, a.1), (vptr m.0 m.1 ∷ [], y.0.4.1)), τ) in
    qed 𝓛 ((Alive ⊛ ‵ (fsep (Heap B g d dd 𝓛 mem run κs qs bounds heap) Others)) ∷ (raw (fact 𝓤 (κs.1.0 ⊑ B.lives)) ⊛ Block) ∷ []) ∵
    split ! $ move ! (1 ∷ []) $ fsplit ! $ move ! (3 ∷ []) $ split ! $ heard ! (κs.1.0 ⊑ B.lives) (λ within. move ! (3 ∷ 1 ∷ 2 ∷ 0 ∷ []) $
    -- [the tokens; the handle; the other arguments; the block]
    enter ! _ _ _ _ _ $ alloc_all ! (λ l. pass_all ! refl ((tt, tt), (Ptr-Good p, ((tt, record { fits = are.1.1.0.1 }), ((tt, record { fits = are.1.1.1.0.1 }), tt)))) $
    use2 𝓛 (raw ((Reach B g d dd 𝓛 mem run).pre reaches)) (reach_begins B g d dd 𝓛 mem run κs qs bounds heap within) $
    calls_at ! fm (Reach B g d dd 𝓛 mem run) (counts.met 𝓤 𝓛 𝓜 𝓡 (code.calls-testkit::refusing::Refusing::memory_of_returned 𝓡.env wired) B L g d dd met glued) reaches
    (and_then ! (get ! refl) (no_more !)) (λ v.
    use1 𝓛 (later (some (λ (m : ℕ × ℕ). given (v ≡ vptr m.0 m.1) (Alive ⊛ ‵ (Below B g d dd 𝓛 mem run κs qs bounds heap m))))) (reach_ends B g d dd 𝓛 mem run κs qs bounds heap v) $
    await ! tt $ pick ! (λ m. learn ! (λ lent. lands_as ! lent refl (tt, tt) $ split ! $
    -- [the tokens; the memory below; the other arguments; the block]
    move ! (1 ∷ 2 ∷ []) $ fjoin ! $ move ! (1 ∷ 0 ∷ []) $ join ! $ move ! (1 ∷ []) $ use0 𝓛 (raw (fact 𝓤 (κs.1.0 ⊑ B.lives))) (fact_i 𝓤 (κs.1.0 ⊑ B.lives) (emp 𝓤) within) $ join ! $ move ! (1 ∷ 0 ∷ []) $
    join ! $ use1 𝓛 (raw (Inner.pre (gives_back m))) (id⊢ 𝓤 _) $
    calls_at ! fm Inner (met.deallocate dd) (gives_back m) (and_then ! (get ! refl) (and_then ! (get ! refl) (and_then ! (get ! refl) (and_then ! (get ! refl) (no_more !))))) (λ u.
    use1 𝓛 (later (some (λ (r : Unit {0}). (Alive ⊛ ‵ (unit.own_val r (u ∷ []))) ⊛ some (λ (end : Unit {0} × (Unit {0} × (Unit {0} × (Unit {0} × Unit {0})))).
    ‵ (fsep ftrue (fsep ftrue (fsep ftrue (fsep ftrue ftrue)))) ⊛ ‵ ftrue)))) (id⊢ 𝓤 _) $ await ! tt $ pick ! (λ r. split ! $ split ! $ move ! (1 ∷ []) $ feq_l ! (λ none. lands_as ! (ap only none) refl (tt, tt) $
    sets ! (of_opd ! (unit_lit !)) refl (tt, tt) $ returns ! (look_at ! 0 refl) $ free_all ! refl $
    suffices ! _ (ends_at 𝓛 (f.ended B g d dd) stayed c y vunit tt (tt, (tt, (tt, (tt, tt)))) (tt, (tt, (tt, (tt, tt))))) $
    keep ! (0 ∷ []) $ nothing ! $ feq_i ! _ (vunit ∷ []) _ refl $ nothing ! $ nothing ! $ fjoin ! $ nothing ! $ fjoin ! $ nothing ! $ fjoin ! $ nothing ! $ fjoin ! $ join ! $
    move ! (2 ∷ 0 ∷ []) $ join ! $ join ! $ done !)))))))))
