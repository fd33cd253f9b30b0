-- A request that is refused gets no block, and any other gets what the memory below answers, as it comes. Assumes `Logic`.
use Rattle.std.proofs.Common.{◌≡◌, ℕ, Bool, false, Err, [], ◌∷◌, refl, w64}
use mir.Syntax.{a_type, dcons, dnil, named}
use mir.MapTy.{inst_fn}
use mir.Val.{vbool, vptr}
use base.Logic.{emp, id⊢}
use base.Fml.{ftrue, fsep}
use types.Kit.{‵, raw, ◌⊛◌, some, later, given, at_ret, ◌$◌, ◌∵◌, !, qed, move, keep, drop, use0, use1, use2, split, join, fsplit, fjoin, pick, learn, await, suffices, done}
use types.Run.{enter, lit, no_more, and_then, first, branches, skips, exec, returns, returns_within}
use types.Part.{agg}
use types.ByLocal.{alloc_all, pass_all, free_all, look_at, get, sets, lands_as, env}
use contract.BorrowLft.{◌⊑◌}
use contract.Monad.{fact, fact_i}
use contract.Running.{tables}
use borrow.Table.RawPtr.{ptr_laws}
use denote.Builtin.{usize, RefOf}
use denote.Exit.{yes}
use denote.Laws.{Is, shows}
use denote.Param.{bounded, param}
use denote.Param.Laws.{param_laws}
use denote.Plain.{uint_vals, uint_Tells}
use denote.RattleType.{owns}
use denote.RawPtr.{RawPtr}
use denote.Ref.{shr_vals, shr_Tells, shr_copy}
use denote.Signature.{Slot, plain}
use denote.Steps.{heard, nothing, peeks}
use denote.Triple.Call.{calls_at}
use denote.Triple.Spec.{triple_of}
use denote.Triple.Table.{framed}
use denote.Triple.Walked.{Stays, walk_of, stay_dropped, Goes-dropped, ends_at}
use Rattle.core.proofs.alloc.Shapes.{after}
use Rattle.core.proofs.alloc.AllocError.TheLaws.{the_row_laws as error_laws}
use Rattle.core.proofs.result.Result.TheLaws.{the_row_laws as result_laws}
use Rattle.core.specs.Allocator.{HasLayout, block_if_ok}
use Rattle.core.specs.contracts.alloc.AllocError as error
use Rattle.core.specs.contracts.alloc.Allocator.allocate as inner
use Rattle.std.proofs.alloc.Calls.{Answer, answer_val, Answer-typed, Answer-err}
use Rattle.std.proofs.raw_atomic.Walks.{proved}
use Rattle.testkit.proofs.Calls.{Reach, Ask, Tokens, Heap, Below, below, to_reach, to_ask, reach_begins, reach_ends, ask_begins, ask_ends}
use Rattle.testkit.proofs.refusing.Refusing.TheLaws.{the_row_laws}
use Rattle.testkit.proofs.refusing.Refusing.memory.Met as lends
use Rattle.testkit.proofs.refusing.Refusing.refuses.Met as judges
use Rattle.testkit.specs.Rules.{memory_of}
use Rattle.testkit.specs.contracts.refusing.Refusing as ruled
use Rattle.testkit.specs.contracts.refusing.RefusingAllocator.allocate as f
use Rattle.testkit.proofs.refusing.RefusingAllocator.allocate.Statement.{statement}
use Rattle.testkit.proofs.refusing.RefusingAllocator.allocate.Code as code

pub allocate_spec : {M : Type 1} → statement M
allocate_spec 𝓤 𝓛 𝓜 𝓡 wired B L g d dd met glued =
    let 𝓣 = tables 𝓤 𝓛.H 𝓜 𝓡 𝓡.env in let fm = framed 𝓤 𝓛.H 𝓜 𝓣 in
    let c = f.clauses B g d dd 𝓛 𝓜.mem 𝓡.returns in
    let stayed : Stays (f.ended B g d dd).signature.params (f.ended B g d dd).kept = (stay_dropped _ yes, (stay_dropped _ yes, (stay_dropped _ yes, tt))) in
    let W = walk_of 𝓛 (f.ended B g d dd) stayed c in
    let Ruled = ruled.the_row (param 0 B) in
    let handle : Slot 2 = RefOf (0 ∷ []) tt (plain (λ _. Ruled)) (λ _. tt) in
    let gone = λ (s : Slot 2). Goes-dropped 𝓛 2 s yes in
    let types = bounded (a_type ∷ []) (B, tt) (dcons d (dcons dd dnil)) in let fn = inst_fn types code.function in
    proved 𝓛 (f.ended B g d dd) stayed c 𝓜 𝓡
    (gone handle (λ κs x w. refl), (gone (plain (λ _. usize)) (λ κs x w. refl), (gone (plain (λ _. usize)) (λ κs x w. refl), tt)))
    (f.Key.name types) fn (code.unfolded 𝓤 𝓛.H 𝓜 𝓡 wired (B, tt) d dd)
    (λ κs. (shr_vals, (uint_vals w64, (uint_vals w64, tt)))) (λ κs. (shr_Tells (named 0) κs.0 Ruled, (uint_Tells w64, (uint_Tells w64, tt)))) (λ κs qs bounds a τ are.
    let heap = a.0 in let bytes = a.1.0 in let aligned = a.1.1.0 in let mem = 𝓜.mem in let run = 𝓡.returns in
    let y : W.Ghost = ((κs, qs, bounds, a, (shr_vals heap, (uint_vals w64 bytes, (uint_vals w64 aligned, tt)))), τ) in
    let Alive = raw (Tokens B g d dd 𝓛 mem run κs qs bounds heap) in
    let Handle = ‵ (Heap B g d dd 𝓛 mem run κs qs bounds heap) in
    let Within = raw (fact 𝓤 (κs.1.0 ⊑ B.lives)) in
    let judged = to_ask B g d dd 𝓛 mem run κs qs bounds heap bytes in
    let reaches = to_reach B g d dd 𝓛 mem run κs qs bounds heap in
    let Inner = triple_of 𝓛 (inner.signature B) (inner.spec B g d dd 𝓛 mem run) in
    let asks : ℕ × ℕ → Inner.Ghost = λ m. ((κs, qs, bounds, (below B g d dd 𝓛 mem run κs qs bounds heap m, a.1), (vptr m.0 m.1 ∷ [], y.0.4.1)), τ) in
    qed 𝓛 ((Alive ⊛ ‵ (fsep (Heap B g d dd 𝓛 mem run κs qs bounds heap) (owns (usize ∷ usize ∷ []) a.1 y.0.4.1))) ∷ (Within ⊛ raw (fact 𝓤 (HasLayout τ bytes aligned))) ∷ []) ∵
    split ! $ move ! (1 ∷ []) $ fsplit ! $ move ! (3 ∷ []) $ split ! $ heard ! (κs.1.0 ⊑ B.lives) (λ within. move ! (1 ∷ []) $
    use1 𝓛 (Handle ⊛ Handle) ((shr_copy 𝓛 (named 0) κs.0 Ruled (the_row_laws (param 0 B) (param_laws 0 B L)).shr_laws).twice heap (shr_vals heap)) $ split ! $ move ! (4 ∷ 0 ∷ 1 ∷ []) $
    -- [the tokens; the handle, twice; that the layout is one; the other arguments]
    enter ! _ _ _ _ _ $ alloc_all ! (λ l. pass_all ! refl ((tt, tt), ((tt, record { fits = are.1.0.1 }), ((tt, record { fits = are.1.1.0.1 }), tt))) $
    use2 𝓛 (raw ((Ask B g d dd 𝓛 mem run).pre judged)) (ask_begins B g d dd 𝓛 mem run κs qs bounds heap within bytes are.1.0.1) $
    calls_at ! fm (Ask B g d dd 𝓛 mem run) (judges.met 𝓤 𝓛 𝓜 𝓡 (code.calls-testkit::refusing::Refusing::refuses 𝓡.env wired) B L g d dd met glued) judged (and_then ! (get ! refl) (and_then ! (get ! refl) (no_more !))) (λ v.
    use1 𝓛 (later (some (λ (refused : Bool). given (v ≡ vbool refused) Alive))) (ask_ends B g d dd 𝓛 mem run κs qs bounds heap bytes v) $
    await ! tt $ pick ! (λ refused. learn ! (λ told. lands_as ! told refl (tt, tt) $ first ! $ branches ! (get ! refl)
    (λ refuses. sets ! (agg ! (no_more !)) refl (tt, tt) $ sets ! (agg ! (and_then ! (lit ! tt) (and_then ! (get ! refl) (no_more !)))) refl (Answer-typed false 0 0) $
    returns_within ! (W.post y) refl (look_at ! 0 refl) $ free_all ! refl $ keep ! (0 ∷ []) $
    suffices ! _ (ends_at 𝓛 (f.ended B g d dd) stayed c y (answer_val false 0 0) (Err (record {})) (tt, (tt, (tt, tt))) (tt, (tt, (tt, tt)))) $
    nothing ! $ use0 𝓛 (‵ (Answer.own_val (Err (record {})) (answer_val false 0 0 ∷ []))) (Answer-err 𝓛) $ nothing ! $ nothing ! $ fjoin ! $ nothing ! $ fjoin ! $ nothing ! $ fjoin ! $ join ! $
    move ! (2 ∷ 0 ∷ []) $ join ! $ join ! $ done !)
    (λ grants. skips ! $ exec ! 𝓣.C 𝓣.Λ (env fn.locals l) (after 2 fn.body) (at_ret _ (W.post y)) $
    use2 𝓛 (raw ((Reach B g d dd 𝓛 mem run).pre reaches)) (reach_begins B g d dd 𝓛 mem run κs qs bounds heap within) $
    calls_at ! fm (Reach B g d dd 𝓛 mem run) (lends.met 𝓤 𝓛 𝓜 𝓡 (code.calls-testkit::refusing::Refusing::memory 𝓡.env wired) B L g d dd met glued) reaches (and_then ! (get ! refl) (no_more !)) (λ w.
    use1 𝓛 (later (some (λ (m : ℕ × ℕ). given (w ≡ vptr m.0 m.1) (Alive ⊛ ‵ (Below B g d dd 𝓛 mem run κs qs bounds heap m))))) (reach_ends B g d dd 𝓛 mem run κs qs bounds heap w) $
    await ! tt $ pick ! (λ m. learn ! (λ lent. lands_as ! lent refl (tt, tt) $ split ! $
    -- [the tokens; the memory below; that the layout is one; the other arguments]
    move ! (1 ∷ 3 ∷ []) $ fjoin ! $ move ! (1 ∷ 0 ∷ []) $ join ! $ move ! (1 ∷ []) $ use0 𝓛 Within (fact_i 𝓤 (κs.1.0 ⊑ B.lives) (emp 𝓤) within) $ join ! $ move ! (1 ∷ 0 ∷ []) $
    join ! $ use1 𝓛 (raw (Inner.pre (asks m))) (id⊢ 𝓤 _) $
    calls_at ! fm Inner (met.allocate dd) (asks m) (and_then ! (get ! refl) (and_then ! (get ! refl) (and_then ! (get ! refl) (no_more !)))) (λ u.
    use1 𝓛 (later (some (λ (r : Answer.Denot). (Alive ⊛ ‵ (Answer.own_val r (u ∷ []))) ⊛ some (λ (end : Unit {0} × (Unit {0} × (Unit {0} × Unit {0}))).
    ‵ (fsep ftrue (fsep ftrue (fsep ftrue ftrue))) ⊛ ‵ (block_if_ok (g.dealloc_token (memory_of heap.now)) τ r))))) (id⊢ 𝓤 _) $ await ! tt $ pick ! (λ r.
    split ! $ move ! (1 ∷ []) $ pick ! (λ end. split ! $ drop ! $ move ! (1 ∷ []) $ split ! $ move ! (1 ∷ []) $ peeks ! Answer (Is Answer) (shows 𝓛 Answer) r (u ∷ []) (λ is.
    lands_as ! refl refl (((result_laws RawPtr error.the_row ptr_laws error_laws).lawful 𝓛).typed r (u ∷ []) is).0 $ returns ! (look_at ! 0 refl) $ free_all ! refl $
    -- [the answer; the tokens; the block, if there is one]
    suffices ! _ (ends_at 𝓛 (f.ended B g d dd) stayed c y u r (tt, (tt, (tt, tt))) (tt, (tt, (tt, tt)))) $
    nothing ! $ nothing ! $ fjoin ! $ nothing ! $ fjoin ! $ nothing ! $ fjoin ! $ join ! $ move ! (1 ∷ 0 ∷ []) $ join ! $ join ! $ done !))))))))))))))
