-- The box goes whole into the call that takes it apart; the address and the right to free come out and are the loose block.
use Rattle.std.proofs.Common.{◌≡◌, List, [], ◌∷◌, ◌++◌, refl, ap}
use mir.Syntax.{a_type, dcons, dnil}
use mir.MapTy.{inst_fn}
use mir.Val.{Val}
use base.Logic.{emp, id⊢}
use types.Kit.{‵, raw, ◌⊛◌, some, later, ◌$◌, ◌∵◌, !, qed, move, drop, split, join, fjoin, pick, suffices, rewrite, use0, use1, await, feq_l, done}
use types.Run.{of_opd, no_more, and_then, returns}
use types.ByLocal.{alloc_all, pass_all, free_all, look_at, get, sets, lands_as}
use types.Part.{agg}
use contract.Monad.{fact, fact_i}
use contract.Running.{tables}
use denote.Exit.{no}
use denote.RattleType.{owns}
use denote.Signature.{plain}
use denote.Builtin.{RawPtr}
use denote.RawPtr.{Ptr, ptr_val}
use denote.Steps.{nothing, only}
use denote.Param.{param, layout, bounded}
use denote.Param.Laws.{param_laws}
use denote.Triple.Entry.{alive}
use denote.Triple.Clauses.{Lasts, lasts}
use denote.Triple.Spec.{triple_of}
use denote.Triple.Table.{framed}
use denote.Triple.Call.{calls_at}
use denote.Triple.Walked.{Stays, stay_dropped, ends_at}
use Rattle.core.proofs.alloc.Calls.{Goes-blank}
use Rattle.core.proofs.atomic.Steps.{Ptr-Good}
use Rattle.core.proofs.cell.Inside.{one}
use Rattle.std.proofs.raw_atomic.Walks.{proved_at}
use Rattle.std_alloc.proofs.boxed.Box.TheLaws.{the_row_laws as box_laws}
use Rattle.std_alloc.proofs.boxed.Box.into_raw.Met as apart
use Rattle.std_alloc.specs.contracts.boxed.Box as boxes
use Rattle.std_alloc.specs.contracts.boxed.Box.into_raw as takes_apart
use Rattle.table_cell.proofs.Values.{marked, loose_good, loose_in}
use Rattle.table_cell.proofs.Walks.{begins}
use Rattle.table_cell.specs.Words.{freeable}
use Rattle.table_cell.specs.contracts.loose_block.LooseBlock.of as f
use Rattle.table_cell.proofs.loose_block.LooseBlock.of.Statement.{statement}
use Rattle.table_cell.proofs.loose_block.LooseBlock.of.Code as code

pub of_spec : {M : Type 1} → statement M
of_spec 𝓤 𝓛 𝓜 𝓡 wired T A L LA g d dx dd allocator glue glued =
    let En = f.ended T A g d dx dd in let c = f.clauses T A g d dx dd 𝓛 𝓜.mem 𝓡.returns in let R = param 0 T in let Y = param 1 A in
    let types = bounded (a_type ∷ a_type ∷ []) (T, (A, tt)) (dcons d (dcons dx (dcons dd dnil))) in let fn = inst_fn types code.function in
    let Boxes = boxes.the_row R Y g in let the_box = plain (λ _. Boxes) in let spent : Stays En.signature.params En.kept = (stay_dropped the_box no, tt) in
    proved_at 𝓛 En spent c 𝓜 𝓡 (Goes-blank 𝓛 2 the_box no (λ κs x w. tt), tt) (f.Key.name types) fn (code.unfolded 𝓤 𝓛.H 𝓜 𝓡 wired (T, (A, tt)) d dx dd) (λ y are.
    let of_box = y.0.3.0 in let Alive = raw (alive 𝓛 En.signature y.0.0 y.0.1) in
    let laid = one (layout Boxes) y.0.4.0 (((box_laws R Y g (param_laws 0 T L) (param_laws 1 A LA)).lawful 𝓛).typed of_box y.0.4.0 are.0) in
    let Taken = takes_apart.ended T A g d dd dx in let Apart = triple_of 𝓛 (takes_apart.signature T A g d dd dx) (takes_apart.spec T A g d dd dx 𝓛 𝓜.mem 𝓡.returns) in
    let z : Apart.Ghost = ((y.0.0, y.0.1, y.0.2, y.0.3, (laid.0 ∷ [], tt)), tt) in
    let Said = (of_box.value ≡ of_box.value) × (of_box.alloc ≡ of_box.alloc) in
    qed 𝓛 ((Alive ⊛ ‵ (owns (Boxes ∷ []) y.0.3 y.0.4)) ∷ raw ((c y.0.0 y.0.3).requires y.1) ∷ []) ∵
    split ! $ move ! (1 ∷ []) $ rewrite ! 0 (λ (us : List Val). ‵ (owns (Boxes ∷ []) y.0.3 (us, tt))) laid.1 refl $ move ! (1 ∷ 0 ∷ []) $ join ! $ join ! $ use1 𝓛 (raw (Apart.pre z)) (id⊢ 𝓤 _) $
    begins ! fn (λ i. laid.1 i ++ []) $ alloc_all ! (λ l. pass_all ! refl (laid.2, tt) $ sets ! (of_opd ! (get ! refl)) refl laid.2 $
    calls_at ! (framed 𝓤 𝓛.H 𝓜 (tables 𝓤 𝓛.H 𝓜 𝓡 𝓡.env)) Apart (apart.met 𝓤 𝓛 𝓜 𝓡 (code.calls-std_alloc::boxed::Box::into_raw 𝓡.env wired) T A L LA g d dd dx allocator glued glue) z
    (and_then ! (get ! refl) (no_more !)) (λ u.
    use1 𝓛 (later (some (λ (p : Ptr). (Alive ⊛ ‵ (RawPtr.own_val p (u ∷ []))) ⊛ some (λ (end : Lasts Taken y.0.0 y.0.3). ‵ (lasts Taken y.0.0 y.0.3 end) ⊛ ‵ (freeable R (g.dealloc_token of_box.alloc) p of_box.value))))) (id⊢ 𝓤 _) $
    await ! tt $ pick ! (λ p. split ! $ split ! $ move ! (1 ∷ []) $ feq_l ! (λ at. lands_as ! (ap only at) refl (Ptr-Good p) $
    sets ! (agg ! (no_more !)) refl (tt, tt) $ sets ! (agg ! (and_then ! (get ! refl) (and_then ! (get ! refl) (no_more !)))) refl (loose_good R Y g p) $
    returns ! (look_at ! 0 refl) $ free_all ! refl $
    suffices ! _ (ends_at 𝓛 En spent c y (marked (ptr_val p)) (record { at = p; allocator = record {}; value = of_box.value; from = of_box.alloc }) ((tt, (tt, tt)), tt) (tt, tt)) $
    -- [the tokens; how the box ended, and the block]
    move ! (1 ∷ []) $ pick ! (λ end. split ! $ drop ! $ loose_in R Y g ! p of_box.alloc of_box.value $ nothing ! $ nothing ! $ fjoin ! $ join ! $ move ! (1 ∷ 0 ∷ []) $ join ! $
    use0 𝓛 (raw (fact 𝓤 Said)) (fact_i 𝓤 Said (emp 𝓤) (refl, refl)) $ move ! (1 ∷ 0 ∷ []) $ join ! $ done !))))))
