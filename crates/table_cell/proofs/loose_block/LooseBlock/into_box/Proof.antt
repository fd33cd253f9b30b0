-- The address and the right to free go, with the allocator that they came from, into the call that makes a box of them.
use Rattle.std.proofs.Common.{◌≡◌, List, [], ◌∷◌, ◌++◌, refl, sym}
use mir.Syntax.{a_type, dcons, dnil}
use mir.MapTy.{inst_fn}
use mir.Val.{Val}
use base.Logic.{id⊢}
use types.Kit.{‵, raw, ◌⊛◌, some, later, at_ret, ◌$◌, ◌∵◌, !, qed, move, keep, drop, split, split3, join, fsplit, fjoin, pick, suffices, rewrite, use1, await, feq_i, done}
use types.Run.{stop, fld, of_opd, no_more, and_then, first, blocks, exec, returns}
use types.ByLocal.{alloc_all, pass_all, free_all, look_at, get, get_in, sets, lands_last, env}
use types.Part.{sub, whole}
use contract.BorrowLft.{◌⊑◌}
use contract.Monad.{fact}
use contract.Running.{tables}
use denote.Exit.{no}
use denote.Laws.{Is, shows}
use denote.RattleType.{owns}
use denote.Signature.{types_at, plain}
use denote.RawPtr.{ptr_val}
use denote.Steps.{nothing, heard, peeks}
use denote.Param.{param, layout, bounded}
use denote.Param.Laws.{param_laws}
use denote.Triple.Clauses.{Lasts, lasts}
use denote.Triple.Entry.{alive}
use denote.Triple.Spec.{triple_of}
use denote.Triple.Table.{framed}
use denote.Triple.Call.{calls_at_last}
use denote.Triple.Walked.{Stays, stay_dropped, walk_of, ends_at}
use Rattle.core.proofs.alloc.Calls.{Goes-blank}
use Rattle.core.proofs.alloc.Shapes.{after}
use Rattle.core.proofs.atomic.Steps.{Ptr-Good}
use Rattle.core.proofs.cell.Inside.{one}
use Rattle.std.proofs.raw_atomic.Walks.{proved_at}
use Rattle.std_alloc.proofs.boxed.Box.TheLaws.{the_row_laws as box_laws}
use Rattle.std_alloc.proofs.boxed.Box.from_raw.Met as made
use Rattle.std_alloc.specs.contracts.boxed.Box as boxes
use Rattle.std_alloc.specs.contracts.boxed.Box.from_raw as makes
use Rattle.table_cell.proofs.Values.{Loose, loose_good, loose_out}
use Rattle.table_cell.proofs.Walks.{begins}
use Rattle.table_cell.specs.Words.{freeable}
use Rattle.table_cell.specs.contracts.loose_block.LooseBlock.into_box as f
use Rattle.table_cell.proofs.loose_block.LooseBlock.into_box.Statement.{statement}
use Rattle.table_cell.proofs.loose_block.LooseBlock.into_box.Code as code

pub into_box_spec : {M : Type 1} → statement M
into_box_spec 𝓤 𝓛 𝓜 𝓡 wired T A L LA g d dd allocator glued =
    let En = f.ended T A g d dd in let c = f.clauses T A g d dd 𝓛 𝓜.mem 𝓡.returns in let R = param 0 T in let Y = param 1 A in
    let types = bounded (a_type ∷ a_type ∷ []) (T, (A, tt)) (dcons d (dcons dd dnil)) in let fn = inst_fn types code.function in
    let block = plain (λ _. Loose R Y g) in let handle = plain (λ _. Y) in let spent : Stays En.signature.params En.kept = (stay_dropped block no, (stay_dropped handle no, tt)) in
    let Boxes = boxes.the_row R Y g in let 𝓣 = tables 𝓤 𝓛.H 𝓜 𝓡 𝓡.env in
    proved_at 𝓛 En spent c 𝓜 𝓡 (Goes-blank 𝓛 2 block no (λ κs x w. tt), (Goes-blank 𝓛 2 handle no (λ κs x w. tt), tt)) (f.Key.name types) fn
    (code.unfolded 𝓤 𝓛.H 𝓜 𝓡 wired (T, (A, tt)) d dd) (λ y are.
    let l = y.0.3.0 in let a = y.0.3.1.0 in let Alive = raw (alive 𝓛 En.signature y.0.0 y.0.1) in
    let held = one (layout Y) y.0.4.1.0 (((param_laws 1 A LA).lawful 𝓛).typed a y.0.4.1.0 are.1.0) in
    let Done = makes.ended T A g d dd in let Made = triple_of 𝓛 (makes.signature T A g d dd) (makes.spec T A g d dd 𝓛 𝓜.mem 𝓡.returns) in
    let z : Made.Ghost = ((y.0.0, y.0.1, tt, (a, (l.at, tt)), (held.0 ∷ [], (ptr_val l.at ∷ [], tt))), l.value) in
    qed 𝓛 ((Alive ⊛ ‵ (owns (types_at En.signature.params y.0.0) y.0.3 y.0.4)) ∷ raw (fact 𝓤 (y.0.0.0 ⊑ T.lives)) ∷ raw (fact 𝓤 (y.0.0.1.0 ⊑ A.lives)) ∷ raw (fact 𝓤 (a ≡ l.from)) ∷ []) ∵
    move ! (3 ∷ []) $ heard ! (a ≡ l.from) (λ same. split ! $ move ! (1 ∷ []) $ fsplit ! $
    loose_out R Y g (param_laws 0 T L) (param_laws 1 A LA) l y.0.4.0 ! (λ is. rewrite ! 0 (λ (s : A.Denot). ‵ (freeable R (g.dealloc_token s) l.at l.value)) (sym same) refl $
    move ! (1 ∷ []) $ fsplit ! $ rewrite ! 0 (λ (us : List Val). ‵ (Y.own_val a us)) held.1 refl $
    -- [the handle; nothing; the block; the tokens; the bounds]
    move ! (5 ∷ 2 ∷ []) $ join ! $ move ! (4 ∷ 0 ∷ []) $ join ! $ move ! (2 ∷ []) $ feq_i ! _ (ptr_val l.at ∷ []) _ refl $ fjoin ! $ move ! (2 ∷ 0 ∷ []) $ fjoin ! $ move ! (2 ∷ 0 ∷ []) $ join ! $ join ! $
    use1 𝓛 (raw (Made.pre z)) (id⊢ 𝓤 _) $
    begins ! fn (λ i. is i ++ (held.1 i ++ [])) $ alloc_all ! (λ s. pass_all ! refl (loose_good R Y g l.at, (held.2, tt)) $
    sets ! (of_opd ! (get_in ! (fld ! refl (stop !)) (sub ! 0 refl (whole !)))) refl (Ptr-Good l.at) $ first ! $ blocks ! $ sets ! (of_opd ! (get ! refl)) refl held.2 $
    calls_at_last ! (framed 𝓤 𝓛.H 𝓜 𝓣) Made (made.met 𝓤 𝓛 𝓜 𝓡 (code.calls-std_alloc::boxed::Box::from_raw 𝓡.env wired) T A L LA g d dd allocator glued) z
    (and_then ! (get ! refl) (and_then ! (get ! refl) (no_more !))) (λ u.
    use1 𝓛 (later (some (λ (new : Boxes.Denot). (Alive ⊛ ‵ (Boxes.own_val new (u ∷ []))) ⊛ some (λ (end : Lasts Done y.0.0 z.0.3). ‵ (lasts Done y.0.0 z.0.3 end) ⊛ raw (fact 𝓤 (new.value ≡ l.value)) ⊛ raw (fact 𝓤 (new.alloc ≡ a))))))
    (id⊢ 𝓤 _) $ await ! tt $ pick ! (λ new. split ! $ split ! $ move ! (1 ∷ []) $
    peeks ! Boxes (Is Boxes) (shows 𝓛 Boxes) new (u ∷ []) (λ typed. let good = (((box_laws R Y g (param_laws 0 T L) (param_laws 1 A LA)).lawful 𝓛).typed new (u ∷ []) typed).0 in
    lands_last ! refl good $ exec ! 𝓣.C 𝓣.Λ (env fn.locals s) (after 2 fn.body) (at_ret _ ((walk_of 𝓛 En spent c).post y)) $ sets ! (of_opd ! (get ! refl)) refl good $
    returns ! (look_at ! 0 refl) $ free_all ! refl $
    suffices ! _ (ends_at 𝓛 En spent c y u new (tt, (tt, tt)) (tt, (tt, tt))) $
    -- [the box; the tokens; how the call's arguments ended, and of what the box is]
    nothing ! $ nothing ! $ fjoin ! $ nothing ! $ fjoin ! $ join ! $ move ! (1 ∷ 0 ∷ []) $ join ! $ move ! (1 ∷ []) $ pick ! (λ end. split3 ! $ drop ! $ keep ! (2 ∷ 0 ∷ []) $ join ! $ done !))))))))
