-- Whoever knows that the value is there for good has a view of it.
use Rattle.std.proofs.Common.{◌≡◌, ℕ, ◌+◌, ◌*◌, ◌^◌, ◌<◌, List, [], ◌∷◌, ◌++◌, sym, refl, ◌∙◌, subst, arith, length, get_or, w64}
use mir.Syntax.{a_type}
use mir.Val.{Val, vint, vptr}
use mir.MapTy.{inst_fn}
use base.Fraction.{full_share}
use base.Logic.{SProp, ent, wand, emp, id⊢, apply∗, never}
use base.Stored.{gnil, gnum, gcons}
use base.Fml.{Lft, Share, Fml, ftrue, fsep, flft, fat}
use base.Before.{before}
use prog.Wp.{WpFn}
use types.Logic.{sem}
use types.Kit.{Item, ‵, raw, ◌⊛◌, some, later, at_ret, ◌$◌, ◌∵◌, !, qed, by, move, keep, drop, use0, use1, use2, use3, split, join, fsplit, fjoin, fpick, pick, await, rewrite, feq_i, feq_l, flt_l}
use types.Run.{stop, fld, addr, of_opd, bin, size_lit, first, blocks, exec, returns, enter}
use types.ByLocal.{alloc_all, pass_all, free_all, look_at, get, get_in, through, sets, sets_last, env, take_at, give_at}
use types.Part.{sub, whole}
use contract.Running.{tables}
use contract.Monad.{fact, fact_i}
use contract.Shared.{Lends-one}
use denote.Exit.{yes, no}
use denote.RattleType.{RattleType, owns}
use denote.Signature.{types_at, plain}
use denote.Steps.{nothing, heard}
use denote.Opens.{hide, unhide}
use denote.Memory.{shared_of}
use denote.Param.{param, layouts, layout}
use denote.Param.Laws.{param_laws}
use denote.Builtin.{RefOf, usize}
use denote.RawPtr.{Ptr, in_a_block}
use denote.Triple.Walked.{Stays, stay_dropped, walk_of, Goes-dropped}
use Rattle.std.proofs.raw_atomic.Walks.{proved_at, leaves}
use Rattle.core.specs.declared.option.Option.{Option}
use Rattle.core.specs.declared.option.Option.TheVariants.{Some}
use types.Kit.{⋆}
use denote.Memory.{hidden_shr}
use Rattle.core.specs.Mem.{type_size}
use Rattle.core.proofs.ptr.Rows.{times_below, one_below}
use Rattle.std_alloc.proofs.RcSteps.{word-Good}
use Rattle.std_alloc.proofs.VecSteps.Shapes.{after}
use Rattle.table_slab.specs.Rights.{mark, written}
use Rattle.table_slab.specs.Kept.{codes, Value, Cell, shared_at, row_shares}
use Rattle.table_slab.specs.contracts.rights.Room as Room
use Rattle.table_slab.specs.contracts.rights.Written as Written
use Rattle.table_slab.specs.contracts.row.Row as Row
use Rattle.table_slab.specs.contracts.row.Start as Start
use Rattle.table_slab.proofs.Made.{word, word_had}
use Rattle.table_slab.proofs.Rows.{slot_seen}
use Rattle.table_slab.proofs.Steps as steps
use Rattle.table_slab.specs.contracts.row.Row.get.{ended, clauses}
use Rattle.table_slab.specs.contracts.row.Row.get.Key.{name as #self}
use Rattle.table_slab.proofs.row.Row.get.Statement.{statement}
use Rattle.table_slab.proofs.row.Row.get.Code as code

pub get_spec : {M : Type 1} → statement M
get_spec {M} 𝓤 𝓛 𝓜 𝓡 wired T L =
    let H = 𝓛.H in let A = 𝓛.A in let 𝓣 = tables 𝓤 H 𝓜 𝓡 𝓡.env in let R : RattleType = param 0 T in let LR = param_laws 0 T L in let En = ended T in let Rw : RattleType = Row.the_row R in let St : RattleType = Start.the_row R in let Rm : RattleType = Room.the_row R in
    let inst = layouts (a_type ∷ []) (T, tt) in let fn = inst_fn inst code.function in let c = clauses T 𝓛 𝓜.mem 𝓡.returns in
    let from_start = plain (λ _. St) in let index = plain (λ _. usize) in
    let self = RefOf (0 ∷ []) tt (plain (λ _. Rw)) (λ _. tt) in let token = RefOf (1 ∷ []) tt (plain (λ _. Written.the_row R)) (λ _. tt) in
    let hs : Stays En.signature.params En.kept = (stay_dropped self yes, (stay_dropped from_start no, (stay_dropped index yes, (stay_dropped token yes, tt)))) in
    proved_at 𝓛 En hs c 𝓜 𝓡 (Goes-dropped 𝓛 3 self yes (λ κs x f. refl), (Goes-dropped 𝓛 3 from_start no (λ κs x f. refl), (Goes-dropped 𝓛 3 index yes (λ κs x f. refl), (Goes-dropped 𝓛 3 token yes (λ κs x f. refl), tt)))) (#self inst) fn (code.unfolded 𝓤 H 𝓜 𝓡 wired (T, tt)) (λ y are.
    let κs = y.0.0 in let qs = y.0.1 in let a = y.0.3 in let vss = y.0.4 in let κ : Lft = κs.0 in let q : Share = qs.0 in
    let rb : ℕ = a.0.ref_ptr.0 in let ro : ℕ = a.0.ref_ptr.1 in let d = a.0.now in let start = a.1.0 in let i : ℕ = a.1.1.0 in let γs : List ℕ = d.names in let γ : ℕ = get_or γs i 0 in
    let Post : Val → SProp 𝓤 = (walk_of 𝓛 En hs c).post y in let Inside : Type 0 = (start.at ≡ d.at) × (i < length γs) in let s : ℕ = type_size R in let code_of : Option T.Denot → base.Stored.Gv = codes R in
    let told_by = a.1.1.1.0.now in let x : T.Denot = told_by.value in let p : Val = vptr a.1.1.1.0.ref_ptr.0 a.1.1.1.0.ref_ptr.1 in let Of : Type 0 = told_by.of ≡ γ in
    let others : Fml = fsep (flft κs.1.0 qs.1.0) (fsep (flft κs.1.1.0 qs.1.1.0) ftrue) in let Toks : Item 𝓤 = ‵ (flft κ q) ⊛ ‵ others in let Had : List (Item 𝓤) = ‵ (written R told_by.of x) ∷ ‵ (hidden_shr Rw κ d rb ro) ∷ Toks ∷ [] in
    qed 𝓛 ((Toks ⊛ ‵ (owns (types_at En.signature.params κs) a vss)) ∷ raw (fact 𝓤 _) ∷ (raw (fact 𝓤 Inside) ⊛ raw (fact 𝓤 Of)) ∷ []) ∵
    move ! (2 ∷ 0 ∷ []) $ split ! $ heard ! Inside (λ inside. heard ! Of (λ of. split ! $ move ! (1 ∷ []) $
    fsplit ! $ fsplit ! $ feq_l ! (λ e0. move ! (1 ∷ []) $ fsplit ! $ word_had ! start.at vss.1.0 (λ e1. fsplit ! $ fsplit ! $ feq_l ! (λ e2. flt_l ! (λ fits. fsplit ! $ fsplit ! $ feq_l ! (λ e3. unhide ! $ fsplit ! $ drop ! $ keep ! (0 ∷ 2 ∷ 3 ∷ []) $
    by ! (subst (λ (ws : List Val × List Val × List Val × List Val). ent 𝓤 (⋆ 𝓛 Had) (WpFn 𝓤 H 𝓣.C 𝓣.Λ fn (ws.0 ++ (ws.1 ++ (ws.2 ++ (ws.3 ++ [])))) Post)) (λ j. (sym e0 j, sym e1 j, sym e2 j, sym e3 j)) (qed 𝓛 Had ∵
    rewrite ! 0 (λ (k : ℕ). ‵ (written R k x)) of refl $ fpick ! (λ ε. nothing ! $ move ! (1 ∷ 0 ∷ []) $
    -- [obs; the element; the row, hidden; the tokens; ..]
    move ! (2 ∷ []) $ unhide ! $ fsplit ! $ drop ! $ in_a_block ! d.at (λ (p : Ptr). row_shares R p γs κ) (id⊢ 𝓤 (never 𝓤)) (λ b o is_block. fsplit ! $ flt_l ! (λ small.
    let lt : i < length γs = inside.1 in let tiny : s < 2 ^ 64 = omega (arith, one_below (length γs) s (2 ^ 63) (omega arith) small) in let far : i * s < 2 ^ 64 = omega (arith, times_below i (length γs) s (2 ^ 63) (omega arith) small) in let at : ℕ = i * s + o in
    use1 𝓛 (‵ (shared_at R γ b at κ)) (slot_seen R 𝓛 b κ γs i o at lt refl) $ fpick ! (λ t. let α : Lft = t.0 in let η : ℕ = t.1 in let I : Fml = Cell R γ t b at in let V : Fml = Value R γ t b at in fsplit ! $ move ! (1 ∷ []) $
    -- [the invariant; before; what is known; nothing; the tokens]
    move ! (4 ∷ []) $ split ! $ move ! (3 ∷ []) $ use1 𝓛 (‵ (before κ α) ⊛ ‵ (before κ α)) (types.Na.before_dup 𝓛 κ α) $ split ! $ move ! (0 ∷ 2 ∷ []) $
    -- [before; κ's token; before; the others; the invariant; what is known; nothing]
    enter ! 𝓣.C 𝓣.Λ fn (vptr rb ro ∷ word start.at ∷ vint w64 i ∷ p ∷ []) Post $ alloc_all ! (λ l. pass_all ! refl ((tt, tt), (word-Good [] start.at, ((tt, record { fits = fits }), ((tt, tt), tt)))) $ let Ev = env fn.locals l in
    use2 𝓛 (later (some (λ (k : Share). ‵ (flft α k) ⊛ raw (wand 𝓤 (A.lft α k) (H.⇛ (A.lft κ q)))))) (Lends-one 𝓛 𝓜 𝓡 κ α q) $ await ! tt $ pick ! (λ k. split ! $
    let Shown : Fml = steps.Shown 𝓛 R γ t b at LR.shr_laws x in let Same : Type 0 = x ≡ x in
    -- [the turn's token; the way back; before; the others; the invariant; what is known; nothing]
    move ! (4 ∷ 0 ∷ 5 ∷ []) $ use3 𝓛 (later (‵ Shown ⊛ ‵ (flft α k))) (steps.at_rest 𝓛 R γ t b at k (A.res γ (mark R ε (Some x))) (sem 𝓛 Shown) (steps.shows 𝓛 R γ t b at LR.shr_laws ε x)) $ await ! tt $ split ! $
    use1 𝓛 (later (‵ (shared_of R x b at α))) (steps.settles 𝓛 R γ t b at LR.shr_laws x) $ await ! tt $
    -- [the value; the turn's token; the way back; before; the others; nothing]
    move ! (1 ∷ 2 ∷ []) $ use2 𝓛 (later (‵ (flft κ q))) (apply∗ 𝓤 (A.lft α k) (H.⇛ (A.lft κ q))) $ await ! tt $ move ! (0 ∷ 3 ∷ []) $ join ! $
    move ! (2 ∷ 1 ∷ []) $ use2 𝓛 (‵ (shared_of R x b at κ)) ((LR.shr_laws x b at).mono M 𝓤 𝓛 κ α) $ hide ! $
    take_at ! 2 $ rewrite ! 0 (λ (p : Ptr). ‵ (fat full_share (layout St) (l 2) 0 (word p))) (inside.0 ∙ is_block) refl $ give_at ! 2 $ first ! $ blocks ! $
    sets ! (bin ! (get ! refl) (size_lit ! (record { fits = tiny })) (record { fits = far })) refl (tt, record { fits = far }) $
    sets ! (bin ! (get_in ! (fld ! refl (stop !)) (sub ! 0 refl (whole !))) (get ! refl) tt) refl (tt, tt) $
    sets_last ! (addr ! (through ! refl (stop !))) refl (tt, tt) $ exec ! 𝓣.C 𝓣.Λ Ev (after 1 fn.body) (at_ret Ev Post) $ sets ! (of_opd ! (get ! refl)) refl (tt, tt) $
    feq_i ! (List Val) (vptr b at ∷ []) (vptr b at ∷ []) refl $ fjoin ! $
    use0 𝓛 (raw (fact 𝓤 Same)) (fact_i 𝓤 Same (emp 𝓤) refl) $ nothing ! $ nothing ! $ fjoin ! $ nothing ! $ fjoin ! $ nothing ! $ fjoin ! $ nothing ! $ fjoin ! $
    returns ! (look_at ! 0 refl) $ free_all ! refl $ keep ! (3 ∷ 0 ∷ 2 ∷ 1 ∷ []) $ by ! (leaves 𝓛 En hs c y (vptr b at) (record { ref_ptr = (b, at); now = x }) (tt, (tt, (tt, (tt, tt)))) (tt, (tt, (tt, (tt, tt)))))))))))))))))))))
