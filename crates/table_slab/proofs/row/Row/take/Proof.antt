-- The right goes to work, the value is no longer lent, is taken out, and the right is at rest again.
use Rattle.std.proofs.Common.{◌≡◌, ℕ, ◌+◌, ◌*◌, ◌^◌, ◌<◌, List, [], ◌∷◌, ◌++◌, sym, refl, ◌∙◌, subst, arith, length, get_or, w64}
use mir.Syntax.{a_type}
use mir.Val.{Val, vunit, vint, vptr, vstruct, vcons, vnil, of_list}
use mir.MapTy.{inst_fn}
use base.Fraction.{full_share}
use base.Logic.{SProp, ent, wand, emp, id⊢, apply∗, never}
use base.Stored.{gnil, gnum, gcons}
use base.Fml.{Lft, Share, Fml, ftrue, fsep, flft, finv, fbor, fobs, fauth, fown, fat, froom}
use prog.Wp.{WpFn}
use types.Logic.{sem}
use types.Kit.{Item, ‵, raw, ◌⊛◌, some, given, later, at_ret, ◌$◌, ◌∵◌, !, qed, by, move, keep, drop, use0, use1, use2, use3, split, split3, join, fsplit, fsplit3, fjoin, fpick, fpack, pick, learn, await, rewrite, feq_l, flt_l}
use types.Run.{stop, fld, load, look, of_opd, bin, size_lit, no_more, and_then, first, blocks, exec, returns, enter}
use types.ByLocal.{alloc_all, pass_all, free_all, look_at, get, get_in, through, sets, sets_last, env, take_at, give_at}
use types.Part.{agg, sub, whole}
use contract.Running.{tables}
use contract.Monad.{fact, fact_i}
use contract.Shared.{Lends-one}
use denote.Exit.{yes, no}
use denote.RattleType.{RattleType, owns}
use denote.Signature.{types_at, plain}
use denote.Steps.{nothing, heard}
use denote.Opens.{unhide}
use denote.Param.{param, layouts, layout}
use denote.Param.Laws.{param_laws}
use denote.Builtin.{RefOf, usize}
use denote.RawPtr.{Ptr, in_a_block}
use denote.Struct.Tuple.{Tuple}
use denote.Triple.Walked.{Stays, stay_dropped, walk_of, Goes-dropped}
use Rattle.std.proofs.raw_atomic.Walks.{proved_at, leaves}
use Rattle.core.proofs.cell.Inside.{Good}
use Rattle.core.specs.declared.option.Option.{Option}
use Rattle.core.specs.declared.option.Option.TheVariants.{None, Some}
use Rattle.std.specs.Prelude.{IsSome}
use types.Kit.{⋆}
use types.Tokens.{name_agree, name_set, bor_open, obor_close}
use denote.Memory.{hidden_shr}
use Rattle.std.specs.Coded.{coded_option}
use Rattle.core.specs.Mem.{type_size}
use Rattle.core.proofs.ptr.Rows.{times_below, one_below}
use Rattle.std_alloc.proofs.RawLayout.{as_raw}
use Rattle.std_alloc.proofs.RcSteps.{word-Good}
use Rattle.std_alloc.proofs.VecSteps.Shapes.{after}
use Rattle.table_slab.specs.Rights.{once, mark, room}
use Rattle.table_slab.specs.Kept.{place, codes, Value, Cell, shared_at, row_shares}
use Rattle.table_slab.specs.contracts.rights.Room as Room
use Rattle.table_slab.specs.contracts.row.Row as Row
use Rattle.table_slab.specs.contracts.row.Start as Start
use Rattle.table_slab.proofs.Made.{token_val, pair_in, room_made, token_told, set_of, beside_token, word, word_had}
use Rattle.table_slab.proofs.Rows.{slot_seen, value_out}
use Rattle.table_slab.proofs.Steps as steps
use Rattle.table_slab.specs.contracts.row.Row.take.{ended, clauses}
use Rattle.table_slab.specs.contracts.row.Row.take.Key.{name as #self}
use Rattle.table_slab.proofs.row.Row.take.Statement.{statement}
use Rattle.table_slab.proofs.row.Row.take.Code as code

pub take_spec : {M : Type 1} → statement M
take_spec 𝓤 𝓛 𝓜 𝓡 wired T L =
    let H = 𝓛.H in let A = 𝓛.A in let 𝓣 = tables 𝓤 H 𝓜 𝓡 𝓡.env in let R : RattleType = param 0 T in let LR = param_laws 0 T L in let En = ended T in let Rw : RattleType = Row.the_row R in let St : RattleType = Start.the_row R in let Rm : RattleType = Room.the_row R in
    let inst = layouts (a_type ∷ []) (T, tt) in let fn = inst_fn inst code.function in let c = clauses T 𝓛 𝓜.mem 𝓡.returns in
    let from_start = plain (λ _. St) in let index = plain (λ _. usize) in
    let self = RefOf (0 ∷ []) tt (plain (λ _. Rw)) (λ _. tt) in let right = plain (λ _. Rm) in
    let hs : Stays En.signature.params En.kept = (stay_dropped self yes, (stay_dropped from_start no, (stay_dropped index yes, (stay_dropped right no, tt)))) in
    proved_at 𝓛 En hs c 𝓜 𝓡 (Goes-dropped 𝓛 2 self yes (λ κs x f. refl), (Goes-dropped 𝓛 2 from_start no (λ κs x f. refl), (Goes-dropped 𝓛 2 index yes (λ κs x f. refl), (Goes-dropped 𝓛 2 right no (λ κs x f. refl), tt)))) (#self inst) fn (code.unfolded 𝓤 H 𝓜 𝓡 wired (T, tt)) (λ y are.
    let κs = y.0.0 in let qs = y.0.1 in let a = y.0.3 in let vss = y.0.4 in let κ : Lft = κs.0 in let q : Share = qs.0 in
    let rb : ℕ = a.0.ref_ptr.0 in let ro : ℕ = a.0.ref_ptr.1 in let d = a.0.now in let start = a.1.0 in let i : ℕ = a.1.1.0 in let γs : List ℕ = d.names in let γ : ℕ = get_or γs i 0 in
    let Post : Val → SProp 𝓤 = (walk_of 𝓛 En hs c).post y in let Inside : Type 0 = (start.at ≡ d.at) × (i < length γs) in let s : ℕ = type_size R in let code_of : Option T.Denot → base.Stored.Gv = codes R in
    let τ : Lft = κs.1.0 in let r : Share = qs.1.0 in let rm = a.1.1.1.0 in let Of : Type 0 = rm.of ≡ γ in let Full : Type 0 = IsSome rm.value in let e3 = token_told R vss.1.1.1.0 are.1.1.1.0.0 in
    let Toks : Item 𝓤 = ‵ (flft κ q) ⊛ ‵ (flft τ r) ⊛ ‵ ftrue in let Had : List (Item 𝓤) = ‵ (room R rm.of rm.value) ∷ ‵ (hidden_shr Rw κ d rb ro) ∷ Toks ∷ [] in
    qed 𝓛 ((Toks ⊛ ‵ (owns (types_at En.signature.params κs) a vss)) ∷ raw (fact 𝓤 _) ∷ (raw (fact 𝓤 Inside) ⊛ raw (fact 𝓤 Of) ⊛ raw (fact 𝓤 Full)) ∷ []) ∵
    move ! (2 ∷ 0 ∷ []) $ split3 ! $ heard ! Inside (λ inside. heard ! Of (λ of. heard ! Full (λ full_. let x : T.Denot = (set_of rm.value full_).0 in let is : rm.value ≡ Some x = (set_of rm.value full_).1 in split ! $ move ! (1 ∷ []) $
    fsplit ! $ fsplit ! $ feq_l ! (λ e0. move ! (1 ∷ []) $ fsplit ! $ word_had ! start.at vss.1.0 (λ e1. fsplit ! $ fsplit ! $ feq_l ! (λ e2. flt_l ! (λ fits. fsplit ! $ fsplit ! $ drop ! $ keep ! (0 ∷ 2 ∷ 3 ∷ []) $
    by ! (subst (λ (ws : List Val × List Val × List Val × List Val). ent 𝓤 (⋆ 𝓛 Had) (WpFn 𝓤 H 𝓣.C 𝓣.Λ fn (ws.0 ++ (ws.1 ++ (ws.2 ++ (ws.3 ++ [])))) Post)) (λ j. (sym e0 j, sym e1 j, sym e2 j, sym e3 j)) (qed 𝓛 Had ∵
    rewrite ! 0 (λ (k : ℕ). ‵ (room R k rm.value)) of refl $ rewrite ! 0 (λ (v : Option T.Denot). ‵ (room R γ v)) is refl $ fpick ! (λ ε. fsplit ! $
    -- [obs; the element; the row, hidden; the tokens; ..]
    move ! (2 ∷ []) $ unhide ! $ fsplit ! $ drop ! $ in_a_block ! d.at (λ (p : Ptr). row_shares R p γs κ) (id⊢ 𝓤 (never 𝓤)) (λ b o is_block. fsplit ! $ flt_l ! (λ small.
    let lt : i < length γs = inside.1 in let tiny : s < 2 ^ 64 = omega (arith, one_below (length γs) s (2 ^ 63) (omega arith) small) in let far : i * s < 2 ^ 64 = omega (arith, times_below i (length γs) s (2 ^ 63) (omega arith) small) in let at : ℕ = i * s + o in
    use1 𝓛 (‵ (shared_at R γ b at κ)) (slot_seen R 𝓛 b κ γs i o at lt refl) $ fpick ! (λ t. let α : Lft = t.0 in let η : ℕ = t.1 in let I : Fml = Cell R γ t b at in let V : Fml = Value R γ t b at in fsplit ! $ move ! (1 ∷ []) $
    -- [the invariant; before; obs; the element; the tokens]
    move ! (4 ∷ []) $ split3 ! $ move ! (4 ∷ 0 ∷ []) $
    -- [before; κ's token; T's token; nothing; the invariant; obs; the element]
    enter ! 𝓣.C 𝓣.Λ fn (vptr rb ro ∷ word start.at ∷ vint w64 i ∷ token_val ∷ []) Post $ alloc_all ! (λ l. pass_all ! refl ((tt, tt), (word-Good [] start.at, ((tt, record { fits = fits }), ((tt, (tt, tt)), tt)))) $ let Ev = env fn.locals l in
    use2 𝓛 (later (some (λ (k : Share). ‵ (flft α k) ⊛ raw (wand 𝓤 (A.lft α k) (H.⇛ (A.lft κ q)))))) (Lends-one 𝓛 𝓜 𝓡 κ α q) $ await ! tt $ pick ! (λ k. split ! $
    let Empty : Fml = steps.Empty 𝓛 R γ t b at ε in let Working : Fml = steps.Working 𝓛 R γ t b at ε x in
    -- [the turn's token; the way back; T's token; nothing; the invariant; obs; the element]
    move ! (4 ∷ []) $ use1 𝓛 (‵ (finv (fbor α I)) ⊛ ‵ (finv (fbor α I))) (𝓛.invs.inv_dup (fbor α I)) $ split ! $ move ! (0 ∷ 2 ∷ 6 ∷ []) $
    use3 𝓛 (later (‵ Working ⊛ ‵ (flft α k))) (steps.at_rest 𝓛 R γ t b at k (A.obs γ (mark R ε (Some x))) (sem 𝓛 Working) (steps.takes_full 𝓛 R γ t b at ε x)) $ await ! tt $ split ! $ fsplit3 ! $
    -- [busy; the value's obs; mine; the turn's token; the invariant; the way back; T's token; nothing; the element]
    move ! (2 ∷ []) $ use1 𝓛 (later (‵ (fbor α V))) (steps.takes_back 𝓛 R γ t b at x) $ await ! tt $ move ! (0 ∷ 3 ∷ []) $ bor_open ! tt $ move ! (1 ∷ []) $ fpick ! (λ v. fsplit ! $
    -- [the place; auth; open; busy; obs; the invariant; the way back; T's token; nothing; the element]
    move ! (4 ∷ 1 ∷ []) $ name_agree ! (coded_option R.coded) {x = Some x} {y = v} (λ z. rewrite ! 2 (λ (u : Option T.Denot). ‵ (place R b at u)) (sym z) refl $ name_set ! tt (code_of None) $
    -- [obs; auth; the place; open; busy; the invariant; the way back; T's token; nothing; the element]
    move ! (2 ∷ []) $ use1 𝓛 (some (λ (w : Val). given (Good (layout T) w) (‵ (fat full_share (layout T) b at w) ⊛ ‵ (T.own_val x (w ∷ []))))) (value_out T L 𝓛 b x at) $ pick ! (λ w. learn ! (λ good. split ! $
    take_at ! 2 $ rewrite ! 0 (λ (p : Ptr). ‵ (fat full_share (layout St) (l 2) 0 (word p))) (inside.0 ∙ is_block) refl $ give_at ! 2 $ first ! $ blocks ! $
    sets ! (bin ! (get ! refl) (size_lit ! (record { fits = tiny })) (record { fits = far })) refl (tt, record { fits = far }) $
    sets ! (bin ! (get_in ! (fld ! refl (stop !)) (sub ! 0 refl (whole !))) (get ! refl) tt) refl (tt, tt) $
    sets_last ! (of_opd ! (load ! (through ! refl (stop !)) (look ! 0 refl))) refl good $ exec ! 𝓣.C 𝓣.Λ Ev (after 1 fn.body) (at_ret Ev Post) $ sets ! (of_opd ! (get ! refl)) refl good $
    use1 𝓛 (‵ (froom (layout T) b at)) (𝓛.laws.at_room (layout T) b at w) $ as_raw ! (layout T) b at $
    -- [the place; the value; obs; auth; open; busy; the invariant; the way back; T's token; nothing; the element]
    move ! (0 ∷ 3 ∷ []) $ fjoin ! $ fpack ! (Option T.Denot) (λ u. fsep (place R b at u) (fauth η (code_of u))) None $ move ! (3 ∷ 0 ∷ []) $ obor_close ! tt $
    -- [the borrow; the turn's token; the value; obs; busy; the invariant; the way back; T's token; nothing; the element]
    move ! (3 ∷ 0 ∷ []) $ fjoin ! $ move ! (3 ∷ 0 ∷ []) $ fjoin ! $
    -- [the right at work; the turn's token; the value; the invariant; the way back; T's token; nothing; the element]
    move ! (3 ∷ 1 ∷ 0 ∷ []) $
    use3 𝓛 (later (‵ (fobs γ (mark R ε None)) ⊛ ‵ (flft α k))) (steps.at_rest 𝓛 R γ t b at k (sem 𝓛 Empty) (A.obs γ (mark R ε None)) (steps.leaves_empty 𝓛 R γ t b at ε)) $ await ! tt $ split ! $
    -- [the right; the turn's token; the value; the way back; T's token; nothing; the element]
    move ! (1 ∷ 3 ∷ []) $ use2 𝓛 (later (‵ (flft κ q))) (apply∗ 𝓤 (A.lft α k) (H.⇛ (A.lft κ q))) $ await ! tt $ move ! (3 ∷ 4 ∷ []) $ join ! $ move ! (1 ∷ 0 ∷ []) $ join ! $ move ! (1 ∷ 3 ∷ []) $ fjoin ! $
    fpack ! ℕ (λ (δ : ℕ). fsep (fobs γ (mark R δ None)) (fown once δ tt)) ε $
    -- [the right; the tokens; the value]
    let made : Rm.Denot = record { marker = record {}; of = γ; value = None } in let pair : Val = vstruct (vcons w (vcons token_val vnil)) in
    let Same : Type 0 = rm.value ≡ Some x in let Named : Type 0 = γ ≡ rm.of in let Told : Type 0 = mathlib.Core.Path.Path (Option T.Denot) None None in let Pair : RattleType = Tuple (R ∷ Rm ∷ []) in let tok : Good (layout Rm) token_val = (tt, (tt, tt)) in let both : Good (layout Pair) pair = (beside_token (mir.Val.has_ty (layout T) w) good.0, (good.1, ((tt, tt), tt))) in
    use1 𝓛 (‵ (Rm.own_val made (token_val ∷ []))) (room_made 𝓛 R γ None) $ move ! (2 ∷ 0 ∷ []) $ pair_in R Rm ! x made w token_val $
    sets ! (agg ! (no_more !)) refl (tt, tt) $ sets ! (agg ! (and_then ! (get ! refl) (no_more !))) refl tok $ sets ! (of_opd ! (get ! refl)) refl good $
    sets ! (agg ! (and_then ! (get ! refl) (and_then ! (get ! refl) (no_more !)))) refl both $
    use0 𝓛 (raw (fact 𝓤 Told)) (fact_i 𝓤 Told (emp 𝓤) refl) $ use0 𝓛 (raw (fact 𝓤 Named)) (fact_i 𝓤 Named (emp 𝓤) (sym of)) $ join ! $ use0 𝓛 (raw (fact 𝓤 Same)) (fact_i 𝓤 Same (emp 𝓤) is) $ join ! $ nothing ! $ nothing ! $ fjoin ! $ nothing ! $ fjoin ! $ nothing ! $ fjoin ! $ nothing ! $ fjoin ! $
    returns ! (look_at ! 0 refl) $ free_all ! refl $ keep ! (3 ∷ 0 ∷ 2 ∷ 1 ∷ []) $ by ! (leaves 𝓛 En hs c y pair (x, made) (tt, (tt, (tt, (tt, tt)))) (tt, (tt, (tt, (tt, tt)))))))))))))))))))))))))
