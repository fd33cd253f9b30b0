-- Nobody shares the row: the value is read, and its place is a slot under a new name.
use Rattle.std.proofs.Common.{◌≡◌, ℕ, ◌+◌, ◌*◌, ◌^◌, ◌<◌, List, [], ◌∷◌, ◌++◌, sym, refl, ap, ◌∙◌, subst, arith, length, get_or, w64}
use mir.Syntax.{a_type}
use mir.Val.{Val, vunit, vint, vptr, vstruct, vcons, vnil, of_list}
use mir.MapTy.{inst_fn}
use base.Fraction.{full_share}
use base.Logic.{SProp, ent, wand, emp, id⊢, apply∗, all_e, never}
use base.Stored.{gnil, gnum, gcons}
use base.Fml.{Lft, Share, Fml, ftrue, fsep, flft, fbor, fobs, fauth, fres, fat, froom}
use prog.Wp.{WpFn}
use types.Logic.{sem}
use types.Kit.{fpack, Item, ‵, raw, ◌⊛◌, some, given, later, at_ret, ◌$◌, ◌∵◌, !, qed, by, move, keep, drop, use0, use1, use2, split, join, fsplit, fsplit3, fjoin, fjoin3, fpick, pick, learn, await, rewrite, feq_i, feq_l, flt_l, flt_i}
use types.Run.{stop, fld, load, look, of_opd, bin, size_lit, no_more, and_then, first, blocks, exec, returns, enter}
use types.ByLocal.{alloc_all, pass_all, free_all, look_at, get, get_in, through, sets, sets_last, env, take_at, give_at}
use types.Part.{agg, sub, whole}
use contract.Running.{tables}
use contract.Monad.{fact, fact_i}
use denote.Exit.{yes, no}
use denote.RattleType.{RattleType, owns}
use denote.Signature.{types_at, plain}
use denote.Steps.{nothing, heard, opens, closes}
use denote.Opens.{unhide}
use denote.Memory.{mem}
use denote.Param.{param, layouts, layout}
use denote.Param.Laws.{param_laws}
use denote.Builtin.{RefOf, usize}
use denote.RawPtr.{Ptr, in_a_block}
use denote.Struct.Tuple.{Tuple}
use denote.Triple.Walked.{Stays, stay_dropped, stay_ref, walk_of, Goes-dropped, Goes-ref}
use Rattle.std.proofs.raw_atomic.Walks.{proved_at, leaves}
use Rattle.core.proofs.cell.Inside.{Good}
use Rattle.core.specs.declared.option.Option.{Option}
use Rattle.core.specs.declared.option.Option.TheVariants.{None, Some}
use lib.ListN.{set, length-set}
use types.Kit.{fpack, ⋆}
use Rattle.core.specs.Mem.{type_size}
use Rattle.core.proofs.ptr.Rows.{times_below, one_below}
use Rattle.std_alloc.proofs.RawLayout.{as_raw}
use Rattle.std_alloc.proofs.RcSteps.{word-Good}
use Rattle.std_alloc.proofs.VecSteps.Shapes.{after}
use Rattle.table_slab.specs.Rights.{mark, room, written}
use Rattle.table_slab.specs.Kept.{place, codes, sign, row, resting, row_owns}
use Rattle.table_slab.specs.contracts.rights.Room as Room
use Rattle.table_slab.specs.contracts.rights.Written as Written
use Rattle.table_slab.specs.contracts.row.Row as Row
use Rattle.table_slab.specs.contracts.row.Start as Start
use Rattle.table_slab.proofs.Made.{token_val, pair_in, room_made, beside_token, word, word_had}
use Rattle.table_slab.proofs.Rows.{there, slot_out, slot_new, value_out, Back}
use types.SemTy.{Body}
use Rattle.table_slab.proofs.Tokens.{room_beside, rest as rest_of}
use Rattle.table_slab.specs.contracts.row.Row.take_out.{ended, clauses}
use Rattle.table_slab.specs.contracts.row.Row.take_out.Key.{name as #self}
use Rattle.table_slab.proofs.row.Row.take_out.Statement.{statement}
use Rattle.table_slab.proofs.row.Row.take_out.Code as code

pub take_out_spec : {M : Type 1} → statement M
take_out_spec 𝓤 𝓛 𝓜 𝓡 wired T L =
    let H = 𝓛.H in let A = 𝓛.A in let 𝓣 = tables 𝓤 H 𝓜 𝓡 𝓡.env in let R : RattleType = param 0 T in let LR = param_laws 0 T L in let En = ended T in let Rw : RattleType = Row.the_row R in let St : RattleType = Start.the_row R in let Rm : RattleType = Room.the_row R in
    let inst = layouts (a_type ∷ []) (T, tt) in let fn = inst_fn inst code.function in let c = clauses T 𝓛 𝓜.mem 𝓡.returns in
    let from_start = plain (λ _. St) in let index = plain (λ _. usize) in
    let token = RefOf (1 ∷ []) tt (plain (λ _. Written.the_row R)) (λ _. tt) in
    let hs : Stays En.signature.params En.kept = (stay_ref (0 ∷ []) tt (plain (λ _. Rw)), (stay_dropped from_start no, (stay_dropped index yes, (stay_dropped token yes, tt)))) in
    proved_at 𝓛 En hs c 𝓜 𝓡 (Goes-ref 𝓛 3 0 tt (plain (λ _. Rw)), (Goes-dropped 𝓛 3 from_start no (λ κs x f. refl), (Goes-dropped 𝓛 3 index yes (λ κs x f. refl), (Goes-dropped 𝓛 3 token yes (λ κs x f. refl), tt)))) (#self inst) fn (code.unfolded 𝓤 H 𝓜 𝓡 wired (T, tt)) (λ y are.
    let κs = y.0.0 in let qs = y.0.1 in let a = y.0.3 in let vss = y.0.4 in let κ : Lft = κs.0 in let q : Share = qs.0 in
    let rb : ℕ = a.0.ref_ptr.0 in let ro : ℕ = a.0.ref_ptr.1 in let d = a.0.now in let start = a.1.0 in let i : ℕ = a.1.1.0 in let γs : List ℕ = d.names in let γ : ℕ = get_or γs i 0 in
    let Post : Val → SProp 𝓤 = (walk_of 𝓛 En hs c).post y in let Inside : Type 0 = (start.at ≡ d.at) × (i < length γs) in let s : ℕ = type_size R in let code_of : Option T.Denot → base.Stored.Gv = codes R in
    let told_by = a.1.1.1.0.now in let x : T.Denot = told_by.value in let p : Val = vptr a.1.1.1.0.ref_ptr.0 a.1.1.1.0.ref_ptr.1 in let Of : Type 0 = told_by.of ≡ γ in let g : ℕ = a.0.ghost_name in
    let Lent : Fml = fbor κ (Body (mem Rw) rb ro g) in let others : Fml = fsep (flft κs.1.0 qs.1.0) (fsep (flft κs.1.1.0 qs.1.1.0) ftrue) in let Toks : Item 𝓤 = ‵ (flft κ q) ⊛ ‵ others in
    let Had : List (Item 𝓤) = ‵ (written R told_by.of x) ∷ ‵ (fobs g (Rw.coded.code d)) ∷ ‵ Lent ∷ Toks ∷ [] in
    qed 𝓛 ((Toks ⊛ ‵ (owns (types_at En.signature.params κs) a vss)) ∷ raw (fact 𝓤 _) ∷ (raw (fact 𝓤 Inside) ⊛ raw (fact 𝓤 Of)) ∷ []) ∵
    move ! (2 ∷ 0 ∷ []) $ split ! $ heard ! Inside (λ inside. heard ! Of (λ of. split ! $ move ! (1 ∷ []) $
    fsplit ! $ fsplit3 ! $ feq_l ! (λ e0. move ! (2 ∷ []) $ fsplit ! $ word_had ! start.at vss.1.0 (λ e1. fsplit ! $ fsplit ! $ feq_l ! (λ e2. flt_l ! (λ fits. fsplit ! $ fsplit ! $ feq_l ! (λ e3. unhide ! $ fsplit ! $ drop ! $ keep ! (0 ∷ 2 ∷ 3 ∷ 4 ∷ []) $
    by ! (subst (λ (ws : List Val × List Val × List Val × List Val). ent 𝓤 (⋆ 𝓛 Had) (WpFn 𝓤 H 𝓣.C 𝓣.Λ fn (ws.0 ++ (ws.1 ++ (ws.2 ++ (ws.3 ++ [])))) Post)) (λ j. (sym e0 j, sym e1 j, sym e2 j, sym e3 j)) (qed 𝓛 Had ∵
    rewrite ! 0 (λ (k : ℕ). ‵ (written R k x)) of refl $ fpick ! (λ ε. let known : base.Stored.Gv = mark R ε (Some x) in move ! (3 ∷ []) $ split ! $ move ! (3 ∷ 4 ∷ 0 ∷ []) $
    -- [obs; the borrow; the token; the others; what is known]
    enter ! 𝓣.C 𝓣.Λ fn (vptr rb ro ∷ word start.at ∷ vint w64 i ∷ p ∷ []) Post $ alloc_all ! (λ l. pass_all ! refl ((tt, tt), (word-Good [] start.at, ((tt, record { fits = fits }), ((tt, tt), tt)))) $ let Ev = env fn.locals l in
    opens ! tt Rw {h = d} rb ro (λ vs. move ! (1 ∷ []) $ fsplit ! $ move ! (1 ∷ []) $ in_a_block ! d.at (λ (p : Ptr). row_owns R p γs) (id⊢ 𝓤 (never 𝓤)) (λ b o is_block. fsplit ! $ flt_l ! (λ small.
    let lt : i < length γs = inside.1 in let tiny : s < 2 ^ 64 = omega (arith, one_below (length γs) s (2 ^ 63) (omega arith) small) in let far : i * s < 2 ^ 64 = omega (arith, times_below i (length γs) s (2 ^ 63) (omega arith) small) in let at : ℕ = i * s + o in
    use1 𝓛 (‵ (resting R γ b at) ⊛ raw (Back R 𝓛 b γs i o at)) (slot_out R 𝓛 b γs i o at lt refl) $ split ! $ fpick ! (λ st. let v : Option T.Denot = st.0 in let stands : base.Stored.Gv = gcons (gnum st.1.0) (sign R st.1.1) in fsplit ! $ move ! (1 ∷ []) $ fsplit ! $ move ! (1 ∷ []) $
    fpick ! (λ so. drop ! $ fsplit ! $
    -- [auth; what is told; the place; the way back; the mark; the row's cell; open; obs; auth; the others; what is known]
    move ! (10 ∷ 0 ∷ []) $ use2 𝓛 (given (known ≡ stands) (‵ (fres γ known) ⊛ ‵ (fauth γ stands))) (𝓛.names.res_agree γ known stands) $ learn ! (λ e. let is : v ≡ Some x = there R x v st.1.1 (ap rest_of e) so in split ! $
    rewrite ! 3 (λ (u : Option T.Denot). ‵ (place R b at u)) is refl $ move ! (3 ∷ 4 ∷ 5 ∷ 6 ∷ 7 ∷ 8 ∷ 9 ∷ 10 ∷ []) $
    -- [the value's place; the way back; the mark; the row's cell; open; obs; auth; the others]
    use1 𝓛 (some (λ (w : Val). given (Good (layout T) w) (‵ (fat full_share (layout T) b at w) ⊛ ‵ (T.own_val x (w ∷ []))))) (value_out T L 𝓛 b x at) $ pick ! (λ w. learn ! (λ good. split ! $
    take_at ! 2 $ rewrite ! 0 (λ (p : Ptr). ‵ (fat full_share (layout St) (l 2) 0 (word p))) (inside.0 ∙ is_block) refl $ give_at ! 2 $ first ! $ blocks ! $
    sets ! (bin ! (get ! refl) (size_lit ! (record { fits = tiny })) (record { fits = far })) refl (tt, record { fits = far }) $
    sets ! (bin ! (get_in ! (fld ! refl (stop !)) (sub ! 0 refl (whole !))) (get ! refl) tt) refl (tt, tt) $
    sets_last ! (of_opd ! (load ! (through ! refl (stop !)) (look ! 0 refl))) refl good $ exec ! 𝓣.C 𝓣.Λ Ev (after 1 fn.body) (at_ret Ev Post) $ sets ! (of_opd ! (get ! refl)) refl good $
    use1 𝓛 (‵ (froom (layout T) b at)) (𝓛.laws.at_room (layout T) b at w) $ as_raw ! (layout T) b at $
    use1 𝓛 (later (some (λ (δ : ℕ). ‵ (resting R δ b at) ⊛ ‵ (room R δ None)))) (slot_new R 𝓛 b at) $ await ! tt $ pick ! (λ δ. split ! $
    -- [the slot; its right; the value; the way back; the mark; the row's cell; open; obs; auth; the others; what is known]
    move ! (10 ∷ []) $ fpack ! ℕ (λ (k : ℕ). fres γ (mark R k (Some x))) ε $ move ! (2 ∷ 0 ∷ []) $ use2 𝓛 (given (δ ≡ γ → ⊥) (‵ (room R δ None) ⊛ ‵ (written R γ x))) (room_beside 𝓛 R γ δ x) $ learn ! (λ apart. split ! $
    move ! (2 ∷ 0 ∷ 3 ∷ 4 ∷ 5 ∷ 6 ∷ 7 ∷ 8 ∷ 9 ∷ 10 ∷ []) $ let δs : List ℕ = set γs i δ in let new : Rw.Denot = record { marker = d.marker; at = d.at; names = δs } in
    let Rests : SProp 𝓤 = sem 𝓛 (resting R δ b at) in let Put : SProp 𝓤 = sem 𝓛 (row R b o δs) in
    -- [the slot; its right; the value; the way back; the mark; the row's cell; open; obs; auth; the others]
    move ! (3 ∷ []) $ use1 𝓛 (raw (wand 𝓤 Rests Put)) (all_e 𝓤 (λ (k : ℕ). wand 𝓤 (sem 𝓛 (resting R k b at)) (sem 𝓛 (row R b o (set γs i k)))) δ) $ move ! (1 ∷ 0 ∷ []) $ use2 𝓛 (‵ (row R b o δs)) (apply∗ 𝓤 Rests Put) $
    flt_i ! (length δs * s) (2 ^ 63) (subst (λ (k : ℕ). k * s < 2 ^ 63) (sym (length-set γs i δ)) small) $ fjoin ! $ rewrite ! 0 (λ (p : Ptr). ‵ (row_owns R p δs)) (sym is_block) refl $
    -- [the row; the right; the value; the mark; the row's cell; open; obs; auth; the others]
    move ! (3 ∷ 0 ∷ []) $ fjoin ! $ move ! (3 ∷ 0 ∷ 4 ∷ 5 ∷ 6 ∷ []) $ closes ! tt Rw new vs rb ro $
    -- [obs; the borrow; the token; the right; the value; the others]
    let made : Rm.Denot = record { marker = record {}; of = δ; value = None } in let pair : Val = vstruct (vcons w (vcons token_val vnil)) in
    let Other : Type 0 = δ ≡ told_by.of → ⊥ in let Same : Type 0 = d.at ≡ d.at in let Names : Type 0 = δs ≡ δs in let Told : Type 0 = mathlib.Core.Path.Path (Option T.Denot) None None in let Value_is : Type 0 = x ≡ x in
    let Pair : RattleType = Tuple (R ∷ Rm ∷ []) in let tok : Good (layout Rm) token_val = (tt, (tt, tt)) in let both : Good (layout Pair) pair = (beside_token (mir.Val.has_ty (layout T) w) good.0, (good.1, ((tt, tt), tt))) in
    move ! (3 ∷ []) $ use1 𝓛 (‵ (Rm.own_val made (token_val ∷ []))) (room_made 𝓛 R δ None) $ move ! (4 ∷ 0 ∷ []) $ pair_in R Rm ! x made w token_val $
    sets ! (agg ! (no_more !)) refl (tt, tt) $ sets ! (agg ! (and_then ! (get ! refl) (no_more !))) refl tok $ sets ! (of_opd ! (get ! refl)) refl good $
    sets ! (agg ! (and_then ! (get ! refl) (and_then ! (get ! refl) (no_more !)))) refl both $
    -- [the pair; obs; the borrow; the token; the others]
    move ! (3 ∷ 4 ∷ []) $ join ! $ move ! (2 ∷ 3 ∷ []) $ feq_i ! (List Val) vss.0 (vptr rb ro ∷ []) e0 $ fjoin3 ! $ nothing ! $ nothing ! $ fjoin ! $ nothing ! $ fjoin ! $ nothing ! $ fjoin ! $ move ! (1 ∷ 0 ∷ []) $ fjoin ! $
    use0 𝓛 (raw (fact 𝓤 Same)) (fact_i 𝓤 Same (emp 𝓤) refl) $ use0 𝓛 (raw (fact 𝓤 Names)) (fact_i 𝓤 Names (emp 𝓤) refl) $ join ! $ use0 𝓛 (raw (fact 𝓤 Other)) (fact_i 𝓤 Other (emp 𝓤) (λ z. apart (z ∙ of))) $ join ! $ use0 𝓛 (raw (fact 𝓤 Told)) (fact_i 𝓤 Told (emp 𝓤) refl) $ join ! $ use0 𝓛 (raw (fact 𝓤 Value_is)) (fact_i 𝓤 Value_is (emp 𝓤) refl) $ join ! $
    -- [the facts; the row behind its `&mut`; the tokens; the pair]
    returns ! (look_at ! 0 refl) $ free_all ! refl $ keep ! (2 ∷ 1 ∷ 3 ∷ 0 ∷ []) $ by ! (leaves 𝓛 En hs c y pair (x, made) (new, (tt, (tt, (tt, tt)))) (tt, (tt, (tt, (tt, tt)))))))))))))))))))))))))))
