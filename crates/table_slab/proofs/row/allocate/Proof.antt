-- The allocator is asked for a block, which is cut into the parts that the answer has. A refusal is passed on.
use Rattle.std.proofs.Common.{◌≡◌, ℕ, ◌*◌, ◌^◌, ◌<◌, [], ◌∷◌, refl, arith, w64}
use mathlib.Core.Bool.{true, false}
use lib.Dec.{lit<}
use mir.Syntax.{Body}
use mir.Val.{Val, vint, vptr, vstruct, vcons, vnil}
use mir.MapTy.{inst_fn}
use base.Logic.{SProp, emp}
use base.Fml.{Lft, Share, Incl-trans, ftrue, flft}
use prog.Wp.{WpFn}
use types.Kit.{Item, Goal, prop, at_ret, ‵, raw, ◌⊛◌, ◌$◌, ◌∵◌, !, qed, by, move, keep, drop, use1, split, fsplit, regoal}
use types.Match.{live, vrt, in_variant}
use types.Part.{agg, whole}
use types.Run.{stop, fld, lit, of_opd, no_more, and_then, exec, returns, enter, align_word}
use types.ByLocal.{alloc_all, pass_all, free_all, look_at, get, get_in, get_tag, sets, sets_last, lands_as, env}
use contract.Monad.{fact, fact_i}
use contract.BorrowLft.{◌⊑◌}
use contract.Running.{tables}
use denote.RattleType.{RattleType, flat, owns}
use denote.Shadow.{pure_i}
use denote.Signature.{types_at}
use denote.Steps.{heard}
use denote.Param.{layout}
use denote.RawPtr.{block_ptr}
use denote.Triple.Entry.{Vals}
use denote.Triple.Table.{framed}
use Rattle.std.specs.Prelude.{Ok, Err}
use Rattle.std.specs.Vec.Ownership.{FitsInBlock}
use Rattle.std.proofs.raw_atomic.Walks.{proved_at}
use Rattle.core.specs.Mem.{type_size}
use Rattle.core.specs.contracts.result.Result as result
use Rattle.core.specs.contracts.alloc.AllocError as refusal
use Rattle.core.proofs.mem.Param.{El, R}
use Rattle.core.proofs.alloc.Calls.{Al, Answer-typed}
use Rattle.core.proofs.slots.Leases.{args}
use Rattle.std_alloc.proofs.RcSteps.{Good, word-Good}
use Rattle.std_alloc.proofs.ResultValues.{ok_of}
use Rattle.std_alloc.proofs.VecSteps.Shapes.{after, head, arm_body}
use Rattle.table_slab.proofs.Blocks.{Parts, parts, parts_val, bytes, asks, goes_into, token_made, Used, used, used_go, used_up}
use Rattle.table_slab.specs.contracts.row.allocate.{ended, clauses}
use Rattle.table_slab.specs.contracts.row.allocate.Key.{name as #self}
use Rattle.table_slab.proofs.row.allocate.Statement.{statement}
use Rattle.table_slab.proofs.row.allocate.Code as code

pub allocate_spec : {M : Type 1} → statement M
allocate_spec 𝓤 𝓛 𝓜 𝓡 wired T A LT LA g d drops met gone =
    let E : El = record { row = T; laws = LT } in let Z : Al = record { row = A; laws = LA; g = g; d = d; drops = drops } in
    let H = 𝓛.H in let 𝓣 = tables 𝓤 H 𝓜 𝓡 𝓡.env in let En = ended T A g d drops in let c = clauses T A g d drops 𝓛 𝓜.mem 𝓡.returns in let fn = inst_fn (args E Z) code.function in
    let params = En.signature.params in
    proved_at 𝓛 En (used params En.kept) c 𝓜 𝓡 (used_go 𝓛 params En.kept ((λ κs x w. tt), ((λ κs x w. tt), tt))) (#self (args E Z)) fn (code.unfolded 𝓤 H 𝓜 𝓡 wired (T, (A, tt)) d drops) (λ y are.
    let κs = y.0.0 in let qs = y.0.1 in let alloc = y.0.3.0 in let n : ℕ = y.0.3.1.0 in let κ : Lft = κs.0 in let q : Share = qs.0 in let at : ℕ × ℕ = alloc.ref_ptr in
    let Post : Val → SProp 𝓤 = (Used 𝓛 En c).post y in let Given : Vals En.signature κs → Goal 𝓤 H = λ vss. prop (WpFn 𝓤 H 𝓣.C 𝓣.Λ fn (flat (types_at params κs) vss) Post) in
    let told : y.0.4 ≡ (vptr at.0 at.1 ∷ [], (vint w64 n ∷ [], tt)) = λ i. (are.0.0 i, (are.1.0.0 i, tt)) in
    let Answer : RattleType = result.the_row (Parts E Z) refusal.the_row in
    let ends = λ (v : Val) (r : Answer.Denot). used_up 𝓛 En c y v r (tt, (tt, tt)) in
    let Others : Item 𝓤 = ‵ (flft κs.1.0 qs.1.0) ⊛ ‵ (flft κs.1.1.0 qs.1.1.0) ⊛ ‵ ftrue in
    qed 𝓛 (((‵ (flft κ q) ⊛ Others) ⊛ ‵ (owns (types_at params κs) y.0.3 y.0.4)) ∷ raw (fact 𝓤 (κs.1.0 ⊑ T.lives)) ∷ raw (fact 𝓤 (κs.1.1.0 ⊑ A.lives)) ∷ raw (fact 𝓤 (FitsInBlock (R E) n)) ∷ []) ∵
    move ! (3 ∷ 2 ∷ []) $ heard ! (FitsInBlock (R E) n) (λ asked. heard ! (κs.1.1.0 ⊑ A.lives) (λ lasting. split ! $ move ! (1 ∷ []) $ fsplit ! $ fsplit ! $ drop ! $ move ! (2 ∷ []) $ split ! $ keep ! (2 ∷ 0 ∷ 1 ∷ []) $
    -- [the allocator; its token; the other tokens]
    regoal ! Given told refl $ enter ! 𝓣.C 𝓣.Λ fn (vptr at.0 at.1 ∷ vint w64 n ∷ []) Post $ alloc_all ! (λ l. pass_all ! refl ((tt, tt), ((tt, record { fits = are.1.0.1 }), tt)) $
    let Ev = env fn.locals l in let chosen : Body = head (after 2 fn.body) in let last : Body = after 3 fn.body in let size_fits : n * type_size (R E) < 2 ^ 64 = omega (arith, asked.0) in
    sets ! (bytes E ! n size_fits (get ! refl)) refl (tt, record { fits = size_fits }) $
    asks E Z 𝓜.mem 𝓡.returns κ q at alloc.now n ! (framed 𝓤 H 𝓜 𝓣) (met.allocate drops) (Incl-trans y.0.2.0 lasting) asked.0 (and_then ! (get ! refl) (and_then ! (get ! refl) (and_then ! (align_word !) (no_more !))))
    (λ b o γs counted. let new = parts E Z (block_ptr b o) γs n alloc.now in let new_val : Val = parts_val (block_ptr b o) in
    let typed : Good (layout (Parts E Z)) new_val = (tt, ((tt, tt), ((tt, tt), ((tt, tt), ((tt, tt), tt))))) in let ok_typed : Good (layout Answer) (live 0 (vcons new_val vnil)) = (tt, (record { fits = lit< tt }, (typed.1, tt))) in
    lands_as ! refl refl (Answer-typed true b o) $ goes_into ! 0 (arm_body 0 chosen) (get_tag ! (vrt ! refl (fld ! refl (stop !))) (whole !)) refl $
    sets ! (of_opd ! (get_in ! (vrt ! refl (fld ! refl (stop !))) (in_variant ! 0 0 refl refl (whole !)))) refl (tt, tt) $ sets ! (of_opd ! (get ! refl)) refl (tt, tt) $ sets ! (agg ! (and_then ! (get ! refl) (no_more !))) refl (word-Good [] (block_ptr b o)) $
    token_made ! refl (tt, tt) refl refl (tt, (tt, tt)) $ token_made ! refl (tt, tt) refl refl (tt, (tt, tt)) $ token_made ! refl (tt, tt) refl refl (tt, (tt, tt)) $
    sets ! (agg ! (and_then ! (get ! refl) (and_then ! (get ! refl) (and_then ! (get ! refl) (and_then ! (get ! refl) (no_more !)))))) refl typed $ sets_last ! (agg ! (and_then ! (lit ! tt) (and_then ! (get ! refl) (no_more !)))) refl ok_typed $
    exec ! 𝓣.C 𝓣.Λ Ev last (at_ret Ev Post) $ sets ! (of_opd ! (get ! refl)) refl ok_typed $ returns ! (look_at ! 0 refl) $ free_all ! refl $
    use1 𝓛 (‵ (Answer.own_val (Ok new) (live 0 (vcons new_val vnil) ∷ []))) (ok_of 𝓛 (Parts E Z) refusal.the_row new new_val) $ by ! (ends (live 0 (vcons new_val vnil)) (Ok new) (fact_i 𝓤 _ (emp 𝓤) (refl, counted, refl, refl, refl, refl))))
    (let no : Val = vstruct vnil in let err : Val = live 1 (vcons no vnil) in let err_typed : Good (layout Answer) err = (tt, (record { fits = lit< tt }, (tt, tt))) in
    lands_as ! refl refl (Answer-typed false 0 0) $ goes_into ! 1 (arm_body 1 chosen) (get_tag ! (vrt ! refl (fld ! refl (stop !))) (whole !)) refl $
    sets ! (of_opd ! (get_in ! (vrt ! refl (fld ! refl (stop !))) (in_variant ! 1 0 refl refl (whole !)))) refl (tt, tt) $ sets_last ! (agg ! (and_then ! (lit ! tt) (and_then ! (get ! refl) (no_more !)))) refl err_typed $
    exec ! 𝓣.C 𝓣.Λ Ev last (at_ret Ev Post) $ sets ! (of_opd ! (get ! refl)) refl err_typed $ returns ! (look_at ! 0 refl) $ free_all ! refl $
    pure_i ! (Answer.own_val (Err (record {})) (err ∷ [])) (λ us. (tt, (λ vss. (tt, (λ none. (tt, tt), tt))))) ((no ∷ []), (refl, (((no ∷ []), tt), (refl, ((tt, (refl, tt)), tt))))) $ by ! (ends err (Err (record {})) (fact_i 𝓤 _ (emp 𝓤) tt)))))))
