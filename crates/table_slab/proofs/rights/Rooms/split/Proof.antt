-- The first rights are cut off.
use Rattle.std.proofs.Common.{◌≡◌, ℕ, ◌^◌, ◌<◌, ◌≤◌, List, [], ◌∷◌, ◌++◌, sym, refl, arith, length, take, drop as drop_of, w64, take-append-drop, length-take}
use mir.Syntax.{a_type}
use mir.Val.{Val, vint, vstruct, vcons, vnil}
use mir.MapTy.{inst_fn}
use base.Logic.{SProp, emp}
use types.Kit.{‵, raw, ◌⊛◌, ◌$◌, ◌∵◌, !, qed, by, move, keep, use0, use1, split, join, fsplit, fjoin, rewrite}
use types.Run.{no_more, and_then, returns, enter}
use types.ByLocal.{alloc_all, pass_all, free_all, look_at, get, sets}
use types.Part.{agg}
use contract.Running.{tables}
use contract.Monad.{fact, fact_i}
use denote.Exit.{yes, no}
use denote.RattleType.{RattleType, owns}
use denote.Signature.{types_at, plain}
use denote.Steps.{nothing, heard}
use denote.Param.{param, layouts, layout}
use denote.Builtin.{usize}
use denote.Struct.Tuple.{Tuple}
use denote.Triple.Walked.{Stays, stay_dropped, walk_of, Goes-dropped}
use Rattle.std.proofs.raw_atomic.Walks.{proved, leaves}
use Rattle.core.proofs.cell.Inside.{Good}
use Rattle.table_slab.specs.Rights.{rooms}
use Rattle.table_slab.specs.contracts.rights.Rooms as Rooms
use Rattle.table_slab.proofs.Tokens.{rooms_split}
use Rattle.table_slab.proofs.Made.{token_val, pair_in, rooms_made, token_told}
use Rattle.table_slab.specs.contracts.rights.Rooms.split.{ended, clauses}
use Rattle.table_slab.specs.contracts.rights.Rooms.split.Key.{name as #self}
use Rattle.table_slab.proofs.rights.Rooms.split.Statement.{statement}
use Rattle.table_slab.proofs.rights.Rooms.split.Code as code

pub split_spec : {M : Type 1} → statement M
split_spec 𝓤 𝓛 𝓜 𝓡 wired T L =
    let H = 𝓛.H in let 𝓣 = tables 𝓤 H 𝓜 𝓡 𝓡.env in let R : RattleType = param 0 T in let En = ended T in let Rs : RattleType = Rooms.the_row R in
    let inst = layouts (a_type ∷ []) (T, tt) in let fn = inst_fn inst code.function in let c = clauses T 𝓛 𝓜.mem 𝓡.returns in
    let self = plain (λ _. Rs) in let how = plain (λ _. usize) in let hs : Stays En.signature.params En.kept = (stay_dropped self no, (stay_dropped how yes, tt)) in let pair : Val = vstruct (vcons token_val (vcons token_val vnil)) in
    proved 𝓛 En hs c 𝓜 𝓡 (Goes-dropped 𝓛 1 self no (λ κs x f. refl), (Goes-dropped 𝓛 1 how yes (λ κs x f. refl), tt)) (#self inst) fn (code.unfolded 𝓤 H 𝓜 𝓡 wired (T, tt))
    (λ κs. ((λ x. token_val ∷ []), ((λ n. vint w64 n ∷ []), tt))) (λ κs. ((λ x vs is. token_told R vs is.0), ((λ n vs is. is.0), tt))) (λ κs qs bounds a gh are.
    let γs : List ℕ = a.0.names in let n : ℕ = a.1.0 in let Enough : Type 0 = n ≤ length γs in let fits : n < 2 ^ 64 = are.1.0.1 in
    let y : (walk_of 𝓛 En hs c).Ghost = ((κs, qs, bounds, a, (token_val ∷ [], (vint w64 n ∷ [], tt))), gh) in let Post : Val → SProp 𝓤 = (walk_of 𝓛 En hs c).post y in
    qed 𝓛 ((raw (denote.Triple.Entry.alive 𝓛 En.signature κs qs) ⊛ ‵ (owns (types_at En.signature.params κs) a y.0.4)) ∷ raw (fact 𝓤 _) ∷ raw (fact 𝓤 Enough) ∷ []) ∵ keep ! (2 ∷ 0 ∷ []) $ heard ! Enough (λ so.
    let ps : List ℕ = take n γs in let rest : List ℕ = drop_of n γs in let is : γs ≡ ps ++ rest = sym (take-append-drop n γs) in let counts : length ps ≡ n = omega (arith, length-take n γs) in
    let r : Rs.Denot = record { marker = record {}; names = ps } in let s : Rs.Denot = record { marker = record {}; names = rest } in let Are : Type 0 = γs ≡ ps ++ rest in let Count : Type 0 = length ps ≡ n in
    split ! $ move ! (1 ∷ []) $ fsplit ! $ fsplit ! $ keep ! (1 ∷ 3 ∷ []) $ rewrite ! 0 (λ (u : List ℕ). ‵ (rooms R u)) is refl $ use1 𝓛 (‵ (rooms R ps) ⊛ ‵ (rooms R rest)) (rooms_split 𝓛 R ps rest) $ split ! $
    use1 𝓛 (‵ (Rs.own_val r (token_val ∷ []))) (rooms_made 𝓛 R ps) $ move ! (1 ∷ []) $ use1 𝓛 (‵ (Rs.own_val s (token_val ∷ []))) (rooms_made 𝓛 R rest) $ move ! (1 ∷ 0 ∷ []) $
    let Pair : RattleType = Tuple (Rs ∷ Rs ∷ []) in pair_in Rs Rs ! r s token_val token_val $
    enter ! 𝓣.C 𝓣.Λ fn (token_val ∷ vint w64 n ∷ []) Post $ alloc_all ! (λ l. pass_all ! refl ((tt, (tt, tt)), ((tt, record { fits = fits }), tt)) $ let tok : Good (layout Rs) token_val = (tt, (tt, tt)) in let both : Good (layout Pair) pair = (tt, ((tt, tt), ((tt, tt), tt))) in
    sets ! (agg ! (no_more !)) refl (tt, tt) $ sets ! (agg ! (and_then ! (get ! refl) (no_more !))) refl tok $ sets ! (agg ! (no_more !)) refl (tt, tt) $ sets ! (agg ! (and_then ! (get ! refl) (no_more !))) refl tok $
    sets ! (agg ! (and_then ! (get ! refl) (and_then ! (get ! refl) (no_more !)))) refl both $
    use0 𝓛 (raw (fact 𝓤 Count)) (fact_i 𝓤 Count (emp 𝓤) counts) $ use0 𝓛 (raw (fact 𝓤 Are)) (fact_i 𝓤 Are (emp 𝓤) is) $ join ! $ nothing ! $ nothing ! $ fjoin ! $ nothing ! $ fjoin ! $
    returns ! (look_at ! 0 refl) $ free_all ! refl $ keep ! (3 ∷ 0 ∷ 2 ∷ 1 ∷ []) $ by ! (leaves 𝓛 En hs c y pair (r, s) (tt, (tt, tt)) (tt, (tt, tt))))))
