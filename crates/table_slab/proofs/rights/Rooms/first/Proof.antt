-- The first right is cut off.
use Rattle.std.proofs.Common.{◌≡◌, ℕ, ◌<◌, List, [], ◌∷◌, refl, arith, length}
use mir.Syntax.{a_type}
use mir.Val.{Val, vstruct, vcons, vnil}
use mir.MapTy.{inst_fn}
use base.Logic.{SProp, emp}
use types.Kit.{‵, raw, ◌⊛◌, ◌$◌, ◌∵◌, !, qed, by, move, keep, use0, use1, split, join, fsplit, fjoin, rewrite}
use types.Run.{no_more, and_then, returns, enter}
use types.ByLocal.{alloc_all, pass_all, free_all, look_at, get, sets}
use types.Part.{agg}
use contract.Running.{tables}
use contract.Monad.{fact, fact_i}
use denote.Exit.{no}
use denote.RattleType.{RattleType, owns}
use denote.Signature.{types_at, plain}
use denote.Steps.{nothing, heard}
use denote.Param.{param, layouts, layout}
use denote.Struct.Tuple.{Tuple}
use denote.Triple.Walked.{Stays, stay_dropped, walk_of, Goes-dropped}
use Rattle.std.proofs.raw_atomic.Walks.{proved, leaves}
use Rattle.core.proofs.cell.Inside.{Good}
use Rattle.core.specs.declared.option.Option.{Option}
use Rattle.core.specs.declared.option.Option.TheVariants.{None}
use Rattle.table_slab.specs.Rights.{rooms}
use Rattle.table_slab.specs.contracts.rights.Room as Room
use Rattle.table_slab.specs.contracts.rights.Rooms as Rooms
use Rattle.table_slab.proofs.Made.{token_val, pair_in, room_made, rooms_made, token_told}
use Rattle.table_slab.specs.contracts.rights.Rooms.first.{ended, clauses}
use Rattle.table_slab.specs.contracts.rights.Rooms.first.Key.{name as #self}
use Rattle.table_slab.proofs.rights.Rooms.first.Statement.{statement}
use Rattle.table_slab.proofs.rights.Rooms.first.Code as code

cut_off : (γs : List ℕ) → 0 < length γs → (γ : ℕ) × ((δs : List ℕ) × (γs ≡ γ ∷ δs))
cut_off [] h = absurd (omega arith)
cut_off (γ ∷ γs) h = (γ, (γs, refl))

pub first_spec : {M : Type 1} → statement M
first_spec 𝓤 𝓛 𝓜 𝓡 wired T L =
    let H = 𝓛.H in let 𝓣 = tables 𝓤 H 𝓜 𝓡 𝓡.env in let R : RattleType = param 0 T in let En = ended T in let Rs : RattleType = Rooms.the_row R in let Rm : RattleType = Room.the_row R in
    let inst = layouts (a_type ∷ []) (T, tt) in let fn = inst_fn inst code.function in let c = clauses T 𝓛 𝓜.mem 𝓡.returns in
    let self = plain (λ _. Rs) in let hs : Stays En.signature.params En.kept = (stay_dropped self no, tt) in let pair : Val = vstruct (vcons token_val (vcons token_val vnil)) in
    proved 𝓛 En hs c 𝓜 𝓡 (Goes-dropped 𝓛 1 self no (λ κs x f. refl), tt) (#self inst) fn (code.unfolded 𝓤 H 𝓜 𝓡 wired (T, tt))
    (λ κs. ((λ x. token_val ∷ []), tt)) (λ κs. ((λ x vs is. token_told R vs is.0), tt)) (λ κs qs bounds a gh are.
    let γs : List ℕ = a.0.names in let Some_of : Type 0 = 0 < length γs in
    let y : (walk_of 𝓛 En hs c).Ghost = ((κs, qs, bounds, a, (token_val ∷ [], tt)), gh) in let Post : Val → SProp 𝓤 = (walk_of 𝓛 En hs c).post y in
    qed 𝓛 ((raw (denote.Triple.Entry.alive 𝓛 En.signature κs qs) ⊛ ‵ (owns (types_at En.signature.params κs) a y.0.4)) ∷ raw (fact 𝓤 _) ∷ raw (fact 𝓤 Some_of) ∷ []) ∵ keep ! (2 ∷ 0 ∷ []) $ heard ! Some_of (λ so.
    let cut = cut_off γs so in let γ : ℕ = cut.0 in let δs : List ℕ = cut.1.0 in let is : γs ≡ γ ∷ δs = cut.1.1 in
    let rm : Rm.Denot = record { marker = record {}; of = γ; value = None } in let rs : Rs.Denot = record { marker = record {}; names = δs } in let Told : Type 0 = mathlib.Core.Path.Path (Option T.Denot) None None in let Are : Type 0 = γs ≡ γ ∷ δs in
    split ! $ move ! (1 ∷ []) $ fsplit ! $ fsplit ! $ keep ! (1 ∷ 3 ∷ []) $ rewrite ! 0 (λ (u : List ℕ). ‵ (rooms R u)) is refl $ fsplit ! $
    use1 𝓛 (‵ (Rm.own_val rm (token_val ∷ []))) (room_made 𝓛 R γ None) $ move ! (1 ∷ []) $ use1 𝓛 (‵ (Rs.own_val rs (token_val ∷ []))) (rooms_made 𝓛 R δs) $ move ! (1 ∷ 0 ∷ []) $
    let Pair : RattleType = Tuple (Rm ∷ Rs ∷ []) in pair_in Rm Rs ! rm rs token_val token_val $
    enter ! 𝓣.C 𝓣.Λ fn (token_val ∷ []) Post $ alloc_all ! (λ l. pass_all ! refl ((tt, (tt, tt)), tt) $ let tok : Good (layout Rm) token_val = (tt, (tt, tt)) in let both : Good (layout Pair) pair = (tt, ((tt, tt), ((tt, tt), tt))) in
    sets ! (agg ! (no_more !)) refl (tt, tt) $ sets ! (agg ! (and_then ! (get ! refl) (no_more !))) refl tok $ sets ! (agg ! (no_more !)) refl (tt, tt) $ sets ! (agg ! (and_then ! (get ! refl) (no_more !))) refl tok $
    sets ! (agg ! (and_then ! (get ! refl) (and_then ! (get ! refl) (no_more !)))) refl both $
    use0 𝓛 (raw (fact 𝓤 Told)) (fact_i 𝓤 Told (emp 𝓤) refl) $ use0 𝓛 (raw (fact 𝓤 Are)) (fact_i 𝓤 Are (emp 𝓤) is) $ join ! $ nothing ! $ nothing ! $ fjoin ! $
    returns ! (look_at ! 0 refl) $ free_all ! refl $ keep ! (3 ∷ 0 ∷ 2 ∷ 1 ∷ []) $ by ! (leaves 𝓛 En hs c y pair (rm, rs) (tt, tt) (tt, tt)))))
