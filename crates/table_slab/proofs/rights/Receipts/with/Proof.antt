-- One more receipt is put behind these.
use Rattle.std.proofs.Common.{◌≡◌, ℕ, List, [], ◌∷◌, ◌++◌, refl}
use mir.Syntax.{a_type}
use mir.Val.{Val}
use mir.MapTy.{inst_fn}
use base.Logic.{SProp, emp}
use types.Kit.{‵, raw, ◌⊛◌, ◌$◌, ◌∵◌, !, qed, by, move, keep, use0, use2, split, join, fsplit, fsplit3, fjoin3, rewrite}
use types.Run.{no_more, and_then, returns, enter}
use types.ByLocal.{alloc_all, pass_all, free_all, look_at, get, sets}
use types.Part.{agg}
use contract.Monad.{fact, fact_i}
use contract.Running.{tables}
use denote.Exit.{no}
use denote.RattleType.{RattleType, owns}
use denote.Signature.{types_at, plain}
use denote.Steps.{nothing, heard}
use denote.Param.{param, layouts, layout}
use denote.Triple.Entry.{alive}
use denote.Triple.Walked.{Stays, stay_dropped, walk_of, Goes-dropped}
use Rattle.std.proofs.raw_atomic.Walks.{proved, leaves}
use Rattle.core.proofs.cell.Inside.{Good}
use Rattle.table_slab.specs.Slabs.{SlabView}
use Rattle.table_slab.specs.Spent.{spent}
use Rattle.table_slab.specs.contracts.rights.Receipt as Receipt
use Rattle.table_slab.specs.contracts.rights.Receipts as Receipts
use Rattle.table_slab.proofs.Made.{token_val, token_told}
use Rattle.table_slab.proofs.Received.{with_receipt}
use Rattle.table_slab.specs.contracts.rights.Receipts.with as f
use Rattle.table_slab.proofs.rights.Receipts.with.Statement.{statement}
use Rattle.table_slab.proofs.rights.Receipts.with.Code as code

pub with_spec : {M : Type 1} → statement M
with_spec 𝓤 𝓛 𝓜 𝓡 wired T L =
    let 𝓣 = tables 𝓤 𝓛.H 𝓜 𝓡 𝓡.env in let R : RattleType = param 0 T in let Many : RattleType = Receipts.the_row R in let En = f.ended T in let c = f.clauses T 𝓛 𝓜.mem 𝓡.returns in
    let types = layouts (a_type ∷ []) (T, tt) in let fn = inst_fn types code.function in let these = plain (λ _. Many) in let one = plain (λ _. Receipt.the_row R) in
    let hs : Stays En.signature.params En.kept = (stay_dropped these no, (stay_dropped one no, tt)) in
    proved 𝓛 En hs c 𝓜 𝓡 (Goes-dropped 𝓛 1 these no (λ κs x w. refl), (Goes-dropped 𝓛 1 one no (λ κs x w. refl), tt)) (f.Key.name types) fn (code.unfolded 𝓤 𝓛.H 𝓜 𝓡 wired (T, tt))
    (λ κs. ((λ x. token_val ∷ []), ((λ x. token_val ∷ []), tt))) (λ κs. ((λ x vs is. token_told R vs is.0), ((λ x vs is. token_told R vs is.0), tt))) (λ κs qs bounds a gh are.
    let s : SlabView = a.0.slab in let es : List (ℕ × T.Denot) = a.0.entries in let r = a.1.0 in let all : List (ℕ × T.Denot) = es ++ (r.number, r.value) ∷ [] in
    let out : Many.Denot = record { marker = record {}; slab = s; entries = all } in let tok : Good (layout Many) token_val = (tt, (tt, tt)) in
    let y : (walk_of 𝓛 En hs c).Ghost = ((κs, qs, bounds, a, (token_val ∷ [], (token_val ∷ [], tt))), gh) in let Post : Val → SProp 𝓤 = (walk_of 𝓛 En hs c).post y in
    let Of : Type 0 = r.slab ≡ s in let Slab : Type 0 = s ≡ s in let All : Type 0 = all ≡ all in
    qed 𝓛 ((raw (alive 𝓛 En.signature κs qs) ⊛ ‵ (owns (types_at En.signature.params κs) a y.0.4)) ∷ raw (fact 𝓤 _) ∷ raw (fact 𝓤 Of) ∷ []) ∵
    move ! (2 ∷ 0 ∷ []) $ heard ! Of (λ of. split ! $ move ! (1 ∷ []) $ fsplit3 ! $ fsplit ! $ move ! (2 ∷ []) $ fsplit ! $ rewrite ! 1 (λ (u : SlabView). ‵ (spent R u r.number r.value)) of refl $
    -- [these; the one; the tokens]
    keep ! (3 ∷ 1 ∷ 5 ∷ []) $ use2 𝓛 (‵ (Many.own_val out (token_val ∷ []))) (with_receipt 𝓛 R s es r.number r.value) $
    enter ! 𝓣.C 𝓣.Λ fn (token_val ∷ token_val ∷ []) Post $ alloc_all ! (λ l. pass_all ! refl (tok, (tok, tt)) $
    sets ! (agg ! (no_more !)) refl (tt, tt) $ sets ! (agg ! (and_then ! (get ! refl) (no_more !))) refl tok $ returns ! (look_at ! 0 refl) $ free_all ! refl $
    use0 𝓛 (raw (fact 𝓤 All)) (fact_i 𝓤 All (emp 𝓤) refl) $ use0 𝓛 (raw (fact 𝓤 Slab)) (fact_i 𝓤 Slab (emp 𝓤) refl) $ join ! $
    nothing ! $ nothing ! $ nothing ! $ fjoin3 ! $ move ! (3 ∷ 0 ∷ 2 ∷ 1 ∷ []) $ by ! (leaves 𝓛 En hs c y token_val out (tt, (tt, tt)) (tt, (tt, tt))))))
