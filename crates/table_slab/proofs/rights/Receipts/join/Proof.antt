-- The receipts of two lists are those of one list.
use Rattle.std.proofs.Common.{◌≡◌, ℕ, List, [], ◌∷◌, ◌++◌, refl}
use mir.Syntax.{a_type}
use mir.MapTy.{inst_fn}
use base.Logic.{emp}
use types.Kit.{‵, raw, ◌⊛◌, ◌$◌, ◌∵◌, !, qed, by, move, keep, use0, use2, split, join, fsplit, fsplit3, fjoin3, rewrite}
use types.Run.{no_more, and_then, returns}
use types.ByLocal.{alloc_all, pass_all, free_all, look_at, get, sets}
use types.Part.{agg}
use contract.Monad.{fact, fact_i}
use contract.Running.{tables}
use denote.Exit.{no}
use denote.RattleType.{RattleType, owns}
use denote.Signature.{types_at, plain}
use denote.Steps.{nothing, heard}
use denote.Param.{param, layouts, layout}
use denote.Triple.Entry.{alive}
use denote.Triple.Walked.{Stays, stay_dropped, Goes-dropped}
use Rattle.std.proofs.raw_atomic.Walks.{proved_at, leaves}
use Rattle.core.proofs.cell.Inside.{Good}
use Rattle.table_cell.proofs.Walks.{begins}
use Rattle.table_slab.specs.Slabs.{SlabView}
use Rattle.table_slab.specs.Spent.{spents}
use Rattle.table_slab.specs.contracts.rights.Receipts as Receipts
use Rattle.table_slab.proofs.Made.{token_val, token_told}
use Rattle.table_slab.proofs.Received.{receipts_joined}
use Rattle.table_slab.specs.contracts.rights.Receipts.join as f
use Rattle.table_slab.proofs.rights.Receipts.join.Statement.{statement}
use Rattle.table_slab.proofs.rights.Receipts.join.Code as code

pub join_spec : {M : Type 1} → statement M
join_spec 𝓤 𝓛 𝓜 𝓡 wired T L =
    let 𝓣 = tables 𝓤 𝓛.H 𝓜 𝓡 𝓡.env in let R : RattleType = param 0 T in let Many : RattleType = Receipts.the_row R in let En = f.ended T in let c = f.clauses T 𝓛 𝓜.mem 𝓡.returns in
    let types = layouts (a_type ∷ []) (T, tt) in let fn = inst_fn types code.function in let taken = plain (λ _. Many) in
    let hs : Stays En.signature.params En.kept = (stay_dropped taken no, (stay_dropped taken no, tt)) in let tells = token_told R in let tok : Good (layout Many) token_val = (tt, (tt, tt)) in
    proved_at 𝓛 En hs c 𝓜 𝓡 (Goes-dropped 𝓛 1 taken no (λ κs x w. refl), (Goes-dropped 𝓛 1 taken no (λ κs x w. refl), tt)) (f.Key.name types) fn (code.unfolded 𝓤 𝓛.H 𝓜 𝓡 wired (T, tt)) (λ y are.
    let s : SlabView = y.0.3.0.slab in let es : List (ℕ × T.Denot) = y.0.3.0.entries in let t : SlabView = y.0.3.1.0.slab in let fs : List (ℕ × T.Denot) = y.0.3.1.0.entries in
    let Of : Type 0 = t ≡ s in let out : Many.Denot = record { marker = record {}; slab = s; entries = es ++ fs } in let Slab : Type 0 = s ≡ s in let Entries : Type 0 = es ++ fs ≡ es ++ fs in
    qed 𝓛 ((raw (alive 𝓛 En.signature y.0.0 y.0.1) ⊛ ‵ (owns (types_at En.signature.params y.0.0) y.0.3 y.0.4)) ∷ raw (fact 𝓤 _) ∷ raw (fact 𝓤 Of) ∷ []) ∵ move ! (2 ∷ 0 ∷ []) $ heard ! Of (λ of.
    -- [the tokens; what is passed; a bound]
    split ! $ move ! (1 ∷ []) $ fsplit3 ! $ fsplit ! $ move ! (2 ∷ []) $ fsplit ! $ keep ! (3 ∷ 1 ∷ 5 ∷ []) $ rewrite ! 1 (λ (u : SlabView). ‵ (spents R u fs)) of refl $
    use2 𝓛 (‵ (Many.own_val out (token_val ∷ []))) (receipts_joined 𝓛 R s es fs) $
    begins ! fn (λ i. tells y.0.4.0 are.0.0 i ++ (tells y.0.4.1.0 are.1.0.0 i ++ [])) $ alloc_all ! (λ l. pass_all ! refl (tok, (tok, tt)) $
    sets ! (agg ! (no_more !)) refl (tt, tt) $ sets ! (agg ! (and_then ! (get ! refl) (no_more !))) refl tok $ returns ! (look_at ! 0 refl) $ free_all ! refl $
    -- [the receipts; the tokens]
    use0 𝓛 (raw (fact 𝓤 Entries)) (fact_i 𝓤 Entries (emp 𝓤) refl) $ use0 𝓛 (raw (fact 𝓤 Slab)) (fact_i 𝓤 Slab (emp 𝓤) refl) $ join ! $
    nothing ! $ nothing ! $ nothing ! $ fjoin3 ! $ move ! (3 ∷ 0 ∷ 2 ∷ 1 ∷ []) $ by ! (leaves 𝓛 En hs c y token_val out (tt, (tt, tt)) (tt, (tt, tt))))))
