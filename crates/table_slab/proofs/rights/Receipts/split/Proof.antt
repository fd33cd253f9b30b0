-- The first receipts are cut off.
use Rattle.std.proofs.Common.{◌≡◌, ℕ, ◌≤◌, List, [], ◌∷◌, ◌++◌, sym, refl, arith, length, take, drop, take-append-drop, length-take}
use mir.Syntax.{a_type}
use mir.Val.{Val, vstruct, vcons, vnil}
use mir.MapTy.{inst_fn}
use base.Logic.{emp}
use types.Kit.{‵, raw, ◌⊛◌, ◌$◌, ◌∵◌, !, qed, by, move, keep, use0, use1, split, join, fsplit, fsplit3, fjoin3, rewrite}
use types.Run.{no_more, and_then, returns}
use types.ByLocal.{alloc_all, pass_all, free_all, look_at, get, sets}
use types.Part.{agg}
use contract.Monad.{fact, fact_i}
use contract.Running.{tables}
use denote.Exit.{yes, no}
use denote.RattleType.{RattleType, owns}
use denote.Signature.{types_at, plain}
use denote.Steps.{nothing, heard}
use denote.Param.{param, layouts, layout}
use denote.Builtin.{usize}
use denote.Triple.Entry.{alive}
use denote.Triple.Walked.{Stays, stay_dropped, Goes-dropped}
use Rattle.std.proofs.raw_atomic.Walks.{proved_at, leaves}
use Rattle.core.proofs.cell.Inside.{Good}
use Rattle.table_cell.proofs.Walks.{begins}
use Rattle.table_slab.specs.Slabs.{SlabView}
use Rattle.table_slab.specs.Spent.{spents}
use Rattle.table_slab.specs.contracts.rights.Receipts as Receipts
use Rattle.table_slab.proofs.Made.{token_val, token_told, pair_in}
use Rattle.table_slab.proofs.Received.{receipts_made}
use Rattle.table_slab.proofs.Spent.{spents_split}
use Rattle.table_slab.specs.contracts.rights.Receipts.split as f
use Rattle.table_slab.proofs.rights.Receipts.split.Statement.{statement}
use Rattle.table_slab.proofs.rights.Receipts.split.Code as code

pub split_spec : {M : Type 1} → statement M
split_spec 𝓤 𝓛 𝓜 𝓡 wired T L =
    let 𝓣 = tables 𝓤 𝓛.H 𝓜 𝓡 𝓡.env in let R : RattleType = param 0 T in let Many : RattleType = Receipts.the_row R in let En = f.ended T in let c = f.clauses T 𝓛 𝓜.mem 𝓡.returns in
    let types = layouts (a_type ∷ []) (T, tt) in let fn = inst_fn types code.function in let taken = plain (λ _. Many) in let how_many = plain (λ _. usize) in
    let hs : Stays En.signature.params En.kept = (stay_dropped taken no, (stay_dropped how_many yes, tt)) in let tok : Good (layout Many) token_val = (tt, (tt, tt)) in
    let both : Val = vstruct (vcons token_val (vcons token_val vnil)) in
    proved_at 𝓛 En hs c 𝓜 𝓡 (Goes-dropped 𝓛 1 taken no (λ κs x w. refl), (Goes-dropped 𝓛 1 how_many yes (λ κs x w. refl), tt)) (f.Key.name types) fn (code.unfolded 𝓤 𝓛.H 𝓜 𝓡 wired (T, tt)) (λ y are.
    let s : SlabView = y.0.3.0.slab in let es : List (ℕ × T.Denot) = y.0.3.0.entries in let n : ℕ = y.0.3.1.0 in let Enough : Type 0 = n ≤ length es in
    qed 𝓛 ((raw (alive 𝓛 En.signature y.0.0 y.0.1) ⊛ ‵ (owns (types_at En.signature.params y.0.0) y.0.3 y.0.4)) ∷ raw (fact 𝓤 _) ∷ raw (fact 𝓤 Enough) ∷ []) ∵
    move ! (2 ∷ 0 ∷ []) $ heard ! Enough (λ enough.
    let front : List (ℕ × T.Denot) = take n es in let back : List (ℕ × T.Denot) = drop n es in let is : es ≡ front ++ back = sym (take-append-drop n es) in let Slabs : Type 0 = (s ≡ s) × (s ≡ s) in
    let one : Many.Denot = record { marker = record {}; slab = s; entries = front } in let other : Many.Denot = record { marker = record {}; slab = s; entries = back } in
    let Parts : Type 0 = es ≡ front ++ back in let Count : Type 0 = length front ≡ n in
    -- [the tokens; what is passed; a bound]
    split ! $ move ! (1 ∷ []) $ fsplit3 ! $ fsplit ! $ keep ! (1 ∷ 4 ∷ []) $ rewrite ! 0 (λ (u : List (ℕ × T.Denot)). ‵ (spents R s u)) is refl $
    use1 𝓛 (‵ (spents R s front) ⊛ ‵ (spents R s back)) (spents_split 𝓛 R s front back) $ split ! $ use1 𝓛 (‵ (Many.own_val one (token_val ∷ []))) (receipts_made 𝓛 R s front) $
    move ! (1 ∷ []) $ use1 𝓛 (‵ (Many.own_val other (token_val ∷ []))) (receipts_made 𝓛 R s back) $ move ! (1 ∷ []) $ pair_in Many Many ! one other token_val token_val $
    begins ! fn (λ i. token_told R y.0.4.0 are.0.0 i ++ (are.1.0.0 i ++ [])) $ alloc_all ! (λ l. pass_all ! refl (tok, ((tt, record { fits = are.1.0.1 }), tt)) $
    sets ! (agg ! (no_more !)) refl (tt, tt) $ sets ! (agg ! (and_then ! (get ! refl) (no_more !))) refl tok $
    sets ! (agg ! (no_more !)) refl (tt, tt) $ sets ! (agg ! (and_then ! (get ! refl) (no_more !))) refl tok $
    sets ! (agg ! (and_then ! (get ! refl) (and_then ! (get ! refl) (no_more !)))) refl (tt, ((tt, tt), ((tt, tt), tt))) $ returns ! (look_at ! 0 refl) $ free_all ! refl $
    -- [the two; the tokens]
    use0 𝓛 (raw (fact 𝓤 Count)) (fact_i 𝓤 Count (emp 𝓤) (omega (arith, enough, length-take n es))) $
    use0 𝓛 (raw (fact 𝓤 Parts)) (fact_i 𝓤 Parts (emp 𝓤) is) $ join ! $ use0 𝓛 (raw (fact 𝓤 Slabs)) (fact_i 𝓤 Slabs (emp 𝓤) (refl, refl)) $ join ! $
    nothing ! $ nothing ! $ nothing ! $ fjoin3 ! $ move ! (3 ∷ 0 ∷ 2 ∷ 1 ∷ []) $ by ! (leaves 𝓛 En hs c y both (one, other) (tt, (tt, tt)) (tt, (tt, tt))))))
