-- The table is lent again to `insert_alone` for a lifetime of the walk's own, at which the target is shown. It ends once that is let
-- go of, and the table comes back at the value of which clause `leaves` speaks. Assumes `Logic`.
use Rattle.std.proofs.Common.{ℕ, List, [], ◌∷◌, ◌++◌, refl, sym, ap, w64}
use Rattle.std.specs.Fn.{FnReturnsAt, FnReturnsAtPair}
use Rattle.std.proofs.alloc.Calls.{handle_tells}
use Rattle.std.proofs.raw_atomic.Walks.{proved_at, leaves}
use Rattle.std.specs.contracts.option.Option as option
use Rattle.std.specs.contracts.result.Result as result
use Rattle.std.proofs.option.Option.TheLaws as option-laws
use Rattle.std.proofs.result.Result.TheLaws as result-laws
use Rattle.table_cell.proofs.Walks.{begins}
use Rattle.table_held.specs.Held.{InsertLeaves, InsertShows}
use Rattle.table_held.specs.Rests.{RestsAs}
use Rattle.table_held.specs.contracts.raw.HeldRawTable as table
use Rattle.table_held.specs.contracts.raw.HeldRawTable.insert_alone as inserts
use Rattle.table_held.proofs.Told.{as_value, Shown, shown_laws}
use Rattle.table_held.proofs.raw.HeldRawTable.insert_alone.Met as inserts-thm
use Rattle.demo_examples.specs.Unshown.{IsUnshown, LeavesUnshown}
use Rattle.demo_examples.specs.contracts.unshown.insert_unshown as f
use Rattle.demo_examples.specs.contracts.unshown.unshown as lets_go
use Rattle.demo_examples.proofs.unshown.unshown.Met as lets_go-thm
use Rattle.demo_examples.proofs.unshown.insert_unshown.Statement.{statement}
use Rattle.demo_examples.proofs.unshown.insert_unshown.Code as code
use base.Fml.{Lft, GName, Share, ftrue, fdead, flft}
use base.Fraction.{full_share, left, right}
use base.Logic.{wand, apply∗, emp, id⊢}
use contract.BorrowLft.{◌⊑◌, ⊑_refl, ⊑_trans, meet_⊑_left, meet_⊑_right}
use contract.Lifetimes.{Lfts}
use contract.Monad.{fact, fact_i}
use contract.Running.{tables, tables_of}
use denote.Builtin.{u64}
use denote.Exit.{yes, no}
use denote.Follow.{such_by, follows_by}
use denote.Lend.{lends_again, comes_back, LentAgain}
use denote.Param.{param, copied, bounded}
use denote.Param.Laws.{param_laws}
use denote.RattleType.{RattleType, owns}
use denote.Ref.{MutBor, MutRef, NamedLft, at_last}
use denote.Signature.{types_at, plain}
use denote.Steps.{nothing, only, heard}
use denote.Triple.Call.{calls_at}
use denote.Triple.End.{Fins, lasts_of}
use denote.Triple.Entry.{Args}
use denote.Triple.Spec.{triple_of}
use denote.Triple.Walked.{Stays, stay_dropped, stay_ref, Goes-ref, Goes-dropped}
use ghost.Rules.{Toks}
use mir.MapTy.{inst_fn}
use mir.Syntax.{named, a_type, dcons, dnil}
use mir.Val.{Val, vptr, vint}
use sound.WpLaws.{fm_of}
use types.ByLocal.{alloc_all, pass_all, free_all, look_at, get, through, sets, lands_as}
use types.Kit.{‵, raw, ◌⊛◌, some, later, ◌$◌, ◌∵◌, !, qed, by, move, keep, drop, group, split, split3, join, fsplit, fsplit3, fjoin, fpick, pick, use0, use1, use2, use3, await, rewrite}
use types.Logic.{lfts}
use types.Run.{stop, of_opd, no_more, and_then, returns, addr}
use types.Tokens.{one_token, lft_new, lft_end}

pub insert_unshown_spec : {M : Type 1} → statement M
unfolding tables_of such_by follows_by
insert_unshown_spec 𝓤 𝓛 𝓜 𝓡 wired T A V L E H LT LA LV LL LE LH CA t td a ad c cd l ld e ed em eo h hd hm ho xd ex hx t_met a_met c_met l_met e_met em_met eo_met h_met hm_met ho_met x_met ex_met hx_met =
    let 𝓣 = tables 𝓤 𝓛.H 𝓜 𝓡 𝓡.env in let fm = fm_of 𝓤 𝓛.H 𝓛.laws (tables_of 𝓤 𝓛.H 𝓜 𝓣) in
    let En = f.ended T A V L E H t td a ad c cd l ld e ed em eo h hd hm ho xd ex hx in let cl = f.clauses T A V L E H t td a ad c cd l ld e ed em eo h hd hm ho xd ex hx 𝓛 𝓜.mem 𝓡.returns in
    let R : RattleType = param 0 T in let R-laws = param_laws 0 T LT in let U : RattleType = param 2 V in
    let Eq : RattleType = param 4 E in let Eq-laws = param_laws 4 E LE in let Hs : RattleType = param 5 H in let Hs-laws = param_laws 5 H LH in
    let S : RattleType = table.the_row R (copied 1 A) U t a in let Back : RattleType = result.the_row (option.the_row R) R in
    let Back-laws = result-laws.the_row_laws (option.the_row R) R (option-laws.the_row_laws R R-laws) R-laws in
    let types = bounded (a_type ∷ a_type ∷ a_type ∷ a_type ∷ a_type ∷ a_type ∷ []) (T, (A, (V, (L, (E, (H, tt))))))
    (dcons td (dcons ad (dcons cd (dcons ld (dcons ed (dcons em (dcons eo (dcons hd (dcons hm (dcons ho (dcons xd (dcons ex (dcons hx dnil))))))))))))) in
    let fn = inst_fn types code.function in
    let hs : Stays En.signature.params En.kept = (stay_ref (0 ∷ []) tt (plain (λ _. S)), (stay_dropped (plain (λ _. u64)) yes, (stay_dropped (plain (λ _. R)) no, (stay_dropped (plain (λ _. Eq)) no, (stay_dropped (plain (λ _. Hs)) no, tt))))) in
    let first = triple_of 𝓛 (inserts.signature T A V L E H t td a ad c cd xd l ld e ed em eo h hd hm ho ex hx) (inserts.spec T A V L E H t td a ad c cd xd l ld e ed em eo h hd hm ho ex hx 𝓛 𝓜.mem 𝓡.returns) in
    let first-ended = inserts.ended T A V L E H t td a ad c cd xd l ld e ed em eo h hd hm ho ex hx in
    let second = triple_of 𝓛 (lets_go.signature T V) (lets_go.spec T V 𝓛 𝓜.mem 𝓡.returns) in
    let second-ended = lets_go.ended T V in
    proved_at 𝓛 En hs cl 𝓜 𝓡
    (Goes-ref 𝓛 7 0 tt (plain (λ _. S)), (Goes-dropped 𝓛 7 (plain (λ _. u64)) yes (λ κs x w. refl), (Goes-dropped 𝓛 7 (plain (λ _. R)) no (λ κs x w. refl), (Goes-dropped 𝓛 7 (plain (λ _. Eq)) no (λ κs x w. refl), (Goes-dropped 𝓛 7 (plain (λ _. Hs)) no (λ κs x w. refl), tt)))))
    (f.Key.name types) fn (code.unfolded 𝓤 𝓛.H 𝓜 𝓡 wired (T, (A, (V, (L, (E, (H, tt)))))) td ad cd ld ed em eo hd hm ho xd ex hx) (λ z are.
    let κs = z.0.0 in let qs = z.0.1 in let κ : Lft = κs.0 in let q : Share = qs.0 in
    let κT = κs.1.0 in let κA = κs.1.1.0 in let κV = κs.1.1.1.0 in let κL = κs.1.1.1.1.0 in let κE = κs.1.1.1.1.1.0 in let κH = κs.1.1.1.1.1.1.0 in
    let qT = qs.1.0 in let qA = qs.1.1.0 in let qV = qs.1.1.1.0 in let qL = qs.1.1.1.1.0 in let qE = qs.1.1.1.1.1.0 in let qH = qs.1.1.1.1.1.1.0 in
    let rest = ‵ (flft κL qL) ⊛ ‵ (flft κE qE) ⊛ ‵ (flft κH qH) ⊛ ‵ ftrue in
    let alive = ‵ (flft κ q) ⊛ ‵ (flft κT qT) ⊛ ‵ (flft κA qA) ⊛ ‵ (flft κV qV) ⊛ rest in
    let s : MutBor S.Denot = z.0.3.0 in let hash : ℕ = z.0.3.1.0 in let value = z.0.3.1.1.0 in let eq = z.0.3.1.1.1.0 in let hash_fn = z.0.3.1.1.1.1.0 in let b = s.ref_ptr.0 in let o = s.ref_ptr.1 in
    let p : Val = vptr b o in let n : Val = vint w64 hash in let Ref = λ (ν : Lft) (x : MutBor S.Denot). (MutRef (named 0) ν S).own_val x (p ∷ []) in
    let Asks : Type 0 = f.E-IsAlwaysCallable T A V L E H t td a ad c cd l ld e ed em eo h hd hm ho xd ex hx eq in
    let Asks' : Type 0 = f.H-IsAlwaysCallable T A V L E H t td a ad c cd l ld e ed em eo h hd hm ho xd ex hx hash_fn in
    let answers = FnReturnsAtPair e eq in let rehash = FnReturnsAt h hash_fn in
    qed 𝓛 ((alive ⊛ ‵ (owns (types_at En.signature.params κs) z.0.3 z.0.4)) ∷ raw (fact 𝓤 (κT ⊑ T.lives)) ∷ raw (fact 𝓤 (κA ⊑ A.lives)) ∷ raw (fact 𝓤 (κV ⊑ V.lives)) ∷ raw (fact 𝓤 (κL ⊑ L.lives)) ∷ raw (fact 𝓤 (κE ⊑ E.lives))
    ∷ raw (fact 𝓤 (κH ⊑ H.lives)) ∷ raw (fact 𝓤 Asks) ∷ raw (fact 𝓤 Asks') ∷ []) ∵ move ! (1 ∷ 2 ∷ 3 ∷ 4 ∷ 5 ∷ 6 ∷ 7 ∷ 8 ∷ []) $
    heard ! (κT ⊑ T.lives) (λ inT. heard ! (κA ⊑ A.lives) (λ inA. heard ! (κV ⊑ V.lives) (λ inV. heard ! (κL ⊑ L.lives) (λ inL. heard ! (κE ⊑ E.lives) (λ inE. heard ! (κH ⊑ H.lives) (λ inH. heard ! Asks (λ asks. heard ! Asks' (λ asks'.
    -- [the tokens; what is owned]
    split ! $ move ! (1 ∷ []) $ fsplit3 ! $ move ! (2 ∷ []) $ fsplit3 ! $ move ! (2 ∷ []) $ fsplit ! $
    -- [hash_fn; nothing; the value; eq; the table; the hash; the tokens]
    handle_tells (as_value Hs Hs-laws) ! hash_fn z.0.4.1.1.1.1.0 (λ u₃ is₃ good₃. move ! (3 ∷ []) $ handle_tells (as_value Eq Eq-laws) ! eq z.0.4.1.1.1.0 (λ u₂ is₂ good₂. move ! (3 ∷ []) $ handle_tells (as_value R R-laws) ! value z.0.4.1.1.0 (λ u₁ is₁ good₁.
    -- [the value; eq; hash_fn; nothing; the table; the hash; the tokens]
    move ! (4 ∷ []) $ rewrite ! 0 (λ (us : List Val). ‵ ((MutRef (named 0) κ S).own_val s us)) are.0.0 refl $ move ! (5 ∷ []) $ rewrite ! 0 (λ (us : List Val). ‵ (u64.own_val hash us)) are.1.0.0 refl $
    -- [the hash; the table; the value; eq; hash_fn; nothing; the tokens]
    begins ! fn (λ i. are.0.0 i ++ (are.1.0.0 i ++ (is₁ i ++ (is₂ i ++ (is₃ i ++ []))))) $ alloc_all ! (λ m. pass_all ! refl ((tt, tt), ((tt, record { fits = are.1.0.1 }), (good₁, (good₂, (good₃, tt))))) $
    sets ! (addr ! (through ! refl (stop !))) refl (tt, tt) $ sets ! (of_opd ! (get ! refl)) refl good₁ $ sets ! (of_opd ! (get ! refl)) refl good₂ $ sets ! (of_opd ! (get ! refl)) refl good₃ $
    -- a lifetime within those of the types
    move ! (6 ∷ []) $ split3 ! $ move ! (2 ∷ []) $ split3 ! $ lft_new ! tt (λ i.
    let ts : Toks = (i ∷ [], full_share) ∷ (κT, qT) ∷ (κA, qA) ∷ (κV, qV) ∷ [] in let α : Lft = i ∷ κT ++ (κA ++ κV) in
    let below : α ⊑ κT ++ (κA ++ κV) = meet_⊑_right (i ∷ []) (κT ++ (κA ++ κV)) in
    let below' : α ⊑ κA ++ κV = ⊑_trans α (κT ++ (κA ++ κV)) (κA ++ κV) below (meet_⊑_right κT (κA ++ κV)) in
    let inT' : α ⊑ T.lives = ⊑_trans α κT T.lives (⊑_trans α (κT ++ (κA ++ κV)) κT below (meet_⊑_left κT (κA ++ κV))) inT in
    let inA' : α ⊑ A.lives = ⊑_trans α κA A.lives (⊑_trans α (κA ++ κV) κA below' (meet_⊑_left κA κV)) inA in
    let inV' : α ⊑ V.lives = ⊑_trans α κV V.lives (⊑_trans α (κA ++ κV) κV below' (meet_⊑_right κA κV)) inV in
    -- [the new token; A's token; V's token; the rest; κ's token; T's token; the hash; the table; the value; eq; hash_fn; nothing]
    move ! (0 ∷ 5 ∷ 1 ∷ 2 ∷ []) $ group ! 4 $ use1 𝓛 (some (λ (r : Share). ‵ (flft α r) ⊛ raw (wand 𝓤 (𝓛.A.lft α r) (lfts 𝓛 ts)))) (one_token 𝓛 ts) $ pick ! (λ r. split ! $
    use1 𝓛 (‵ (flft α (left r)) ⊛ ‵ (flft α (right r))) (𝓛.lfts.lft_split α r) $ split ! $ use1 𝓛 (‵ (flft α (left (left r))) ⊛ ‵ (flft α (right (left r)))) (𝓛.lfts.lft_split α (left r)) $ split ! $
    move ! (2 ∷ []) $ use1 𝓛 (‵ (flft α (left (right r))) ⊛ ‵ (flft α (right (right r)))) (𝓛.lfts.lft_split α (right r)) $ split ! $
    -- [four tokens of α; the way back; the rest; κ's token; the hash; the table; the value; eq; hash_fn; nothing]
    move ! (8 ∷ 6 ∷ []) $ use2 𝓛 (later (some (λ (δ : GName). ‵ (Ref α (record s { ghost_name = δ })) ⊛ ‵ (LentAgain S κ α q s.ghost_name b o δ s.now)))) (lends_again 𝓛 S (named 0) κ α q s.ghost_name b o (named 0) s.now) $ await ! tt $ pick ! (λ δ. split ! $
    -- [the loan; what the lender keeps; four tokens of α; the way back; the rest; the hash; the value; eq; hash_fn; nothing]
    move ! (2 ∷ 3 ∷ 4 ∷ 5 ∷ 7 ∷ []) $ group ! 5 $ move ! (7 ∷ 8 ∷ []) $ fjoin ! $ move ! (7 ∷ 0 ∷ []) $ fjoin ! $ move ! (6 ∷ 0 ∷ []) $ fjoin ! $ move ! (5 ∷ 0 ∷ []) $ fjoin ! $ move ! (2 ∷ 0 ∷ []) $ fjoin ! $ move ! (1 ∷ 0 ∷ []) $ join ! $
    use0 𝓛 (raw (fact 𝓤 Asks')) (fact_i 𝓤 Asks' (emp 𝓤) asks') $ use0 𝓛 (raw (fact 𝓤 Asks)) (fact_i 𝓤 Asks (emp 𝓤) asks) $ join ! $ use0 𝓛 (raw (fact 𝓤 (κH ⊑ H.lives))) (fact_i 𝓤 (κH ⊑ H.lives) (emp 𝓤) inH) $ join ! $
    use0 𝓛 (raw (fact 𝓤 (κE ⊑ E.lives))) (fact_i 𝓤 (κE ⊑ E.lives) (emp 𝓤) inE) $ join ! $ use0 𝓛 (raw (fact 𝓤 (κL ⊑ L.lives))) (fact_i 𝓤 (κL ⊑ L.lives) (emp 𝓤) inL) $ join ! $ use0 𝓛 (raw (fact 𝓤 (α ⊑ V.lives))) (fact_i 𝓤 (α ⊑ V.lives) (emp 𝓤) inV') $ join ! $
    use0 𝓛 (raw (fact 𝓤 (α ⊑ A.lives))) (fact_i 𝓤 (α ⊑ A.lives) (emp 𝓤) inA') $ join ! $ use0 𝓛 (raw (fact 𝓤 (α ⊑ T.lives))) (fact_i 𝓤 (α ⊑ T.lives) (emp 𝓤) inT') $ join ! $ move ! (1 ∷ 0 ∷ []) $ join ! $
    let me : MutBor S.Denot = record s { ghost_name = δ } in let loan : Lfts 7 = (α, (α, (α, (α, (κL, (κE, (κH, tt))))))) in
    let given : Args first-ended.signature loan = (me, (hash, (value, (eq, (hash_fn, tt))))) in
    let y : first.Ghost = ((loan, (left (right r), (right (right r), (left (left r), (right (left r), (qL, (qE, (qH, tt))))))), (⊑_refl α, (⊑_refl α, (⊑_refl α, tt))), given, (p ∷ [], (n ∷ [], (u₁ ∷ [], (u₂ ∷ [], (u₃ ∷ [], tt)))))), tt) in
    let during = ‵ (flft α (left (right r))) ⊛ ‵ (flft α (right (right r))) ⊛ ‵ (flft α (left (left r))) ⊛ ‵ (flft α (right (left r))) ⊛ rest in
    use1 𝓛 (raw (first.pre y)) (id⊢ 𝓤 _) $
    calls_at ! fm first (inserts-thm.met 𝓤 𝓛 𝓜 𝓡 (code.calls-table_held::raw::HeldRawTable::insert_alone 𝓡.env wired) T A V L E H LT LA LV LL LE LH CA t td a ad c cd xd l ld e ed em eo h hd hm ho ex hx t_met a_met c_met x_met l_met e_met em_met eo_met h_met hm_met ho_met ex_met hx_met) y
    (and_then ! (get ! refl) (and_then ! (get ! refl) (and_then ! (get ! refl) (and_then ! (get ! refl) (and_then ! (get ! refl) (no_more !)))))) (λ v.
    let ℓ : NamedLft = record { mir = named 0; lft = α } in let G : RattleType = Shown T LT ℓ 2 V LV in
    let Leaves : G.Denot → S.Denot → Type 0 = λ g new. InsertLeaves t.target l.same l.hash_of answers rehash s.now hash value g new in let Seen : G.Denot → Type 0 = λ g. InsertShows t.target l.same l.hash_of answers rehash s.now hash value g in
    use1 𝓛 (later (some (λ (g : G.Denot). (during ⊛ ‵ (G.own_val g (v ∷ []))) ⊛ some (λ (ws : Fins loan first-ended.signature.params first-ended.kept given).
    ‵ (lasts_of loan first-ended.signature.params first-ended.kept given ws) ⊛ (‵ (RestsAs S me (Leaves g)) ⊛ raw (fact 𝓤 (Seen g))))))) (id⊢ 𝓤 _) $ await ! tt $ pick ! (λ g. split ! $ move ! (1 ∷ []) $ pick ! (λ ws. split ! $ drop ! $ split ! $ fpick ! (λ d.
    -- [what is said of the name; the fact; the tokens and the answer; what the lender keeps; the way back]
    let w : S.Denot = d.0.1 in move ! (1 ∷ []) $ drop ! $ move ! (1 ∷ []) $ split ! $ move ! (1 ∷ []) $ handle_tells (as_value G (shown_laws T LT ℓ 2 V LV)) ! g (v ∷ []) (λ v' is' good'. lands_as ! (ap only is') refl good' $ sets ! (of_opd ! (get ! refl)) refl good' $
    -- [the answer; the tokens; what is said of the name; what the lender keeps; the way back]
    move ! (1 ∷ []) $ split3 ! $ move ! (2 ∷ []) $ split3 ! $
    nothing ! $ move ! (1 ∷ 0 ∷ []) $ join ! $ move ! (4 ∷ 0 ∷ []) $ join ! $ move ! (3 ∷ 0 ∷ []) $ join ! $
    -- [three tokens; one token; the rest; the answer; what is said of the name; what the lender keeps; the way back]
    nothing ! $ move ! (4 ∷ 0 ∷ []) $ fjoin ! $ move ! (1 ∷ 0 ∷ []) $ join ! $
    use0 𝓛 (raw (emp 𝓤)) (id⊢ 𝓤 (emp 𝓤)) $ use0 𝓛 (raw (fact 𝓤 (α ⊑ V.lives))) (fact_i 𝓤 (α ⊑ V.lives) (emp 𝓤) inV') $ join ! $ use0 𝓛 (raw (fact 𝓤 (α ⊑ T.lives))) (fact_i 𝓤 (α ⊑ T.lives) (emp 𝓤) inT') $ join ! $ move ! (1 ∷ 0 ∷ []) $ join ! $
    let few : Lfts 3 = (α, (α, (α, tt))) in let y' : second.Ghost = ((few, (left (right r), (right (right r), (left (left r), tt))), (⊑_refl α, tt), (g, tt), (v' ∷ [], tt)), tt) in
    use1 𝓛 (raw (second.pre y')) (id⊢ 𝓤 _) $
    calls_at ! fm second (lets_go-thm.met 𝓤 𝓛 𝓜 𝓡 (code.calls-demo_examples::unshown::unshown 𝓡.env wired) T V LT LV) y' (and_then ! (get ! refl) (no_more !)) (λ v''.
    let Quiet : Back.Denot → Type 0 = λ out. IsUnshown g out in
    use1 𝓛 (later (some (λ (out : Back.Denot). ((‵ (flft α (left (right r))) ⊛ ‵ (flft α (right (right r))) ⊛ ‵ (flft α (left (left r))) ⊛ ‵ ftrue) ⊛ ‵ (Back.own_val out (v'' ∷ []))) ⊛ some (λ (ws : Fins few second-ended.signature.params second-ended.kept (g, tt)).
    ‵ (lasts_of few second-ended.signature.params second-ended.kept (g, tt) ws) ⊛ raw (fact 𝓤 (Quiet out)))))) (id⊢ 𝓤 _) $ await ! tt $ pick ! (λ out. split ! $ move ! (1 ∷ []) $ pick ! (λ ws. split ! $ drop ! $ heard ! (Quiet out) (λ quiet.
    split ! $ move ! (1 ∷ []) $ handle_tells (as_value Back Back-laws) ! out (v'' ∷ []) (λ v₃ is₃ good₃. lands_as ! (ap only is₃) refl good₃ $
    -- [the answer; three tokens; one token; the rest; what is said of the name; what the lender keeps; the way back]
    move ! (1 ∷ []) $ split3 ! $ move ! (2 ∷ []) $ split ! $ move ! (1 ∷ []) $ drop ! $
    move ! (0 ∷ 4 ∷ []) $ use2 𝓛 (‵ (flft α (left r))) (𝓛.lfts.lft_join α (left r)) $ move ! (1 ∷ 2 ∷ []) $ use2 𝓛 (‵ (flft α (right r))) (𝓛.lfts.lft_join α (right r)) $ move ! (1 ∷ 0 ∷ []) $ use2 𝓛 (‵ (flft α r)) (𝓛.lfts.lft_join α r) $
    -- [α's token; the answer; the rest; what is said of the name; what the lender keeps; the way back]
    move ! (0 ∷ 5 ∷ []) $ use2 𝓛 (‵ (flft (i ∷ []) full_share) ⊛ ‵ (flft κT qT) ⊛ ‵ (flft κA qA) ⊛ ‵ (flft κV qV)) (apply∗ 𝓤 (𝓛.A.lft α r) (lfts 𝓛 ts)) $ split3 ! $
    lft_end ! tt $ use1 𝓛 (‵ (fdead α)) (𝓛.lfts.dead-incl α (i ∷ []) (meet_⊑_left (i ∷ []) (κT ++ (κA ++ κV)))) $
    -- [α is over; T's token; A's and V's; the answer; the rest; what is said of the name; what the lender keeps]
    move ! (0 ∷ 6 ∷ 5 ∷ []) $ use3 𝓛 (later (‵ (Ref κ (at_last s w)) ⊛ ‵ (flft κ q))) (comes_back 𝓛 S (named 0) κ α q s.ghost_name b o δ s.now w) $ await ! tt $ split ! $
    -- [the table; κ's token; T's token; A's and V's; the answer; the rest]
    move ! (3 ∷ []) $ split ! $ move ! (1 ∷ 6 ∷ []) $ join ! $ move ! (1 ∷ 0 ∷ []) $ join ! $ move ! (3 ∷ 0 ∷ []) $ join ! $ move ! (2 ∷ 0 ∷ []) $ join ! $
    -- [the tokens; the table; the answer]
    move ! (1 ∷ []) $ rewrite ! 0 (λ (us : List Val). ‵ ((MutRef (named 0) κ S).own_val (at_last s w) us)) (sym are.0.0) refl $
    nothing ! $ nothing ! $ fjoin ! $ nothing ! $ fjoin ! $ nothing ! $ fjoin ! $ nothing ! $ fjoin ! $ move ! (1 ∷ 0 ∷ []) $ fjoin ! $
    let Ends : Type 0 = LeavesUnshown t.target l.same l.hash_of answers rehash s.now hash value out w in use0 𝓛 (raw (fact 𝓤 Ends)) (fact_i 𝓤 Ends (emp 𝓤) (g, d.2, quiet)) $
    returns ! (look_at ! 0 refl) $ free_all ! refl $ keep ! (2 ∷ 1 ∷ 3 ∷ 0 ∷ []) $
    by ! (leaves 𝓛 En hs cl z v₃ out (w, (tt, (tt, (tt, (tt, tt))))) (tt, (tt, (tt, (tt, (tt, tt))))))))))))))))))))))))))))))))
