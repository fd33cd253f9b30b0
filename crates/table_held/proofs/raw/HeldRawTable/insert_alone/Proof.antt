-- `place_by` is called at the reference's own lifetime, so what it says of the table holds from then on, and the table is shown
-- by `&`. Assumes `Logic`.
use Rattle.std.proofs.Common.{ℕ, List, [], ◌∷◌, ◌++◌, refl, ap, w64}
use Rattle.std.specs.Prelude.{IfOk, IsSome}
use Rattle.std.specs.Fn.{FnReturnsAt, FnReturnsAtPair}
use Rattle.std.proofs.raw_atomic.Walks.{proved_at, leaves}
use Rattle.std.proofs.alloc.Calls.{handle_tells}
use Rattle.table_cell.proofs.Walks.{begins}
use Rattle.table_held.specs.Held.{Inserted, InsertLeaves, InsertShows, ResultShows}
use Rattle.table_held.specs.Rests.{RestsAs}
use Rattle.table_held.specs.Table.{held, entry_at}
use Rattle.table_held.specs.contracts.place.Place as place
use Rattle.table_held.specs.contracts.raw.HeldRawTable as table
use Rattle.table_held.specs.contracts.raw.HeldRawTable.insert_alone as f
use Rattle.table_held.specs.contracts.raw.HeldRawTable.place_by as places
use Rattle.table_held.specs.contracts.raw.HeldRawTable.show_placed as shows
use Rattle.table_held.proofs.Placed.{placed_lives}
use Rattle.table_held.proofs.Rests.{rests, settled, Settled}
use Rattle.table_held.proofs.Told.{as_value, Told, told_laws, Shown, shown_laws}
use Rattle.table_held.proofs.place.Place.TheLaws as place-laws
use Rattle.table_held.proofs.raw.HeldRawTable.TheLaws as table-laws
use Rattle.table_held.proofs.raw.HeldRawTable.place_by.Met as places-thm
use Rattle.table_held.proofs.raw.HeldRawTable.show_placed.Met as shows-thm
use Rattle.table_held.proofs.raw.HeldRawTable.insert_alone.Statement.{statement}
use Rattle.table_held.proofs.raw.HeldRawTable.insert_alone.Code as code
use base.Fml.{Lft, Share, ftrue, flft, fres}
use base.Logic.{emp, id⊢}
use contract.BorrowLft.{◌⊑◌, ⊑_trans}
use contract.Lifetimes.{Lfts}
use contract.Monad.{fact, fact_i}
use contract.Running.{tables, tables_of}
use denote.Builtin.{RefMutOf, u64}
use denote.Exit.{yes, no}
use denote.Param.{param, copied, bounded}
use denote.Param.Laws.{param_laws, copied_laws}
use denote.RattleType.{RattleType, owns}
use denote.Ref.{Bor, MutRef, NamedLft}
use denote.Signature.{types_at, plain}
use denote.Steps.{nothing, only, heard}
use denote.Triple.Call.{calls_at}
use denote.Triple.End.{Fins, lasts_of}
use denote.Triple.Entry.{Args}
use denote.Triple.Spec.{triple_of}
use denote.Triple.Walked.{Stays, stay_dropped, Goes-spent_ref, Goes-dropped}
use mir.MapTy.{inst_fn}
use mir.Syntax.{named, a_type, dcons, dnil}
use mir.Val.{Val, vptr, vint}
use sound.WpLaws.{fm_of}
use types.ByLocal.{alloc_all, pass_all, free_all, look_at, get, through, sets, lands_as}
use types.Kit.{‵, raw, ◌⊛◌, some, later, ◌$◌, ◌∵◌, !, qed, by, move, keep, drop, split, split3, join, fsplit, fsplit3, fjoin, pick, use0, use1, use3, await, rewrite}
use types.Run.{stop, of_opd, no_more, and_then, returns, addr}

pub insert_alone_spec : {M : Type 1} → statement M
unfolding tables_of
insert_alone_spec 𝓤 𝓛 𝓜 𝓡 wired T A V L E H LT LA LV LL LE LH CA t td a ad c cd xd l ld e ed em eo h hd hm ho ex hx t_met a_met c_met x_met l_met e_met em_met eo_met h_met hm_met ho_met ex_met hx_met =
    let 𝓣 = tables 𝓤 𝓛.H 𝓜 𝓡 𝓡.env in let fm = fm_of 𝓤 𝓛.H 𝓛.laws (tables_of 𝓤 𝓛.H 𝓜 𝓣) in
    let En = f.ended T A V L E H t td a ad c cd xd l ld e ed em eo h hd hm ho ex hx in let cl = f.clauses T A V L E H t td a ad c cd xd l ld e ed em eo h hd hm ho ex hx 𝓛 𝓜.mem 𝓡.returns in
    let R : RattleType = param 0 T in let R-laws = param_laws 0 T LT in let U : RattleType = param 2 V in let U-laws = param_laws 2 V LV in
    let Eq : RattleType = param 4 E in let Eq-laws = param_laws 4 E LE in let Hs : RattleType = param 5 H in let Hs-laws = param_laws 5 H LH in
    let S : RattleType = table.the_row R (copied 1 A) U t a in let S-laws = table-laws.the_row_laws R (copied 1 A) U t a R-laws (copied_laws 1 A LA) U-laws in
    let P : RattleType = Told T LT place.the_row place-laws.the_row_laws in let P-laws = told_laws T LT place.the_row place-laws.the_row_laws in
    let types = bounded (a_type ∷ a_type ∷ a_type ∷ a_type ∷ a_type ∷ a_type ∷ []) (T, (A, (V, (L, (E, (H, tt))))))
    (dcons td (dcons ad (dcons cd (dcons xd (dcons ld (dcons ed (dcons em (dcons eo (dcons hd (dcons hm (dcons ho (dcons ex (dcons hx dnil))))))))))))) in
    let fn = inst_fn types code.function in
    let ref = RefMutOf (0 ∷ []) tt (plain (λ _. S)) (λ _. tt) in
    let hs : Stays En.signature.params En.kept = (stay_dropped ref no, (stay_dropped (plain (λ _. u64)) yes, (stay_dropped (plain (λ _. R)) no, (stay_dropped (plain (λ _. Eq)) no, (stay_dropped (plain (λ _. Hs)) no, tt))))) in
    let first = triple_of 𝓛 (places.signature T A V L E H t td a ad c cd xd l ld e ed em eo h hd hm ho ex hx) (places.spec T A V L E H t td a ad c cd xd l ld e ed em eo h hd hm ho ex hx 𝓛 𝓜.mem 𝓡.returns) in
    let first-ended = places.ended T A V L E H t td a ad c cd xd l ld e ed em eo h hd hm ho ex hx in
    let second = triple_of 𝓛 (shows.signature T A V t td a ad c cd xd) (shows.spec T A V t td a ad c cd xd 𝓛 𝓜.mem 𝓡.returns) in
    let second-ended = shows.ended T A V t td a ad c cd xd in
    proved_at 𝓛 En hs cl 𝓜 𝓡
    (Goes-spent_ref 𝓛 7 (0 ∷ []) tt (plain (λ _. S)), (Goes-dropped 𝓛 7 (plain (λ _. u64)) yes (λ κs x w. refl), (Goes-dropped 𝓛 7 (plain (λ _. R)) no (λ κs x w. refl), (Goes-dropped 𝓛 7 (plain (λ _. Eq)) no (λ κs x w. refl), (Goes-dropped 𝓛 7 (plain (λ _. Hs)) no (λ κs x w. refl), tt)))))
    (f.Key.name types) fn (code.unfolded 𝓤 𝓛.H 𝓜 𝓡 wired (T, (A, (V, (L, (E, (H, tt)))))) td ad cd xd ld ed em eo hd hm ho ex hx) (λ z are.
    let κs = z.0.0 in let qs = z.0.1 in let κ : Lft = κs.0 in let q : Share = qs.0 in
    let κT = κs.1.0 in let κA = κs.1.1.0 in let κV = κs.1.1.1.0 in let κL = κs.1.1.1.1.0 in let κE = κs.1.1.1.1.1.0 in let κH = κs.1.1.1.1.1.1.0 in
    let qT = qs.1.0 in let qA = qs.1.1.0 in let qV = qs.1.1.1.0 in let qL = qs.1.1.1.1.0 in let qE = qs.1.1.1.1.1.0 in let qH = qs.1.1.1.1.1.1.0 in
    let rest = ‵ (flft κL qL) ⊛ ‵ (flft κE qE) ⊛ ‵ (flft κH qH) ⊛ ‵ ftrue in
    let alive = ‵ (flft κ q) ⊛ ‵ (flft κT qT) ⊛ ‵ (flft κA qA) ⊛ ‵ (flft κV qV) ⊛ rest in
    let s = z.0.3.0 in let hash : ℕ = z.0.3.1.0 in let value = z.0.3.1.1.0 in let eq = z.0.3.1.1.1.0 in let hash_fn = z.0.3.1.1.1.1.0 in let b = s.ref_ptr.0 in let o = s.ref_ptr.1 in
    let p : Val = vptr b o in let n : Val = vint w64 hash in let Self = MutRef (named 0) κ S in
    let Asks : Type 0 = f.E-IsAlwaysCallable T A V L E H t td a ad c cd xd l ld e ed em eo h hd hm ho ex hx eq in
    let Asks' : Type 0 = f.H-IsAlwaysCallable T A V L E H t td a ad c cd xd l ld e ed em eo h hd hm ho ex hx hash_fn in
    let answers = FnReturnsAtPair e eq in let rehash = FnReturnsAt h hash_fn in
    qed 𝓛 ((alive ⊛ ‵ (owns (types_at En.signature.params κs) z.0.3 z.0.4)) ∷ raw (fact 𝓤 (κT ⊑ T.lives)) ∷ raw (fact 𝓤 (κA ⊑ A.lives)) ∷ raw (fact 𝓤 (κV ⊑ V.lives)) ∷ raw (fact 𝓤 (κL ⊑ L.lives)) ∷ raw (fact 𝓤 (κE ⊑ E.lives))
    ∷ raw (fact 𝓤 (κH ⊑ H.lives)) ∷ raw (fact 𝓤 Asks) ∷ raw (fact 𝓤 Asks') ∷ []) ∵ move ! (1 ∷ 2 ∷ 3 ∷ 4 ∷ 5 ∷ 6 ∷ 7 ∷ 8 ∷ []) $
    heard ! (κT ⊑ T.lives) (λ inT. heard ! (κA ⊑ A.lives) (λ inA. heard ! (κV ⊑ V.lives) (λ inV. heard ! (κL ⊑ L.lives) (λ inL. heard ! (κE ⊑ E.lives) (λ inE. heard ! (κH ⊑ H.lives) (λ inH. heard ! Asks (λ asks. heard ! Asks' (λ asks'.
    -- [the tokens; what is owned]
    split ! $ move ! (1 ∷ []) $ fsplit3 ! $ move ! (2 ∷ []) $ fsplit3 ! $ move ! (2 ∷ []) $ fsplit ! $
    -- [hash_fn; nothing; the value; eq; self; the hash; the tokens]
    handle_tells (as_value Hs Hs-laws) ! hash_fn z.0.4.1.1.1.1.0 (λ u₃ is₃ good₃. move ! (3 ∷ []) $ handle_tells (as_value Eq Eq-laws) ! eq z.0.4.1.1.1.0 (λ u₂ is₂ good₂. move ! (3 ∷ []) $ handle_tells (as_value R R-laws) ! value z.0.4.1.1.0 (λ u₁ is₁ good₁.
    -- [the value; eq; hash_fn; nothing; self; the hash; the tokens]
    move ! (4 ∷ []) $ rewrite ! 0 (λ (us : List Val). ‵ (Self.own_val s us)) are.0.0 refl $ move ! (5 ∷ []) $ rewrite ! 0 (λ (us : List Val). ‵ (u64.own_val hash us)) are.1.0.0 refl $
    -- [the hash; self; the value; eq; hash_fn; nothing; the tokens]
    begins ! fn (λ i. are.0.0 i ++ (are.1.0.0 i ++ (is₁ i ++ (is₂ i ++ (is₃ i ++ []))))) $ alloc_all ! (λ m. pass_all ! refl ((tt, tt), ((tt, record { fits = are.1.0.1 }), (good₁, (good₂, (good₃, tt))))) $
    sets ! (addr ! (through ! refl (stop !))) refl (tt, tt) $ sets ! (of_opd ! (get ! refl)) refl good₁ $ sets ! (of_opd ! (get ! refl)) refl good₂ $ sets ! (of_opd ! (get ! refl)) refl good₃ $
    move ! (4 ∷ 5 ∷ []) $ fjoin ! $ move ! (4 ∷ 0 ∷ []) $ fjoin ! $ move ! (3 ∷ 0 ∷ []) $ fjoin ! $ move ! (1 ∷ 0 ∷ []) $ fjoin ! $ move ! (1 ∷ 0 ∷ []) $ fjoin ! $ move ! (1 ∷ 0 ∷ []) $ join ! $
    use0 𝓛 (raw (fact 𝓤 Asks')) (fact_i 𝓤 Asks' (emp 𝓤) asks') $ use0 𝓛 (raw (fact 𝓤 Asks)) (fact_i 𝓤 Asks (emp 𝓤) asks) $ join ! $ use0 𝓛 (raw (fact 𝓤 (κH ⊑ H.lives))) (fact_i 𝓤 (κH ⊑ H.lives) (emp 𝓤) inH) $ join ! $
    use0 𝓛 (raw (fact 𝓤 (κE ⊑ E.lives))) (fact_i 𝓤 (κE ⊑ E.lives) (emp 𝓤) inE) $ join ! $ use0 𝓛 (raw (fact 𝓤 (κL ⊑ L.lives))) (fact_i 𝓤 (κL ⊑ L.lives) (emp 𝓤) inL) $ join ! $ use0 𝓛 (raw (fact 𝓤 (κV ⊑ V.lives))) (fact_i 𝓤 (κV ⊑ V.lives) (emp 𝓤) inV) $ join ! $
    use0 𝓛 (raw (fact 𝓤 (κA ⊑ A.lives))) (fact_i 𝓤 (κA ⊑ A.lives) (emp 𝓤) inA) $ join ! $ use0 𝓛 (raw (fact 𝓤 (κT ⊑ T.lives))) (fact_i 𝓤 (κT ⊑ T.lives) (emp 𝓤) inT) $ join ! $ move ! (1 ∷ 0 ∷ []) $ join ! $
    let given : Args first-ended.signature κs = (s, (hash, (value, (eq, (hash_fn, tt))))) in
    let y : first.Ghost = ((κs, qs, (z.0.2.0, (z.0.2.1.0, tt)), given, (p ∷ [], (n ∷ [], (u₁ ∷ [], (u₂ ∷ [], (u₃ ∷ [], tt)))))), tt) in
    use1 𝓛 (raw (first.pre y)) (id⊢ 𝓤 _) $
    calls_at ! fm first (places-thm.met 𝓤 𝓛 𝓜 𝓡 (code.calls-table_held::raw::HeldRawTable::place_by 𝓡.env wired) T A V L E H LT LA LV LL LE LH CA t td a ad c cd xd l ld e ed em eo h hd hm ho ex hx t_met a_met c_met x_met l_met e_met em_met eo_met h_met hm_met ho_met ex_met hx_met) y
    (and_then ! (get ! refl) (and_then ! (get ! refl) (and_then ! (get ! refl) (and_then ! (get ! refl) (and_then ! (get ! refl) (no_more !)))))) (λ v.
    use1 𝓛 (later (some (λ (r : P.Denot). (alive ⊛ ‵ (P.own_val r (v ∷ []))) ⊛ some (λ (ws : Fins κs first-ended.signature.params first-ended.kept given).
    ‵ (lasts_of κs first-ended.signature.params first-ended.kept given ws) ⊛ raw (fact 𝓤 (Inserted t.target l.same l.hash_of answers rehash s.now hash value r ws.0)))))) (id⊢ 𝓤 _) $ await ! tt $ pick ! (λ r. split ! $ move ! (1 ∷ []) $ pick ! (λ ws.
    let w : S.Denot = ws.0 in let Did : Type 0 = Inserted t.target l.same l.hash_of answers rehash s.now hash value r w in let Lives : Type 0 = IfOk r (λ x. IsSome (entry_at w x.0)) in
    split ! $ move ! (1 ∷ []) $ heard ! Did (λ did.
    -- [the last values; the tokens and the answer]
    fsplit ! $ move ! (1 ∷ []) $ drop ! $ fsplit ! $ move ! (2 ∷ []) $ split ! $ move ! (1 ∷ []) $ handle_tells (as_value P P-laws) ! r (v ∷ []) (λ v' is' good'. lands_as ! (ap only is') refl good' $
    -- [the answer; the tokens; what is said of the name; the borrow]
    move ! (1 ∷ []) $ split ! $ move ! (3 ∷ 4 ∷ 0 ∷ []) $
    let lives = table-laws.the_within R (copied 1 A) U t a κ (⊑_trans κ κT T.lives z.0.2.0 inT) (⊑_trans κ κA A.lives z.0.2.1.0 inA) (⊑_trans κ κV V.lives z.0.2.1.1.0 inV) in
    use3 𝓛 (later (‵ (Settled 𝓛 S s w S-laws κ q lives) ⊛ ‵ (fres s.ghost_name (S.coded.code w)) ⊛ ‵ (flft κ q))) (settled 𝓛 S s w S-laws κ q lives) $ await ! tt $ split3 ! $
    -- [the `&`; what is said; κ's token; the other tokens; the answer]
    sets ! (addr ! (through ! refl (stop !))) refl (tt, tt) $ sets ! (of_opd ! (get ! refl)) refl good' $
    move ! (3 ∷ []) $ split3 ! $ move ! (2 ∷ []) $ split ! $
    -- [V's token; the rest; T's token; A's token; the `&`; what is said; κ's token; the answer]
    nothing ! $ move ! (1 ∷ 0 ∷ []) $ join ! $ move ! (3 ∷ 0 ∷ []) $ join ! $ move ! (2 ∷ 0 ∷ []) $ join ! $ move ! (4 ∷ 0 ∷ []) $ join ! $
    -- [the tokens; the rest; the `&`; what is said; the answer]
    nothing ! $ move ! (5 ∷ 0 ∷ []) $ fjoin ! $ move ! (3 ∷ 0 ∷ []) $ fjoin ! $ move ! (1 ∷ 0 ∷ []) $ join ! $
    use0 𝓛 (raw (fact 𝓤 Lives)) (fact_i 𝓤 Lives (emp 𝓤) (placed_lives t.target (answers (t.target value)) (entry_at w) _ _ value r did.says.keeps)) $
    use0 𝓛 (raw (fact 𝓤 (κV ⊑ V.lives))) (fact_i 𝓤 (κV ⊑ V.lives) (emp 𝓤) inV) $ join ! $ use0 𝓛 (raw (fact 𝓤 (κA ⊑ A.lives))) (fact_i 𝓤 (κA ⊑ A.lives) (emp 𝓤) inA) $ join ! $
    use0 𝓛 (raw (fact 𝓤 (κT ⊑ T.lives))) (fact_i 𝓤 (κT ⊑ T.lives) (emp 𝓤) inT) $ join ! $ move ! (1 ∷ 0 ∷ []) $ join ! $
    let me : Bor S.Denot = record { ref_ptr = s.ref_ptr; now = w } in let few : Lfts 4 = (κ, (κT, (κA, (κV, tt)))) in
    let y' : second.Ghost = ((few, (q, (qT, (qA, (qV, tt)))), z.0.2, (me, (r, tt)), (p ∷ [], (v' ∷ [], tt))), tt) in
    use1 𝓛 (raw (second.pre y')) (id⊢ 𝓤 _) $
    calls_at ! fm second (shows-thm.met 𝓤 𝓛 𝓜 𝓡 (code.calls-table_held::raw::HeldRawTable::show_placed 𝓡.env wired) T A V LT LA LV CA t td a ad c cd xd t_met a_met c_met x_met) y' (and_then ! (get ! refl) (and_then ! (get ! refl) (no_more !))) (λ v''.
    let ℓ : NamedLft = record { mir = named 0; lft = κ } in let G : RattleType = Shown T LT ℓ 2 V LV in
    let Shows : G.Denot → Type 0 = λ g. ResultShows t.target held r g w in
    use1 𝓛 (later (some (λ (g : G.Denot). ((‵ (flft κ q) ⊛ ‵ (flft κT qT) ⊛ ‵ (flft κA qA) ⊛ ‵ (flft κV qV) ⊛ ‵ ftrue) ⊛ ‵ (G.own_val g (v'' ∷ []))) ⊛ some (λ (ws : Fins few second-ended.signature.params second-ended.kept (me, (r, tt))).
    ‵ (lasts_of few second-ended.signature.params second-ended.kept (me, (r, tt)) ws) ⊛ raw (fact 𝓤 (Shows g)))))) (id⊢ 𝓤 _) $ await ! tt $ pick ! (λ g. split ! $ move ! (1 ∷ []) $ pick ! (λ ws. split ! $ drop ! $ heard ! (Shows g) (λ shown.
    -- [the tokens and the answer; the rest; what is said]
    split ! $ move ! (1 ∷ []) $ handle_tells (as_value G (shown_laws T LT ℓ 2 V LV)) ! g (v'' ∷ []) (λ v₃ is₃ good₃. lands_as ! (ap only is₃) refl good₃ $
    let Leaves : S.Denot → Type 0 = λ new. InsertLeaves t.target l.same l.hash_of answers rehash s.now hash value g new in let Seen : Type 0 = InsertShows t.target l.same l.hash_of answers rehash s.now hash value g in
    move ! (3 ∷ []) $ use1 𝓛 (‵ (RestsAs S s Leaves)) (rests 𝓛 S s w Leaves (r, did, shown)) $
    -- [what it rests as; the answer; the tokens; the rest]
    use0 𝓛 (raw (fact 𝓤 Seen)) (fact_i 𝓤 Seen (emp 𝓤) (w, (r, did, shown))) $ move ! (1 ∷ 0 ∷ []) $ join ! $
    move ! (2 ∷ []) $ split3 ! $ move ! (2 ∷ []) $ split3 ! $ move ! (2 ∷ []) $ drop ! $
    -- [A's token; V's token; κ's token; T's token; what it rests as and shows; the answer; the rest]
    move ! (1 ∷ 6 ∷ []) $ join ! $ move ! (1 ∷ 0 ∷ []) $ join ! $ move ! (2 ∷ 0 ∷ []) $ join ! $ move ! (1 ∷ 0 ∷ []) $ join ! $
    -- [the tokens; what it rests as and shows; the answer]
    nothing ! $ nothing ! $ fjoin ! $ nothing ! $ fjoin ! $ nothing ! $ fjoin ! $ nothing ! $ fjoin ! $ nothing ! $ fjoin ! $
    returns ! (look_at ! 0 refl) $ free_all ! refl $ keep ! (1 ∷ 0 ∷ 3 ∷ 2 ∷ []) $
    by ! (leaves 𝓛 En hs cl z v₃ g (tt, (tt, (tt, (tt, (tt, tt))))) (tt, (tt, (tt, (tt, (tt, tt)))))))))))))))))))))))))))))
