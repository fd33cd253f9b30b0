-- The set's loan is handed on to its lawful table. `place` is called at the reference's own lifetime, so what it says of the table
-- holds from then on, the set ends as the entries of that table, and the table is shown by `&`. Assumes `Logic`.
use Rattle.std.proofs.Common.{◌+◌, List, [], ◌∷◌, ◌++◌, refl, ap}
use Rattle.std.specs.Prelude.{IfOk, IsSome}
use Rattle.std.proofs.raw_atomic.Walks.{proved_at, leaves}
use Rattle.std.proofs.alloc.Calls.{handle_tells}
use Rattle.table_cell.proofs.Walks.{begins}
use Rattle.table_held.specs.Rests.{RestsAs}
use Rattle.table_held.specs.Table.{IsLawful, entries, entry_at}
use Rattle.table_held.specs.contracts.place.Place as place
use Rattle.table_held.proofs.Rests.{rests, settled, Settled}
use Rattle.table_held.proofs.Told.{as_value, Told, told_laws}
use Rattle.table_held.proofs.place.Place.TheLaws as place-laws
use Rattle.table_sets.specs.Placing.{PlacesByLaw, ShowsByLaw}
use Rattle.table_sets.specs.Sets.{InsertLeaves, InsertShows}
use Rattle.table_sets.specs.contracts.inserted.Shown as shown
use Rattle.table_sets.specs.contracts.lawful.LawfulTable.place as places
use Rattle.table_sets.specs.contracts.lawful.LawfulTable.show as shows
use Rattle.table_sets.specs.contracts.set.HeldSet.insert_and_show as f
use Rattle.table_sets.proofs.Left.{lives_by_law, shows_by_law, leaves_by_law}
use Rattle.table_sets.proofs.Opened.{S as HeldSet, W as LawfulTable, In, at, hands}
use Rattle.table_sets.proofs.inserted.Shown.TheLaws as shown-laws
use Rattle.table_sets.proofs.lawful.LawfulTable.TheLaws as lawful-laws
use Rattle.table_sets.proofs.lawful.LawfulTable.place.Met as places-thm
use Rattle.table_sets.proofs.lawful.LawfulTable.show.Met as shows-thm
use Rattle.table_sets.proofs.set.HeldSet.insert_and_show.Statement.{statement}
use Rattle.table_sets.proofs.set.HeldSet.insert_and_show.Code as code
use base.Fml.{Lft, Share, ftrue, flft, fres}
use base.Logic.{emp, id⊢}
use contract.BorrowLft.{◌⊑◌, ⊑_trans}
use contract.Monad.{fact, fact_i}
use contract.Running.{tables, tables_of}
use denote.Builtin.{RefMutOf}
use denote.Exit.{no}
use denote.Follow.{follows, followed}
use denote.Param.{param, copied, bounded}
use denote.Param.Laws.{param_laws, copied_laws, of_field}
use denote.Param.Shared.{copy_shared}
use denote.RattleType.{RattleType, owns}
use denote.Ref.{Bor, MutBor, MutRef, NamedLft}
use denote.Signature.{types_at, plain}
use denote.Steps.{nothing, only, heard}
use denote.Struct.Field.{shr_ref_field}
use denote.Struct.Laws.{shr_ref_laws, shr_ref_copy}
use denote.Triple.Call.{calls_at}
use denote.Triple.End.{Fins, lasts_of}
use denote.Triple.Entry.{Args}
use denote.Triple.Spec.{triple_of}
use denote.Triple.Walked.{Stays, stay_dropped, Goes-spent_ref, Goes-dropped}
use mir.MapTy.{inst_fn}
use mir.Syntax.{named, a_type, dcons, dnil}
use mir.Val.{Val, vptr}
use sound.WpLaws.{fm_of}
use types.ByLocal.{alloc_all, pass_all, free_all, look_at, get, through, sets, lands_as}
use types.Kit.{‵, raw, ◌⊛◌, some, later, ◌$◌, ◌∵◌, !, qed, by, move, keep, drop, split, split3, join, fsplit, fsplit3, fjoin, pick, use0, use1, use2, use3, await, rewrite}
use types.Run.{stop, fld, of_opd, no_more, and_then, returns, addr}

pub insert_and_show_spec : {M : Type 1} → statement M
unfolding tables_of
insert_and_show_spec 𝓤 𝓛 𝓜 𝓡 wired T L A V LT LL LA LV CA t td k kd l ld a ad c cd xd t_met k_met l_met a_met c_met x_met =
    let 𝓣 = tables 𝓤 𝓛.H 𝓜 𝓡 𝓡.env in let fm = fm_of 𝓤 𝓛.H 𝓛.laws (tables_of 𝓤 𝓛.H 𝓜 𝓣) in
    let En = f.ended T L A V t td k kd l ld a ad c cd xd in let cl = f.clauses T L A V t td k kd l ld a ad c cd xd 𝓛 𝓜.mem 𝓡.returns in
    let R : RattleType = param 0 T in let R-laws = param_laws 0 T LT in let N : RattleType = param 1 L in let N-laws = param_laws 1 L LL in
    let C : RattleType = copied 2 A in let C-laws = copied_laws 2 A LA in let U : RattleType = param 3 V in let U-laws = param_laws 3 V LV in
    let S : RattleType = HeldSet R N C U t l a in let W : RattleType = LawfulTable R N C U t l a in
    let W-laws = lawful-laws.the_row_laws R N C U t l a R-laws N-laws C-laws U-laws in
    let P : RattleType = Told T LT place.the_row place-laws.the_row_laws in let P-laws = told_laws T LT place.the_row place-laws.the_row_laws in
    let types = bounded (a_type ∷ a_type ∷ a_type ∷ a_type ∷ []) (T, (L, (A, (V, tt)))) (dcons td (dcons kd (dcons ld (dcons ad (dcons cd (dcons xd dnil)))))) in
    let fn = inst_fn types code.function in
    let ref = RefMutOf (0 ∷ []) tt (plain (λ _. S)) (λ _. tt) in
    let hs : Stays En.signature.params En.kept = (stay_dropped ref no, (stay_dropped (plain (λ _. R)) no, tt)) in
    let first = triple_of 𝓛 (places.signature T L A V t td k kd l ld a ad c cd xd) (places.spec T L A V t td k kd l ld a ad c cd xd 𝓛 𝓜.mem 𝓡.returns) in
    let first-ended = places.ended T L A V t td k kd l ld a ad c cd xd in
    let second = triple_of 𝓛 (shows.signature T L A V t td k kd l ld a ad c cd xd) (shows.spec T L A V t td k kd l ld a ad c cd xd 𝓛 𝓜.mem 𝓡.returns) in
    let second-ended = shows.ended T L A V t td k kd l ld a ad c cd xd in
    proved_at 𝓛 En hs cl 𝓜 𝓡 (Goes-spent_ref 𝓛 5 (0 ∷ []) tt (plain (λ _. S)), (Goes-dropped 𝓛 5 (plain (λ _. R)) no (λ κs x w. refl), tt))
    (f.Key.name types) fn (code.unfolded 𝓤 𝓛.H 𝓜 𝓡 wired (T, (L, (A, (V, tt)))) td kd ld ad cd xd) (λ z are.
    let κs = z.0.0 in let qs = z.0.1 in let κ : Lft = κs.0 in let q : Share = qs.0 in
    let κT = κs.1.0 in let κL = κs.1.1.0 in let κA = κs.1.1.1.0 in let κV = κs.1.1.1.1.0 in
    let rest = ‵ (flft κT qs.1.0) ⊛ ‵ (flft κL qs.1.1.0) ⊛ ‵ (flft κA qs.1.1.1.0) ⊛ ‵ (flft κV qs.1.1.1.1.0) ⊛ ‵ ftrue in let alive = ‵ (flft κ q) ⊛ rest in
    let s : MutBor S.Denot = z.0.3.0 in let value = z.0.3.1.0 in let b = s.ref_ptr.0 in let o = s.ref_ptr.1 in
    let p : Val = vptr b o in let p' : Val = vptr b (o + at R N C U t l a) in let Self = MutRef (named 0) κ S in
    qed 𝓛 ((alive ⊛ ‵ (owns (types_at En.signature.params κs) z.0.3 z.0.4)) ∷ raw (fact 𝓤 (κT ⊑ T.lives)) ∷ raw (fact 𝓤 (κL ⊑ L.lives)) ∷ raw (fact 𝓤 (κA ⊑ A.lives)) ∷ raw (fact 𝓤 (κV ⊑ V.lives)) ∷ raw (emp 𝓤) ∷ []) ∵ move ! (1 ∷ 2 ∷ 3 ∷ 4 ∷ []) $
    heard ! (κT ⊑ T.lives) (λ inT. heard ! (κL ⊑ L.lives) (λ inL. heard ! (κA ⊑ A.lives) (λ inA. heard ! (κV ⊑ V.lives) (λ inV.
    split ! $ move ! (1 ∷ []) $ fsplit3 ! $ move ! (1 ∷ []) $ handle_tells (as_value R R-laws) ! value z.0.4.1.0 (λ u is good.
    -- [the value; self; nothing; the tokens]
    move ! (1 ∷ []) $ rewrite ! 0 (λ (us : List Val). ‵ (Self.own_val s us)) are.0.0 refl $
    begins ! fn (λ i. are.0.0 i ++ (is i ++ [])) $ alloc_all ! (λ m. pass_all ! refl ((tt, tt), (good, tt)) $
    sets ! (addr ! (through ! refl (fld ! refl (stop !)))) refl (tt, tt) $ sets ! (of_opd ! (get ! refl)) refl good $
    -- [self; the value; nothing; the tokens]
    move ! (3 ∷ []) $ split ! $ move ! (2 ∷ []) $ fsplit3 ! $ move ! (1 ∷ 2 ∷ 3 ∷ []) $
    use3 𝓛 (later (some (λ (h : In R N C U t l a s.now). ‵ ((MutRef (named 0) κ W).own_val (record { ref_ptr = (b, o + at R N C U t l a); ghost_name = h.1; now = h.0.0 }) (p' ∷ [])) ⊛ ‵ (flft κ q) ⊛ ‵ (follows S W s.ghost_name h.1 entries))))
    (hands R N C U t l a R-laws N-laws C-laws U-laws 𝓛 κ q s.ghost_name b o s.now) $ await ! tt $ pick ! (λ h. split3 ! $
    -- [the table; κ's token; what follows; an equation; the other tokens; the value; nothing]
    let me : MutBor W.Denot = record { ref_ptr = (b, o + at R N C U t l a); ghost_name = h.1; now = h.0.0 } in
    move ! (5 ∷ 6 ∷ []) $ fjoin ! $ move ! (1 ∷ 0 ∷ []) $ fjoin ! $ move ! (1 ∷ 4 ∷ []) $ join ! $ join ! $
    use0 𝓛 (raw (emp 𝓤)) (id⊢ 𝓤 (emp 𝓤)) $ use0 𝓛 (raw (fact 𝓤 (κV ⊑ V.lives))) (fact_i 𝓤 (κV ⊑ V.lives) (emp 𝓤) inV) $ join ! $ use0 𝓛 (raw (fact 𝓤 (κA ⊑ A.lives))) (fact_i 𝓤 (κA ⊑ A.lives) (emp 𝓤) inA) $ join ! $
    use0 𝓛 (raw (fact 𝓤 (κL ⊑ L.lives))) (fact_i 𝓤 (κL ⊑ L.lives) (emp 𝓤) inL) $ join ! $ use0 𝓛 (raw (fact 𝓤 (κT ⊑ T.lives))) (fact_i 𝓤 (κT ⊑ T.lives) (emp 𝓤) inT) $ join ! $ move ! (1 ∷ 0 ∷ []) $ join ! $
    let given : Args first-ended.signature κs = (me, (value, tt)) in
    let y : first.Ghost = ((κs, qs, (z.0.2.0, (z.0.2.1.0, (z.0.2.1.1.0, tt))), given, (p' ∷ [], (u ∷ [], tt))), tt) in
    use1 𝓛 (raw (first.pre y)) (id⊢ 𝓤 _) $
    calls_at ! fm first (places-thm.met 𝓤 𝓛 𝓜 𝓡 (code.calls-table_sets::lawful::LawfulTable::place 𝓡.env wired) T L A V LT LL LA LV CA t td k kd l ld a ad c cd xd t_met k_met l_met a_met c_met x_met) y
    (and_then ! (get ! refl) (and_then ! (get ! refl) (no_more !))) (λ v.
    use1 𝓛 (later (some (λ (r : P.Denot). (alive ⊛ ‵ (P.own_val r (v ∷ []))) ⊛ some (λ (ws : Fins κs first-ended.signature.params first-ended.kept given).
    ‵ (lasts_of κs first-ended.signature.params first-ended.kept given ws) ⊛ (raw (fact 𝓤 (PlacesByLaw t.target l.same h.0.0 value r ws.0)) ⊛ raw (fact 𝓤 (IsLawful t.target l.same l.hash_of ws.0))))))) (id⊢ 𝓤 _) $ await ! tt $ pick ! (λ r. split ! $ move ! (1 ∷ []) $ pick ! (λ ws.
    let w : W.Denot = ws.0 in let Did : Type 0 = PlacesByLaw t.target l.same h.0.0 value r w in let Lawful : Type 0 = IsLawful t.target l.same l.hash_of w in let Lives : Type 0 = IfOk r (λ x. IsSome (entry_at w x.0)) in
    split ! $ move ! (1 ∷ []) $ split ! $ heard ! Did (λ did. heard ! Lawful (λ lawful.
    -- [the last values; the tokens and the answer; what follows]
    fsplit ! $ move ! (1 ∷ []) $ drop ! $ fsplit ! $ move ! (2 ∷ []) $ split ! $ move ! (1 ∷ []) $ handle_tells (as_value P P-laws) ! r (v ∷ []) (λ v' is' good'. lands_as ! (ap only is') refl good' $
    -- [the answer; the tokens; what is said of the name; the borrow; what follows]
    move ! (1 ∷ []) $ split ! $ move ! (3 ∷ 4 ∷ 0 ∷ []) $
    let lives = lawful-laws.the_within R N C U t l a κ (⊑_trans κ κT T.lives z.0.2.0 inT) (⊑_trans κ κL L.lives z.0.2.1.0 inL) (⊑_trans κ κA A.lives z.0.2.1.1.0 inA) (⊑_trans κ κV V.lives z.0.2.1.1.1.0 inV) in
    use3 𝓛 (later (‵ (Settled 𝓛 W me w W-laws κ q lives) ⊛ ‵ (fres me.ghost_name (W.coded.code w)) ⊛ ‵ (flft κ q))) (settled 𝓛 W me w W-laws κ q lives) $ await ! tt $ split3 ! $
    -- [the `&`; what is said; κ's token; the other tokens; the answer; what follows]
    sets ! (addr ! (through ! refl (fld ! refl (stop !)))) refl (tt, tt) $ sets ! (of_opd ! (get ! refl)) refl good' $
    move ! (5 ∷ 1 ∷ []) $ use2 𝓛 (‵ (fres s.ghost_name (S.coded.code (entries w)))) (followed 𝓛 S W entries s.ghost_name me.ghost_name w) $
    -- [what is said of the set; the `&`; κ's token; the other tokens; the answer]
    nothing ! $ move ! (5 ∷ 0 ∷ []) $ fjoin ! $ move ! (2 ∷ 0 ∷ []) $ fjoin ! $ move ! (2 ∷ 3 ∷ []) $ join ! $ join ! $
    use0 𝓛 (raw (fact 𝓤 Lives)) (fact_i 𝓤 Lives (emp 𝓤) (lives_by_law t.target l.same h.0.0 w value r did)) $
    use0 𝓛 (raw (fact 𝓤 (κV ⊑ V.lives))) (fact_i 𝓤 (κV ⊑ V.lives) (emp 𝓤) inV) $ join ! $ use0 𝓛 (raw (fact 𝓤 (κA ⊑ A.lives))) (fact_i 𝓤 (κA ⊑ A.lives) (emp 𝓤) inA) $ join ! $
    use0 𝓛 (raw (fact 𝓤 (κL ⊑ L.lives))) (fact_i 𝓤 (κL ⊑ L.lives) (emp 𝓤) inL) $ join ! $ use0 𝓛 (raw (fact 𝓤 (κT ⊑ T.lives))) (fact_i 𝓤 (κT ⊑ T.lives) (emp 𝓤) inT) $ join ! $ move ! (1 ∷ 0 ∷ []) $ join ! $
    let seen : Bor W.Denot = record { ref_ptr = me.ref_ptr; now = w } in
    let y' : second.Ghost = ((κs, qs, z.0.2, (seen, (r, tt)), (p' ∷ [], (v' ∷ [], tt))), tt) in
    use1 𝓛 (raw (second.pre y')) (id⊢ 𝓤 _) $
    calls_at ! fm second (shows-thm.met 𝓤 𝓛 𝓜 𝓡 (code.calls-table_sets::lawful::LawfulTable::show 𝓡.env wired) T L A V LT LL LA LV CA t td k kd l ld a ad c cd xd t_met k_met l_met a_met c_met x_met) y' (and_then ! (get ! refl) (and_then ! (get ! refl) (no_more !))) (λ v''.
    let ℓ : NamedLft = record { mir = named 0; lft = κ } in let Ref = shr_ref_field ℓ U tt in let G : RattleType = shown.the_row Ref.row R in
    let G-laws = shown-laws.the_row_laws Ref.row R (of_field Ref (shr_ref_laws ℓ U tt) refl (copy_shared Ref (shr_ref_copy ℓ U tt U-laws.shr_laws))) R-laws in
    let Shows : G.Denot → Type 0 = λ g. ShowsByLaw t.target r w g in
    use1 𝓛 (later (some (λ (g : G.Denot). (alive ⊛ ‵ (G.own_val g (v'' ∷ []))) ⊛ some (λ (ws : Fins κs second-ended.signature.params second-ended.kept (seen, (r, tt))).
    ‵ (lasts_of κs second-ended.signature.params second-ended.kept (seen, (r, tt)) ws) ⊛ raw (fact 𝓤 (Shows g)))))) (id⊢ 𝓤 _) $ await ! tt $ pick ! (λ g. split ! $ move ! (1 ∷ []) $ pick ! (λ ws. split ! $ drop ! $ heard ! (Shows g) (λ shows.
    -- [the tokens and the answer; what is said of the set]
    split ! $ move ! (1 ∷ []) $ handle_tells (as_value G G-laws) ! g (v'' ∷ []) (λ v₃ is₃ good₃. lands_as ! (ap only is₃) refl good₃ $
    let Leaves : S.Denot → Type 0 = λ new. InsertLeaves t.target l.same s.now value g new in let Seen : Type 0 = InsertShows t.target l.same s.now value g in
    let left : Leaves (entries w) = rw (← h.0.1) (leaves_by_law t.target l.same l.hash_of h.0.0 w value r g lawful did shows) in
    let told : Seen = rw (← h.0.1) (shows_by_law t.target l.same h.0.0 w value r g did shows) in
    move ! (2 ∷ []) $ use1 𝓛 (‵ (RestsAs S s Leaves)) (rests 𝓛 S s (entries w) Leaves left) $
    -- [what it rests as; the answer; the tokens]
    use0 𝓛 (raw (fact 𝓤 Seen)) (fact_i 𝓤 Seen (emp 𝓤) told) $ move ! (1 ∷ 0 ∷ []) $ join ! $
    nothing ! $ nothing ! $ fjoin ! $ nothing ! $ fjoin ! $
    returns ! (look_at ! 0 refl) $ free_all ! refl $ keep ! (3 ∷ 0 ∷ 2 ∷ 1 ∷ []) $
    by ! (leaves 𝓛 En hs cl z v₃ g (tt, (tt, tt)) (tt, (tt, tt))))))))))))))))))))))
