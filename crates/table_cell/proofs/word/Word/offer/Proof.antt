-- The block is lent before the exchange, and who loses takes it back. Either way the caller is left with one view, of what
-- the word now names: `ends` makes the answer of it, once for both.
use Rattle.std.proofs.Common.{◌≡◌, ℕ, ◌+◌, true, Option, Some, None, [], ◌∷◌, ◌++◌, refl, sym, ap, subst, lit<}
use Rattle.std.specs.Prelude.{MatchOption}
use mir.Val.{Val, vnull, vptr, vcons, vnil}
use base.Fraction.{full_share, left, right}
use base.Logic.{SProp, emp, id⊢, never}
use prog.Wp.{Wp, after_seq, at_return}
use types.Kit.{‵, raw, ◌⊛◌, some, later, mean, runs, at_ret, any_q, Sq, ◌$◌, ◌∵◌, !, qed, by, move, drop, split, split3, group, join, fsplit, fsplit3, fjoin, fpick, pick, use0, use1, use2, use3, await, rewrite}
use types.Run.{stop, fld, addr, lit, of_opd, no_more, and_then, first, blocks, exec, Calls-last, returns, switches_on}
use types.ByLocal.{alloc_all, pass_all, free_all, look_at, get, get_in, get_tag, through, sets, sets_last, lands_last, env, holding, forget_but, is as equals}
use types.Match.{live, vrt, in_variant}
use denote.RattleType.{RattleType, owns}
use denote.Triple.Walked.{Stays, stay_dropped, stay_ref, walk_of, Goes-dropped, Goes-ref}
use Rattle.std_alloc.proofs.ResultValues.{and_tt}
use Rattle.std.proofs.raw_atomic.Walks.{proved_at, leaves}
use Rattle.table_cell.specs.Notes.{Agrees, learnt}
use Rattle.table_cell.proofs.Values.{marked, pair_of, pair_in, Loose, loose_good, loose_at, loose_in}
use Rattle.table_cell.proofs.Calls.{asks_low}
use Rattle.table_cell.proofs.Walks.{begins, In, goes_in, comes_back, LentOut, lends_block}
use Rattle.table_cell.specs.contracts.word.Word.offer as f
use Rattle.table_cell.specs.Words.{Loan, view}
use Rattle.table_cell.proofs.word.Word.offer.Statement.{statement}
use Rattle.table_cell.proofs.word.Word.offer.Code as code
use mir.Syntax.{a_type, dcons, dnil}
use mir.MapTy.{inst_fn}
use base.Fml.{Lft, Share, Fml, ftrue, ffalse, fsep, flft}
use base.Before.{before}
use types.Part.{agg, sub, whole}
use contract.Monad.{fact, fact_i}
use contract.BorrowLft.{◌⊑◌}
use contract.Running.{tables}
use denote.Exit.{yes, no}
use denote.Signature.{types_at, type_at, plain}
use denote.Builtin.{RefOf}
use denote.RawPtr.{Ptr, block_ptr, null_ptr, ptr_val}
use denote.Opens.{unhide}
use denote.Steps.{nothing, heard}
use denote.Param.{param, layout, bounded}
use denote.Param.Laws.{param_laws}
use Rattle.core.proofs.alloc.Calls.{Goes-blank}
use Rattle.core.proofs.alloc.Shapes.{after}
use Rattle.core.proofs.atomic.Steps.{fm}
use Rattle.core.proofs.cell.Inside.{Good}
use Rattle.table_cell.specs.contracts.home.Home as home
use Rattle.table_cell.specs.contracts.word.Word as word
use Rattle.table_cell.proofs.Moves as moves
use mir.Syntax.{Body, named as lifetime}
use mir.Raw.{raw as bare}
use types.Na.{before_dup}
use denote.Memory.{lone}
use denote.Ref.{ShrRef}
use denote.RawPtr.{in_a_block}
use Rattle.core.specs.contracts.option.Option as options
use Rattle.core.specs.declared.option.Option.TheVariants as option
use Rattle.core.specs.declared.result.Result.TheVariants.{Ok, Err}
use Rattle.core.proofs.option.Made.{Some-of, none_of}
use Rattle.core.proofs.alloc.Shapes.{head, arm_body}
use Rattle.core.specs.Sync.RawAtomic.Pointer.{compares}
use Rattle.std.proofs.raw_atomic.PtrCalls as calls
use Rattle.std.proofs.raw_atomic.PtrMethods as methods
use Rattle.std.proofs.raw_atomic.Calls.{seq_cst}
use Rattle.std.proofs.raw_atomic.PtrCalls.{seq_cst_good}
use Rattle.table_cell.proofs.Ajar as behind
use Rattle.table_cell.proofs.Notes as notes
use Rattle.table_cell.proofs.Notes.{Note}
use Rattle.table_cell.specs.Words.{Shows, freeable}

agrees_unset : {X : Type 0} {v : Option X} (x : X) → v ≡ None → Agrees v x
agrees_unset {X} {v} x e = subst (λ (u : Option X). Agrees u x) (sym e) tt

pub offer_spec : {M : Type 1} → statement M
offer_spec 𝓤 𝓛 𝓜 𝓡 wired T A L LA h_fits fd gl dl g d dd homed shows_low alloc glued =
    let 𝓣 = tables 𝓤 𝓛.H 𝓜 𝓡 𝓡.env in let En = f.ended T A h_fits fd gl dl g d dd in let c = f.clauses T A h_fits fd gl dl g d dd 𝓛 𝓜.mem 𝓡.returns in
    let R : RattleType = param 0 T in let LR = param_laws 0 T L in let Y : RattleType = param 1 A in let Lr : RattleType = Loose R Y g in let Back : RattleType = options.the_row Lr in
    let types = bounded (a_type ∷ a_type ∷ []) (T, (A, tt)) (dcons fd (dcons dl (dcons d (dcons dd dnil)))) in let fn = inst_fn types code.function in
    let the_word = RefOf (0 ∷ []) tt (plain (λ _. word.the_row R Y h_fits g)) (λ _. tt) in let the_home = RefOf (0 ∷ []) tt (plain (λ _. home.the_row)) (λ _. tt) in
    let the_block = plain (λ _. Lr) in let the_note = plain (λ _. Note R) in
    let stayed : Stays En.signature.params En.kept = (stay_dropped the_word yes, (stay_dropped the_home yes, (stay_dropped the_block no, (stay_ref (1 ∷ []) tt the_note, tt)))) in
    proved_at 𝓛 En stayed c 𝓜 𝓡
    (Goes-dropped 𝓛 4 the_word yes (λ κs x w. refl), (Goes-dropped 𝓛 4 the_home yes (λ κs x w. refl), (Goes-blank 𝓛 4 the_block no (λ κs x w. tt), (Goes-ref 𝓛 4 1 tt the_note, tt))))
    (f.Key.name types) fn (code.unfolded 𝓤 𝓛.H 𝓜 𝓡 wired (T, (A, tt)) fd dl d dd) (λ y are.
    let κ : Lft = y.0.0.0 in let q : Share = y.0.1.0 in let κn : Lft = y.0.0.1.0 in let qn : Share = y.0.1.1.0 in let κT : Lft = y.0.0.1.1.0 in let qT : Share = y.0.1.1.1.0 in
    let κA : Lft = y.0.0.1.1.1.0 in let qA : Share = y.0.1.1.1.1.0 in let rest = ‵ (flft κA qA) ⊛ ‵ ftrue in
    let wd = y.0.3.0.now in let h = wd.home in let b : ℕ = y.0.3.0.ref_ptr.0 in let o : ℕ = y.0.3.0.ref_ptr.1 in let l₀ = y.0.3.1.1.0 in let x = l₀.value in let k = g.dealloc_token wd.from in
    let m = y.0.3.1.1.1.0 in let at_note = y.0.4.1.1.1.0 in let i = wd.id in let j = m.now.known in let lent : (Note R).Denot → Fml = λ n. behind.lent (notes.the_note R) κn qn m n at_note in
    let Fits : Type 0 = (y.0.3.1.0.now.id ≡ h) × (l₀.from ≡ wd.from) × h_fits.fits x h in let Unset : Type 0 = (wd.owning ≡ true) × (wd.value ≡ None) in let Of : Type 0 = m.now.of ≡ i in
    let Q : R.Denot → Type 0 = Shows h_fits.fits wd in let Ref : RattleType = ShrRef (lifetime 0) κ R in let Out : RattleType = type_at En.signature.result y.0.0 in
    let Post : Val → SProp 𝓤 = (walk_of 𝓛 En stayed c).post y in let Said : R.Denot → Back.Denot → Type 0 = λ z back. MatchOption back ((z ≡ x) × (j ≡ None)) (λ l. (l.value ≡ x) × (l.from ≡ l₀.from)) in
    qed 𝓛 (((‵ (flft κ q) ⊛ ‵ (flft κn qn) ⊛ ‵ (flft κT qT) ⊛ rest) ⊛ ‵ (owns (types_at En.signature.params y.0.0) y.0.3 y.0.4)) ∷ raw (fact 𝓤 (κT ⊑ T.lives)) ∷ raw (fact 𝓤 (κA ⊑ A.lives)) ∷ (raw (fact 𝓤 Fits) ⊛ raw (fact 𝓤 Unset) ⊛ raw (fact 𝓤 Of)) ∷ []) ∵
    move ! (1 ∷ 2 ∷ 3 ∷ []) $ heard ! (κT ⊑ T.lives) (λ within. heard ! (κA ⊑ A.lives) (λ within_A. split3 ! $ heard ! Fits (λ fits. heard ! Unset (λ unset. heard ! Of (λ same. split ! $ move ! (1 ∷ []) $ fsplit3 ! $
    -- [the word; the home; the block and the note; the tokens]
    fsplit ! $ drop ! $ unhide ! $ fsplit ! $ fpick ! (λ α. fsplit ! $ move ! (3 ∷ []) $ fsplit ! $ drop ! $ unhide ! $ fsplit ! $ drop ! $ rewrite ! 0 (λ (i : ℕ). ‵ (before κ (i ∷ []))) fits.0 refl $
    move ! (4 ∷ []) $ fsplit3 ! $ loose_at R Y g LR (param_laws 1 A LA) l₀ y.0.4.1.1.0 ! (λ nb no' is. let new : Ptr = block_ptr nb no' in rewrite ! 0 (λ (s : A.Denot). ‵ (freeable R (g.dealloc_token s) new x)) fits.1 refl $
    move ! (2 ∷ []) $ drop ! $ move ! (0 ∷ 2 ∷ 3 ∷ 4 ∷ 5 ∷ 1 ∷ []) $
    begins ! fn (λ i. are.0.0 i ++ (are.1.0.0 i ++ (is i ++ (are.1.1.1.0.0 i ++ [])))) $ alloc_all ! (λ s. pass_all ! refl ((tt, tt), ((tt, tt), (loose_good R Y g new, ((tt, tt), tt)))) $ let Ev = env fn.locals s in
    sets ! (of_opd ! (get_in ! (fld ! refl (stop !)) (sub ! 0 refl (whole !)))) refl (tt, tt) $ sets ! (of_opd ! (get_in ! (fld ! refl (stop !)) (sub ! 1 refl (whole !)))) refl (tt, tt) $
    first ! $ blocks ! $ sets ! (of_opd ! (get ! refl)) refl (tt, tt) $ sets ! (of_opd ! (get ! refl)) refl (tt, tt) $
    -- [the block; before the home; before α; the word; its fields; the note; the tokens]
    fsplit ! $ move ! (7 ∷ []) $ split3 ! $ move ! (2 ∷ []) $ split ! $ move ! (10 ∷ 3 ∷ []) $
    use2 𝓛 (later (‵ (learnt R m.now.of j) ⊛ ‵ (behind.ajar (notes.the_note R) κn qn m))) (behind.opens_up (notes.the_note R) κn qn m 𝓛 at_note) $ await ! tt $ split ! $ rewrite ! 0 (λ (i : ℕ). ‵ (learnt R i j)) same refl $
    move ! (4 ∷ 2 ∷ 3 ∷ 5 ∷ 6 ∷ 7 ∷ 8 ∷ 9 ∷ 10 ∷ []) $
    -- [κ's token; T's token; the other tokens; the memory; the right; before the home; before α; the word; its fields; what the note knows; the rest of it]
    move ! (2 ∷ 4 ∷ []) $ asks_low 𝓛 𝓜 𝓡 A gl dl g d dd κA qA new wd.from (bare (lone R.mir)) ! (shows_low.show_low dd) within_A (and_then ! (get ! refl) (no_more !)) $ fpick ! (λ low. drop ! $
    lands_last ! refl (tt, tt) $ exec ! 𝓣.C 𝓣.Λ Ev (after 3 fn.body) (at_ret Ev Post) $
    -- [the right; the other tokens; κ's token; T's token; the memory; before the home; ..]
    move ! (4 ∷ 0 ∷ []) $ fjoin ! $ move ! (4 ∷ []) $ use1 𝓛 (‵ (before κ (h ∷ [])) ⊛ ‵ (before κ (h ∷ []))) (before_dup 𝓛 κ (h ∷ [])) $ split ! $
    -- [before the home, twice; the block; the other tokens; κ's token; T's token; before α; the word; its fields; what the note knows; the rest of it]
    move ! (2 ∷ 5 ∷ []) $ join ! $ move ! (1 ∷ 4 ∷ 0 ∷ []) $ use3 𝓛 (later (LentOut 𝓛 𝓜 𝓡 R LR k h κ q κT qT new x)) (lends_block 𝓛 𝓜 𝓡 R LR k h κ q κT qT new x within) $ await ! tt $ pick ! (λ ν. split3 ! $
    -- [my block; κ's token; T's token; before the home; the other tokens; before α; ..]
    move ! (5 ∷ 1 ∷ []) $ use2 𝓛 (later (some (In 𝓛 𝓜 𝓡 κ α q))) (goes_in 𝓛 𝓜 𝓡 κ α q) $ await ! tt $ pick ! (λ r. split3 ! $
    -- [half of κ's token; α's token; what is owed for it; my block; T's token; before the home; the other tokens; the word; its fields; what the note knows; the rest of it]
    let W = wd.owning in let V = wd.value in
    let wins : Ptr → Fml = λ p. fsep (flft α r) (moves.won 𝓛 R LR k h i W V Q j α b (o + 0) r nb no' ν x low p) in
    let loses : Ptr → Fml = λ p. fsep (flft α r) (moves.lost 𝓛 R LR k h i W V Q j α b (o + 0) r nb no' ν x low p) in
    let won : Ptr → Fml = λ p. fsep (flft κ (left q)) (wins p) in let lost : Ptr → Fml = λ p. fsep (flft κ (left q)) (loses p) in
    let arms : Body = head (after 5 fn.body) in let After = any_q (after_seq 𝓤 𝓛.H (Wp 𝓤 𝓛.H 𝓣.C 𝓣.Λ Ev (after 6 fn.body) (at_return 𝓤 𝓛.H Ev Post)) (at_return 𝓤 𝓛.H Ev Post)) in
    let ends : (pb po : ℕ) (t : Loan R) (back : Back.Denot) (v : Val) → Good (layout Back) v → Agrees j t.0 → Said t.0 back
    → Sq 𝓛 (‵ (learnt R i (Some t.0)) ∷ ‵ (view R h (block_ptr pb po) t) ∷ ‵ (Back.own_val back (v ∷ [])) ∷ ‵ (flft κ q) ∷ ‵ (flft κT qT) ∷ ‵ (before κ (h ∷ [])) ∷ rest ∷ ‵ (behind.ajar (notes.the_note R) κn qn m)
    ∷ holding 𝓛 Ev ((20, pair_of (vptr pb po) v) ∷ [])) (runs 𝓣.C 𝓣.Λ Ev (after 6 fn.body) (at_ret Ev Post)) = λ pb po t back v v_good agrees said.
    let p : Ptr = block_ptr pb po in let n : (Note R).Denot = notes.knowing R m.now (Some t.0) in let Known : Type 0 = (n.known ≡ Some t.0) × Agrees j t.0 in
    let pair : Val = pair_of (vptr pb po) v in let good : Good (layout Out) pair = (and_tt _ v_good.0, (tt, (v_good.1, tt))) in let shown : Ref.Denot = record { ref_ptr = (pb, po); now = t.0 } in
    rewrite ! 0 (λ (i : ℕ). ‵ (learnt R i (Some t.0))) (sym same) refl $ move ! (0 ∷ 7 ∷ []) $
    use2 𝓛 (later (‵ (lent n) ⊛ ‵ (flft κn qn))) (behind.shuts (notes.the_note R) κn qn m 𝓛 at_note n are.1.1.1.0.0) $ await ! tt $ split ! $ move ! (2 ∷ []) $
    -- [the view; the note; its token; what comes back; κ's token; T's token; before the home; the other tokens]
    move ! (6 ∷ 0 ∷ []) $ use2 𝓛 (later (‵ (Ref.own_val shown (vptr pb po ∷ [])))) (moves.shows_block 𝓛 R LR k h κ pb po t) $ await ! tt $
    sets ! (of_opd ! (get ! refl)) refl good $ sets ! (of_opd ! (get_in ! (fld ! refl (stop !)) (sub ! 0 refl (whole !)))) refl (tt, tt) $ sets ! (of_opd ! (get_in ! (fld ! refl (stop !)) (sub ! 1 refl (whole !)))) refl v_good $
    first ! $ blocks ! $ sets_last ! (addr ! (through ! refl (stop !))) refl (tt, tt) $ exec ! 𝓣.C 𝓣.Λ Ev (after 10 fn.body) (at_ret Ev Post) $
    sets ! (of_opd ! (get ! refl)) refl (tt, tt) $ sets ! (of_opd ! (get ! refl)) refl v_good $ sets ! (agg ! (and_then ! (get ! refl) (and_then ! (get ! refl) (no_more !)))) refl good $
    move ! (0 ∷ 3 ∷ []) $ pair_in Ref Back ! shown back (vptr pb po) v $ move ! (3 ∷ 2 ∷ 4 ∷ 5 ∷ []) $ group ! 4 $
    -- [the lifetimes' tokens; the pair; the note]
    use0 𝓛 (raw (fact 𝓤 (Said t.0 back))) (fact_i 𝓤 (Said t.0 back) (emp 𝓤) said) $ use0 𝓛 (raw (fact 𝓤 Known)) (fact_i 𝓤 Known (emp 𝓤) (refl, agrees)) $ join ! $
    use0 𝓛 (raw (fact 𝓤 (m.now.of ≡ m.now.of))) (fact_i 𝓤 (m.now.of ≡ m.now.of) (emp 𝓤) refl) $ join ! $
    move ! (3 ∷ []) $ nothing ! $ move ! (1 ∷ 0 ∷ []) $ fjoin ! $ nothing ! $ fjoin ! $ nothing ! $ fjoin ! $ nothing ! $ fjoin ! $
    returns ! (look_at ! 0 refl) $ free_all ! refl $ move ! (2 ∷ 0 ∷ 3 ∷ 1 ∷ []) $ by ! (leaves 𝓛 En stayed c y pair (shown, back) (tt, (tt, (tt, (n, tt)))) (tt, (tt, (tt, (tt, tt))))) in
    first ! $ blocks ! $ sets ! (addr ! (through ! refl (fld ! refl (stop !)))) refl (tt, tt) $ sets ! (of_opd ! (get ! refl)) refl (tt, tt) $
    sets ! (agg ! (and_then ! (lit ! tt) (no_more !))) refl seq_cst_good $ sets ! (agg ! (and_then ! (lit ! tt) (no_more !))) refl seq_cst_good $
    move ! (3 ∷ 9 ∷ []) $ join ! $ move ! (7 ∷ 2 ∷ 0 ∷ []) $
    use3 𝓛 (raw (compares 𝓛 (block_ptr b (o + 0)) null_ptr new wins loses)) (moves.offers 𝓛 R LR k h i W V Q j α b (o + 0) r nb no' ν x low unset.0 unset.1 (agrees_unset x unset.1, fits.2)) $ move ! (1 ∷ 6 ∷ 0 ∷ []) $
    use3 𝓛 (raw (𝓣.C _ (vptr b (o + 0) ∷ vnull ∷ vptr nb no' ∷ seq_cst ∷ seq_cst ∷ []) (λ u. mean 𝓛 (calls.answered 𝓛 won lost u))))
    (methods.exchanges 𝓛 𝓜 𝓡 T L κ (left q) b (o + 0) (code.calls-core::atomic::ptr::AtomicPtr::compare_exchange 𝓡.env wired) null_ptr new wins loses) $
    -- [the call; what is owed; T's token; before the home; the other tokens; the rest of the note]
    Calls-last ! (fm 𝓛 𝓜 𝓡) (calls.answered 𝓛 won lost) (and_then ! (get ! refl) (and_then ! (lit ! tt) (and_then ! (get ! refl) (and_then ! (get ! refl) (and_then ! (get ! refl) (no_more !)))))) (λ u. calls.hears ! won lost
    (λ p. lands_last ! refl (calls.answer_good (Ok p)) $ exec ! 𝓣.C 𝓣.Λ Ev (after 4 fn.body) (at_ret Ev Post) $ sets ! (of_opd ! (get ! refl)) refl (calls.answer_good (Ok p)) $
    fsplit3 ! $ move ! (0 ∷ 1 ∷ 3 ∷ []) $ use3 𝓛 (later (‵ (flft κ q))) (comes_back 𝓛 𝓜 𝓡 κ α q r) $ await ! tt $ move ! (1 ∷ []) $ fsplit3 ! $ move ! (2 ∷ []) $ fpick ! (λ knew. drop ! $
    first ! $ switches_on ! (get_tag ! (vrt ! refl (fld ! refl (stop !))) (whole !)) $ exec ! 𝓣.C 𝓣.Λ Ev (arm_body 0 arms) After $ sets ! (of_opd ! (get ! refl)) refl (tt, tt) $
    sets ! (agg ! (and_then ! (lit ! tt) (no_more !))) refl (tt, (record { fits = lit< tt }, tt)) $
    sets_last ! (agg ! (and_then ! (get ! refl) (and_then ! (get ! refl) (no_more !)))) refl (tt, (tt, ((record { fits = lit< tt }, tt), tt))) $
    exec ! 𝓣.C 𝓣.Λ Ev (after 6 fn.body) (at_ret Ev Post) $ forget_but ! Ev (20 ∷ []) refl $
    -- [the view; what the note knows; κ's token; T's token; before the home; the other tokens; the rest of the note]
    use0 𝓛 (‵ (Back.own_val option.None (live 0 vnil ∷ []))) (none_of 𝓛 Lr) $ move ! (2 ∷ 1 ∷ 0 ∷ []) $
    ends nb no' (x, ν, right full_share) option.None (live 0 vnil) (tt, (record { fits = lit< tt }, tt)) (agrees_unset x knew) (refl, knew)))
    (λ p. lands_last ! refl (calls.answer_good (Err p)) $ exec ! 𝓣.C 𝓣.Λ Ev (after 4 fn.body) (at_ret Ev Post) $ sets ! (of_opd ! (get ! refl)) refl (calls.answer_good (Err p)) $
    fsplit3 ! $ move ! (0 ∷ 1 ∷ 3 ∷ []) $ use3 𝓛 (later (‵ (flft κ q))) (comes_back 𝓛 𝓜 𝓡 κ α q r) $ await ! tt $ move ! (1 ∷ []) $ fsplit ! $
    use1 𝓛 (later (‵ (freeable R k new x))) (moves.take_back 𝓛 R LR k h new x ν) $ await ! tt $ rewrite ! 0 (λ (s : A.Denot). ‵ (freeable R (g.dealloc_token s) new x)) (sym fits.1) refl $ loose_in R Y g ! new l₀.from x $ move ! (1 ∷ []) $
    in_a_block ! p (moves.glimpse 𝓛 R LR k h i W V Q j ffalse) (id⊢ 𝓤 (never 𝓤)) (λ pb po at. fsplit ! $ drop ! $ fpick ! (λ t. fsplit ! $ move ! (1 ∷ []) $ fpick ! (λ _.
    rewrite ! 0 (λ (u : Option R.Denot). ‵ (moves.told 𝓛 R LR k h i u j t.0)) unset.1 refl $ fsplit ! $ move ! (1 ∷ []) $ fpick ! (λ agrees. drop ! $
    -- [what the note knows; the view; the loose block; κ's token; T's token; before the home; the other tokens; the rest of the note]
    let mine : Lr.Denot = record { at = new; allocator = record {}; value = x; from = l₀.from } in let at_mine : Val = marked (vptr nb no') in
    let good : Good (layout Back) (live 1 (vcons at_mine vnil)) = (tt, (record { fits = lit< tt }, (((tt, (tt, tt)), tt)))) in
    first ! $ switches_on ! (get_tag ! (vrt ! refl (fld ! refl (stop !))) (whole !)) $ exec ! 𝓣.C 𝓣.Λ Ev (arm_body 1 arms) After $
    sets ! (equals ! (of_opd ! (get_in ! (vrt ! refl (fld ! refl (stop !))) (in_variant ! 1 0 refl refl (whole !)))) (ap ptr_val at)) refl (tt, tt) $
    sets ! (of_opd ! (get ! refl)) refl (tt, tt) $ sets ! (of_opd ! (get ! refl)) refl (tt, tt) $ sets ! (of_opd ! (get ! refl)) refl (tt, tt) $
    sets ! (agg ! (and_then ! (get ! refl) (and_then ! (get ! refl) (no_more !)))) refl (loose_good R Y g new) $
    sets ! (agg ! (and_then ! (lit ! tt) (and_then ! (get ! refl) (no_more !)))) refl good $
    sets_last ! (agg ! (and_then ! (get ! refl) (and_then ! (get ! refl) (no_more !)))) refl (tt, (tt, (good.1, tt))) $
    exec ! 𝓣.C 𝓣.Λ Ev (after 6 fn.body) (at_ret Ev Post) $ forget_but ! Ev (20 ∷ []) refl $
    move ! (2 ∷ []) $ use1 𝓛 (‵ (Back.own_val (option.Some mine) (live 1 (vcons at_mine vnil) ∷ []))) (Some-of 𝓛 Lr mine at_mine) $ move ! (1 ∷ 2 ∷ 0 ∷ []) $
    ends pb po t (option.Some mine) (live 1 (vcons at_mine vnil)) good agrees (refl, refl)))))))))))))))))))
