-- `name` loads the pointer, and takes the name of its block, if there is one. The note comes to know that there was.
use Rattle.std.specs.Prelude.{IsSome}
use Rattle.std.proofs.Common.{◌≡◌, ℕ, ◌+◌, None, [], ◌∷◌, ◌++◌, refl, sym, lit<}
use mir.Syntax.{a_type, dcons, dnil}
use mir.Val.{Val, vptr, vcons, vnil}
use mir.MapTy.{inst_fn}
use base.Fraction.{left}
use base.Logic.{SProp, emp}
use base.Fml.{Lft, Share, Fml, ftrue, fsep, flft}
use types.Kit.{‵, raw, ◌⊛◌, some, later, mean, at_ret, ◌$◌, ◌∵◌, !, qed, by, move, keep, drop, split, split3, join, fsplit, fsplit3, fjoin, fpick, pick, use0, use1, use2, use3, await, rewrite}
use types.Run.{skips, returns_within, stop, fld, addr, lit, of_opd, bin, no_more, and_then, first, blocks, branches, exec, Calls-last, returns}
use types.ByLocal.{alloc_all, pass_all, free_all, look_at, get, through, sets, lands_last, env}
use types.Part.{agg}
use types.Match.{live}
use contract.Monad.{fact, fact_i}
use contract.BorrowLft.{◌⊑◌}
use contract.Running.{tables}
use denote.Exit.{yes}
use denote.RattleType.{RattleType, owns}
use denote.Signature.{types_at, type_at, plain}
use denote.Builtin.{RefOf, unit}
use denote.RawPtr.{Ptr, block_ptr, null_ptr, tests_null}
use denote.Opens.{unhide}
use denote.Steps.{nothing, heard}
use denote.Param.{param, layout, bounded}
use denote.Param.Laws.{param_laws}
use denote.Triple.Walked.{Stays, stay_dropped, stay_ref, walk_of, Goes-dropped, Goes-ref}
use Rattle.core.proofs.alloc.Shapes.{after}
use Rattle.core.proofs.atomic.Steps.{Ptr-Good, fm}
use Rattle.core.proofs.cell.Inside.{Good}
use Rattle.table_cell.proofs.Walks.{begins, In, goes_in, comes_back}
use Rattle.std.proofs.raw_atomic.Walks.{proved_at, leaves}
use Rattle.table_cell.specs.Notes.{learnt}
use Rattle.table_cell.specs.contracts.latest.Latest as latest
use Rattle.table_cell.proofs.Lasts as lasts
use Rattle.table_cell.proofs.Ajar as behind
use Rattle.table_cell.proofs.Notes as notes
use Rattle.table_cell.proofs.Notes.{Note}
use Rattle.table_cell.proofs.Values.{alone, Name, name_in}
use Rattle.table_cell.specs.contracts.latest.Latest.name.{ended, clauses}
use Rattle.table_cell.specs.contracts.latest.Latest.name.Key.{name as #self}
use Rattle.table_cell.proofs.latest.Latest.name.Statement.{statement}
use Rattle.table_cell.proofs.latest.Latest.name.Code as code
use Rattle.core.specs.declared.option.Option.TheVariants as option
use Rattle.core.proofs.option.Made.{Some-of, none_of}
use Rattle.core.specs.Sync.RawAtomic.Pointer.{asks_ptr}
use Rattle.std.proofs.raw_atomic.PtrCalls as calls
use Rattle.std.proofs.raw_atomic.PtrMethods as methods
use Rattle.std.proofs.raw_atomic.Calls.{seq_cst}
use Rattle.std.proofs.raw_atomic.PtrCalls.{seq_cst_good}

pub name_spec : {M : Type 1} → statement M
name_spec 𝓤 𝓛 𝓜 𝓡 wired T A L LA f fd g d dd homed alloc glued =
    let H = 𝓛.H in let 𝓣 = tables 𝓤 H 𝓜 𝓡 𝓡.env in let R : RattleType = param 0 T in let LR = param_laws 0 T L in let Y : RattleType = param 1 A in let En = ended T A f fd g d dd in let c = clauses T A f fd g d dd 𝓛 𝓜.mem 𝓡.returns in
    let inst = bounded (a_type ∷ a_type ∷ []) (T, (A, tt)) (dcons fd (dcons d (dcons dd dnil))) in let fn = inst_fn inst code.function in
    let ref = RefOf (0 ∷ []) tt (plain (λ _. latest.the_row R Y f g)) (λ _. tt) in let a_note = plain (λ _. Note unit) in let hs : Stays En.signature.params En.kept = (stay_dropped ref yes, (stay_ref (1 ∷ []) tt a_note, tt)) in
    proved_at 𝓛 En hs c 𝓜 𝓡 (Goes-dropped 𝓛 4 ref yes (λ κs x f. refl), (Goes-ref 𝓛 4 1 tt a_note, tt)) (#self inst) fn (code.unfolded 𝓤 H 𝓜 𝓡 wired (T, (A, tt)) fd d dd) (λ z are.
    let κs = z.0.0 in let qs = z.0.1 in let Post : Val → SProp 𝓤 = (walk_of 𝓛 En hs c).post z in let Out : RattleType = type_at En.signature.result κs in
    let lt = z.0.3.0.now in let h = lt.home in let i = lt.id in let b : ℕ = z.0.3.0.ref_ptr.0 in let o : ℕ = z.0.3.0.ref_ptr.1 in let κ : Lft = κs.0 in let q : Share = qs.0 in
    let m = z.0.3.1.0 in let mb : ℕ = m.ref_ptr.0 in let mo : ℕ = m.ref_ptr.1 in let n₀ = m.now in let j = n₀.known in let κn : Lft = κs.1.0 in let qn : Share = qs.1.0 in
    let at_note = z.0.4.1.0 in let lent : (Note unit).Denot → Fml = λ n. behind.lent (notes.the_note unit) κn qn m n at_note in
    let κT = κs.1.1.0 in let rest = ‵ (flft κs.1.1.1.0 qs.1.1.1.0) ⊛ ‵ ftrue in let Of : Type 0 = n₀.of ≡ i in let Q : R.Denot → Type 0 = λ x. f.fits x h in
    qed 𝓛 (((‵ (flft κ q) ⊛ ‵ (flft κn qn) ⊛ ‵ (flft κT qs.1.1.0) ⊛ rest) ⊛ ‵ (owns (types_at En.signature.params κs) z.0.3 z.0.4)) ∷ raw (fact 𝓤 (κT ⊑ T.lives)) ∷ raw (fact 𝓤 (κs.1.1.1.0 ⊑ A.lives)) ∷ raw (fact 𝓤 Of) ∷ []) ∵
    move ! (3 ∷ []) $ heard ! Of (λ same. keep ! (0 ∷ []) $ split ! $ move ! (1 ∷ []) $ fsplit3 ! $ fsplit ! $ drop ! $ unhide ! $ fsplit ! $ fpick ! (λ α. fsplit ! $
    -- [before α; the word; its fields; the note; nothing; the tokens]
    move ! (3 ∷ []) $
    begins ! fn (λ i. are.0.0 i ++ (are.1.0.0 i ++ [])) $ alloc_all ! (λ l. pass_all ! refl ((tt, tt), ((tt, tt), tt)) $ let Ev = env fn.locals l in
    -- [the note; before α; the word; its fields; nothing; the tokens]
    move ! (5 ∷ []) $ split3 ! $ move ! (2 ∷ []) $ split ! $ move ! (4 ∷ 3 ∷ []) $
    use2 𝓛 (later (‵ (learnt unit n₀.of j) ⊛ ‵ (behind.ajar (notes.the_note unit) κn qn m))) (behind.opens_up (notes.the_note unit) κn qn m 𝓛 at_note) $ await ! tt $ split ! $ rewrite ! 0 (λ (e : ℕ). ‵ (learnt unit e j)) same refl $
    -- [what the note knows; the rest of it; T's token; the other tokens; κ's token; before α; the word; its fields; nothing]
    move ! (5 ∷ 4 ∷ []) $ use2 𝓛 (later (some (In 𝓛 𝓜 𝓡 κ α q))) (goes_in 𝓛 𝓜 𝓡 κ α q) $ await ! tt $ pick ! (λ s. split3 ! $
    -- [half of κ's token; α's token; what is owed for it; what the note knows; the rest of it; T's token; the other tokens; the word; its fields; nothing]
    let out₀ : Ptr → Fml = λ p. fsep (flft α s) (lasts.glance 𝓛 R LR h Q i j p) in let out : Ptr → Fml = λ p. fsep (flft κ (left q)) (out₀ p) in
    first ! $ blocks ! $ sets ! (addr ! (through ! refl (fld ! refl (stop !)))) refl (tt, tt) $ sets ! (agg ! (and_then ! (lit ! tt) (no_more !))) refl seq_cst_good $ move ! (7 ∷ 1 ∷ 3 ∷ []) $
    use3 𝓛 (raw (asks_ptr 𝓛 (block_ptr b (o + 0)) (λ p. p) out₀)) (lasts.reads 𝓛 R LR h Q i α b (o + 0) s j) $ move ! (1 ∷ 6 ∷ 0 ∷ []) $
    use3 𝓛 (raw (𝓣.C _ (vptr b (o + 0) ∷ seq_cst ∷ []) (λ u. mean 𝓛 (calls.found 𝓛 out u)))) (methods.loads 𝓛 𝓜 𝓡 T L κ (left q) b (o + 0) (code.calls-core::atomic::ptr::AtomicPtr::load 𝓡.env wired) out₀) $
    -- [the call; what is owed; the rest of the note; T's token; the other tokens; nothing]
    Calls-last ! (fm 𝓛 𝓜 𝓡) (calls.found 𝓛 out) (and_then ! (get ! refl) (and_then ! (get ! refl) (no_more !))) (λ u. calls.finds_either ! out
    (lands_last ! refl (Ptr-Good null_ptr) $ exec ! 𝓣.C 𝓣.Λ Ev (after 1 fn.body) (at_ret Ev Post) $ fsplit3 ! $ move ! (0 ∷ 1 ∷ 3 ∷ []) $ use3 𝓛 (later (‵ (flft κ q))) (comes_back 𝓛 𝓜 𝓡 κ α q s) $ await ! tt $
    move ! (1 ∷ []) $ fpick ! (λ knew. drop ! $ let n : (Note unit).Denot = notes.knowing unit n₀ None in let Told : Type 0 = (j ≡ None) × (n.known ≡ None) in
    nothing ! $
    -- [what the note knows; κ's token; the rest of the note; T's token; the other tokens; nothing]
    move ! (0 ∷ 2 ∷ []) $ use2 𝓛 (later (‵ (lent n) ⊛ ‵ (flft κn qn))) (behind.shuts (notes.the_note unit) κn qn m 𝓛 at_note n are.1.0.0) $ await ! tt $ split ! $
    sets ! (of_opd ! (get ! refl)) refl (Ptr-Good null_ptr) $ sets ! (bin ! (get ! refl) (lit ! tt) tt) refl (tt, tt) $ first ! $ branches ! (get ! refl)
    (λ _. sets ! (agg ! (and_then ! (lit ! tt) (no_more !))) refl (tt, (record { fits = lit< tt }, tt)) $
    use0 𝓛 (‵ (Out.own_val option.None (live 0 vnil ∷ []))) (none_of 𝓛 (Name R)) $
    -- [the answer; the note; its token; κ's token; T's token; the other tokens; nothing]
    move ! (4 ∷ 5 ∷ []) $ join ! $ move ! (3 ∷ 0 ∷ []) $ join ! $ move ! (3 ∷ 0 ∷ []) $ join ! $ move ! (2 ∷ 3 ∷ []) $ fjoin ! $ nothing ! $ fjoin ! $
    use0 𝓛 (raw (fact 𝓤 Told)) (fact_i 𝓤 Told (emp 𝓤) (knew, refl)) $ use0 𝓛 (raw (fact 𝓤 (Unit {0}))) (fact_i 𝓤 (Unit {0}) (emp 𝓤) tt) $ join ! $ use0 𝓛 (raw (fact 𝓤 (n₀.of ≡ n₀.of))) (fact_i 𝓤 (n₀.of ≡ n₀.of) (emp 𝓤) refl) $ join ! $
    returns_within ! Post refl (look_at ! 0 refl) $ free_all ! refl $ keep ! (2 ∷ 1 ∷ 3 ∷ 0 ∷ []) $ by ! (leaves 𝓛 En hs c z (live 0 vnil) option.None (tt, (n, tt)) (tt, (tt, tt))))
    (λ wrong. absurd wrong)))
    (λ pb po. let p : Ptr = block_ptr pb po in lands_last ! refl (tt, tt) $ exec ! 𝓣.C 𝓣.Λ Ev (after 1 fn.body) (at_ret Ev Post) $ fsplit3 ! $ move ! (0 ∷ 1 ∷ 3 ∷ []) $ use3 𝓛 (later (‵ (flft κ q))) (comes_back 𝓛 𝓜 𝓡 κ α q s) $ await ! tt $
    -- [κ's token; what was glanced; the rest of the note; T's token; the other tokens; nothing]
    move ! (1 ∷ []) $ fsplit ! $ rewrite ! 0 (λ (e : ℕ). ‵ (learnt unit e lasts.shown)) (sym same) refl $ let n : (Note unit).Denot = notes.knowing unit n₀ lasts.shown in
    -- [what the note knows; the name; κ's token; the rest of the note; T's token; the other tokens; nothing]
    move ! (0 ∷ 3 ∷ []) $ use2 𝓛 (later (‵ (lent n) ⊛ ‵ (flft κn qn))) (behind.shuts (notes.the_note unit) κn qn m 𝓛 at_note n are.1.0.0) $ await ! tt $ split ! $ move ! (2 ∷ []) $
    fsplit ! $ fpick ! (λ low. drop ! $ fpick ! (λ x. fsplit ! $ move ! (1 ∷ []) $ fpick ! (λ so. drop ! $ let Shown : Type 0 = (h ≡ h) × f.fits x h in let Told : Type 0 = IsSome n.known in
    let r : (Name R).Denot = record { at = p; home = h; value = x } in let v : Val = live 1 (vcons (alone (vptr pb po)) vnil) in let good : Good (layout Out) v = (tt, (record { fits = lit< tt }, ((tt, tt), tt))) in
    sets ! (of_opd ! (get ! refl)) refl (tt, tt) $ sets ! (bin ! (get ! refl) (lit ! tt) (tests_null p low)) refl (tt, tt) $ first ! $ branches ! (get ! refl) (λ wrong. absurd wrong) (λ _. skips ! $ exec ! 𝓣.C 𝓣.Λ Ev (after 4 fn.body) (at_ret Ev Post) $
    sets ! (agg ! (and_then ! (get ! refl) (no_more !))) refl (tt, (tt, tt)) $ sets ! (agg ! (and_then ! (lit ! tt) (and_then ! (get ! refl) (no_more !)))) refl good $
    name_in R ! pb po h x $
    use1 𝓛 (‵ (Out.own_val (option.Some r) (v ∷ []))) (Some-of 𝓛 (Name R) r (alone (vptr pb po))) $
    -- [the answer; the note; its token; κ's token; T's token; the other tokens; nothing]
    move ! (4 ∷ 5 ∷ []) $ join ! $ move ! (3 ∷ 0 ∷ []) $ join ! $ move ! (3 ∷ 0 ∷ []) $ join ! $ move ! (2 ∷ 3 ∷ []) $ fjoin ! $ nothing ! $ fjoin ! $
    use0 𝓛 (raw (fact 𝓤 Told)) (fact_i 𝓤 Told (emp 𝓤) refl) $ use0 𝓛 (raw (fact 𝓤 Shown)) (fact_i 𝓤 Shown (emp 𝓤) (refl, so)) $ join ! $ use0 𝓛 (raw (fact 𝓤 (n₀.of ≡ n₀.of))) (fact_i 𝓤 (n₀.of ≡ n₀.of) (emp 𝓤) refl) $ join ! $
    returns ! (look_at ! 0 refl) $ free_all ! refl $ keep ! (2 ∷ 1 ∷ 3 ∷ 0 ∷ []) $ by ! (leaves 𝓛 En hs c z v (option.Some r) (tt, (n, tt)) (tt, (tt, tt))))))))))))))
