-- `show` loads the word's pointer, which isn't null since the note has seen it set, and stores it: what the word's block is lent by
-- goes along.
use Rattle.std.specs.Prelude.{IsSome}
use Rattle.std.proofs.Common.{◌≡◌, ℕ, ◌+◌, None, [], ◌∷◌, ◌++◌, refl}
use mir.Syntax.{a_type, dcons, dnil}
use mir.Val.{Val, vptr}
use mir.MapTy.{inst_fn}
use base.Fraction.{left}
use base.Logic.{SProp, emp}
use base.Fml.{Lft, Share, Fml, ftrue, fsep, flft}
use types.Kit.{‵, raw, ◌⊛◌, some, later, mean, at_ret, ◌$◌, ◌∵◌, !, qed, by, move, keep, drop, split, split3, join, fsplit, fsplit3, fjoin, fpick, pick, use0, use1, use2, use3, await, rewrite}
use types.Run.{fld, stop, addr, lit, of_opd, no_more, and_then, first, blocks, exec, Calls-last, returns}
use types.ByLocal.{alloc_all, pass_all, free_all, look_at, get, through, sets, lands_last, env}
use types.Part.{agg}
use contract.Monad.{fact, fact_i}
use contract.BorrowLft.{◌⊑◌}
use contract.Running.{tables}
use denote.Exit.{yes}
use denote.RattleType.{RattleType, owns}
use denote.Signature.{types_at, plain}
use denote.Builtin.{RefOf, unit}
use denote.RawPtr.{Ptr, block_ptr, null_ptr}
use denote.Opens.{unhide}
use denote.Steps.{nothing, heard}
use denote.Param.{param, bounded}
use denote.Param.Laws.{param_laws}
use denote.Triple.Walked.{Stays, stay_dropped, walk_of, Goes-dropped}
use Rattle.core.proofs.alloc.Shapes.{after}
use Rattle.core.proofs.atomic.Steps.{Ptr-Good, fm}
use Rattle.table_cell.proofs.Walks.{begins, In, goes_in, comes_back}
use Rattle.std.proofs.raw_atomic.Walks.{proved_at, leaves}
use Rattle.table_cell.specs.Notes.{learnt}
use Rattle.table_cell.specs.Latest.{nameable}
use Rattle.table_cell.specs.Words.{Shows}
use Rattle.table_cell.specs.contracts.word.Word as word
use Rattle.table_cell.proofs.Moves as moves
use Rattle.std.proofs.raw_atomic.Calls.{seq_cst, stored, has_stored}
use Rattle.table_cell.specs.contracts.latest.Latest as latest
use Rattle.table_cell.proofs.Lasts as lasts
use Rattle.table_cell.proofs.Notes.{Note}
use Rattle.table_cell.proofs.Tokens.{token, InMemory, marker_of_nothing}
use Rattle.table_cell.specs.contracts.latest.Latest.show.{ended, clauses}
use Rattle.table_cell.specs.contracts.latest.Latest.show.Key.{name as #self}
use Rattle.table_cell.proofs.latest.Latest.show.Statement.{statement}
use Rattle.table_cell.proofs.latest.Latest.show.Code as code
use Rattle.core.specs.Sync.RawAtomic.Pointer.{asks_ptr}
use Rattle.std.proofs.raw_atomic.PtrCalls as calls
use Rattle.std.proofs.raw_atomic.PtrMethods as methods
use Rattle.std.proofs.raw_atomic.PtrCalls.{seq_cst_good}

pub show_spec : {M : Type 1} → statement M
show_spec 𝓤 𝓛 𝓜 𝓡 wired T A L LA f fd g d dd homed alloc glued =
    let H = 𝓛.H in let 𝓣 = tables 𝓤 H 𝓜 𝓡 𝓡.env in let R : RattleType = param 0 T in let LR = param_laws 0 T L in let Y : RattleType = param 1 A in let En = ended T A f fd g d dd in let c = clauses T A f fd g d dd 𝓛 𝓜.mem 𝓡.returns in
    let inst = bounded (a_type ∷ a_type ∷ []) (T, (A, tt)) (dcons fd (dcons d (dcons dd dnil))) in let fn = inst_fn inst code.function in
    let ref = RefOf (0 ∷ []) tt (plain (λ _. latest.the_row R Y f g)) (λ _. tt) in let ref_word = RefOf (1 ∷ []) tt (plain (λ _. word.the_row R Y f g)) (λ _. tt) in
    let ref_note = RefOf (2 ∷ []) tt (plain (λ _. Note R)) (λ _. tt) in let hs : Stays En.signature.params En.kept = (stay_dropped ref yes, (stay_dropped ref_word yes, (stay_dropped ref_note yes, tt))) in
    proved_at 𝓛 En hs c 𝓜 𝓡 (Goes-dropped 𝓛 5 ref yes (λ κs x f. refl), (Goes-dropped 𝓛 5 ref_word yes (λ κs x f. refl), (Goes-dropped 𝓛 5 ref_note yes (λ κs x f. refl), tt))) (#self inst) fn (code.unfolded 𝓤 H 𝓜 𝓡 wired (T, (A, tt)) fd d dd) (λ z are.
    let κs = z.0.0 in let qs = z.0.1 in let Post : Val → SProp 𝓤 = (walk_of 𝓛 En hs c).post z in
    let lt = z.0.3.0.now in let h = lt.home in let i = lt.id in let b : ℕ = z.0.3.0.ref_ptr.0 in let o : ℕ = z.0.3.0.ref_ptr.1 in let κ : Lft = κs.0 in let q : Share = qs.0 in
    let wd = z.0.3.1.0.now in let wb : ℕ = z.0.3.1.0.ref_ptr.0 in let wo : ℕ = z.0.3.1.0.ref_ptr.1 in let κw : Lft = κs.1.0 in let qw : Share = qs.1.0 in let n = z.0.3.1.1.0.now in let j = n.known in
    let κT = κs.1.1.1.0 in let rest = ‵ (flft κs.1.1.1.1.0 qs.1.1.1.1.0) ⊛ ‵ ftrue in let Unset : Type 0 = wd.value ≡ None in let Same : Type 0 = wd.home ≡ h in let Of : Type 0 = n.of ≡ wd.id in let Set : Type 0 = IsSome j in
    let k = g.dealloc_token wd.from in let Q : R.Denot → Type 0 = Shows f.fits wd in let Fits : ℕ → R.Denot → Type 0 = λ e x. f.fits x e in let none = moves.unknown 𝓛 R LR k wd.home wd.id wd.owning wd.value Q j in
    qed 𝓛 (((‵ (flft κ q) ⊛ ‵ (flft κw qw) ⊛ ‵ (flft κs.1.1.0 qs.1.1.0) ⊛ ‵ (flft κT qs.1.1.1.0) ⊛ rest) ⊛ ‵ (owns (types_at En.signature.params κs) z.0.3 z.0.4)) ∷ raw (fact 𝓤 (κT ⊑ T.lives)) ∷ raw (fact 𝓤 (κs.1.1.1.1.0 ⊑ A.lives)) ∷ (raw (fact 𝓤 Unset) ⊛ raw (fact 𝓤 Same) ⊛ raw (fact 𝓤 Of) ⊛ raw (fact 𝓤 Set)) ∷ []) ∵
    move ! (3 ∷ []) $ split ! $ heard ! Unset (λ unset. split ! $ heard ! Same (λ same. split ! $ heard ! Of (λ of. heard ! Set (λ set. keep ! (0 ∷ []) $ split ! $ move ! (1 ∷ []) $ fsplit3 ! $ fsplit ! $ drop ! $ unhide ! $ fsplit ! $ fpick ! (λ α. fsplit ! $
    -- [before α; the latest word; its fields; the word; the note and nothing; the tokens]
    move ! (3 ∷ []) $ fsplit ! $ drop ! $ unhide ! $ fsplit ! $ fpick ! (λ β. fsplit ! $
    -- [before β; the word; its fields; before α; the latest word; its fields; the note and nothing; the tokens]
    move ! (6 ∷ []) $ fsplit ! $ fsplit ! $ drop ! $ unhide ! $ fsplit ! $ drop ! $ rewrite ! 0 (λ (e : ℕ). ‵ (learnt R e j)) of refl $
    begins ! fn (λ e. are.0.0 e ++ (are.1.0.0 e ++ (are.1.1.0.0 e ++ []))) $ alloc_all ! (λ l. pass_all ! refl ((tt, tt), ((tt, tt), ((tt, tt), tt))) $ let Ev = env fn.locals l in
    -- [what the note knows; nothing; before β; the word; its fields; before α; the latest word; its fields; the tokens]
    move ! (8 ∷ []) $ split3 ! $ move ! (2 ∷ []) $ split ! $
    -- [the note's token; the other tokens; κ's token; κw's token; what the note knows; nothing; before β; the word; its fields; before α; the latest word; its fields]
    move ! (6 ∷ 3 ∷ []) $ use2 𝓛 (later (some (In 𝓛 𝓜 𝓡 κw β qw))) (goes_in 𝓛 𝓜 𝓡 κw β qw) $ await ! tt $ pick ! (λ s. split3 ! $
    -- [half of κw's token; β's token; what is owed for it; T's token; the other tokens; κ's token; what the note knows; nothing; the word; its fields; before α; the latest word; its fields]
    let out₀ : Ptr → Fml = λ p. fsep (flft β s) (moves.glimpse 𝓛 R LR k wd.home wd.id wd.owning wd.value Q j none p) in let out : Ptr → Fml = λ p. fsep (flft κw (left qw)) (out₀ p) in
    first ! $ blocks ! $ sets ! (addr ! (through ! refl (fld ! refl (stop !)))) refl (tt, tt) $ sets ! (agg ! (and_then ! (lit ! tt) (no_more !))) refl seq_cst_good $ move ! (8 ∷ 1 ∷ 6 ∷ []) $
    use3 𝓛 (raw (asks_ptr 𝓛 (block_ptr wb (wo + 0)) (λ p. p) out₀)) (moves.reads 𝓛 R LR k wd.home wd.id wd.owning wd.value Q j β wb (wo + 0) s) $ move ! (1 ∷ 7 ∷ 0 ∷ []) $
    use3 𝓛 (raw (𝓣.C _ (vptr wb (wo + 0) ∷ seq_cst ∷ []) (λ u. mean 𝓛 (calls.found 𝓛 out u)))) (methods.loads 𝓛 𝓜 𝓡 T L κw (left qw) wb (wo + 0) (code.calls-core::atomic::ptr::AtomicPtr::load 𝓡.env wired) out₀) $
    -- [the call; what is owed; T's token; the other tokens; κ's token; nothing; before α; the latest word; its fields]
    Calls-last ! (fm 𝓛 𝓜 𝓡) (calls.found 𝓛 out) (and_then ! (get ! refl) (and_then ! (get ! refl) (no_more !))) (λ u. calls.finds_either ! out
    (fsplit3 ! $ move ! (2 ∷ []) $ fpick ! (λ _. fpick ! (λ knew. absurd (moves.not_none set knew))))
    (λ pb po. let p : Ptr = block_ptr pb po in
    lands_last ! refl (tt, tt) $ exec ! 𝓣.C 𝓣.Λ Ev (after 1 fn.body) (at_ret Ev Post) $ fsplit3 ! $ move ! (0 ∷ 1 ∷ 3 ∷ []) $ use3 𝓛 (later (‵ (flft κw qw))) (comes_back 𝓛 𝓜 𝓡 κw β qw s) $ await ! tt $
    -- [κw's token; what was shown; T's token; the other tokens; κ's token; nothing; before α; the latest word; its fields]
    move ! (1 ∷ []) $ use1 𝓛 (later (‵ (nameable R wd.home (Fits wd.home) p))) (lasts.becomes_nameable 𝓛 R LR wd.home k wd.id wd.owning wd.value j Q (Fits wd.home) unset (λ x shown. shown.1) pb po) $ await ! tt $
    rewrite ! 0 (λ (e : ℕ). ‵ (nameable R e (Fits e) p)) same refl $ move ! (6 ∷ 4 ∷ []) $ use2 𝓛 (later (some (In 𝓛 𝓜 𝓡 κ α q))) (goes_in 𝓛 𝓜 𝓡 κ α q) $ await ! tt $ pick ! (λ r. split3 ! $
    -- [half of κ's token; α's token; what is owed for it; what may be named; κw's token; T's token; the other tokens; nothing; the latest word; its fields]
    let ends₀ : Fml = fsep (flft α r) (learnt unit i lasts.shown) in let ends : Fml = fsep (flft κ (left q)) ends₀ in
    sets ! (of_opd ! (get ! refl)) refl (tt, tt) $ first ! $ blocks ! $ sets ! (addr ! (through ! refl (fld ! refl (stop !)))) refl (tt, tt) $
    sets ! (agg ! (and_then ! (lit ! tt) (no_more !))) refl seq_cst_good $ move ! (8 ∷ 1 ∷ 3 ∷ []) $
    use3 𝓛 (raw (asks_ptr 𝓛 (block_ptr b (o + 0)) (λ _. p) (λ _. ends₀))) (lasts.stores 𝓛 R LR h (Fits h) i α b (o + 0) r pb po) $ move ! (1 ∷ 7 ∷ 0 ∷ []) $
    use3 𝓛 (raw (𝓣.C _ (vptr b (o + 0) ∷ vptr pb po ∷ seq_cst ∷ []) (λ u. mean 𝓛 (stored ends u)))) (methods.stores 𝓛 𝓜 𝓡 T L κ (left q) b (o + 0) (code.calls-core::atomic::ptr::AtomicPtr::store 𝓡.env wired) p ends₀) $
    -- [the call; what is owed; κw's token; T's token; the other tokens; nothing]
    Calls-last ! (fm 𝓛 𝓜 𝓡) (stored ends) (and_then ! (get ! refl) (and_then ! (get ! refl) (and_then ! (get ! refl) (no_more !)))) (λ u. has_stored ! ends (
    lands_last ! refl (tt, tt) $ exec ! 𝓣.C 𝓣.Λ Ev (after 3 fn.body) (at_ret Ev Post) $ fsplit3 ! $ move ! (0 ∷ 1 ∷ 3 ∷ []) $ use3 𝓛 (later (‵ (flft κ q))) (comes_back 𝓛 𝓜 𝓡 κ α q r) $ await ! tt $
    let new : (Note unit).Denot = record { marker = record {}; of = i; known = lasts.shown } in let Told : Type 0 = IsSome lasts.shown in
    -- [κ's token; what the new note knows; κw's token; T's token; the other tokens; nothing]
    move ! (3 ∷ 4 ∷ []) $ join ! $ move ! (3 ∷ 0 ∷ []) $ join ! $ move ! (1 ∷ 0 ∷ []) $ join ! $ move ! (1 ∷ []) $
    sets ! (agg ! (no_more !)) refl (tt, tt) $ sets ! (agg ! (and_then ! (get ! refl) (no_more !))) refl (tt, (tt, tt)) $
    use0 𝓛 (‵ (InMemory (token ∷ []))) (marker_of_nothing 𝓛) $ fjoin ! $
    use0 𝓛 (raw (fact 𝓤 Told)) (fact_i 𝓤 Told (emp 𝓤) refl) $ use0 𝓛 (raw (fact 𝓤 (i ≡ i))) (fact_i 𝓤 (i ≡ i) (emp 𝓤) refl) $ join ! $
    nothing ! $ nothing ! $ fjoin ! $ nothing ! $ fjoin ! $ nothing ! $ fjoin ! $
    returns ! (look_at ! 0 refl) $ free_all ! refl $ keep ! (3 ∷ 0 ∷ 2 ∷ 1 ∷ []) $ by ! (leaves 𝓛 En hs c z token new (tt, (tt, (tt, tt))) (tt, (tt, (tt, tt))))))))))))))))))
