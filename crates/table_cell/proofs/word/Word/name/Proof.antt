-- `name` loads the pointer, and keeps a part of what its block is lent by.
use Rattle.std.proofs.Common.{◌≡◌, ℕ, ◌+◌, None, [], ◌∷◌, ◌++◌, refl}
use mir.Syntax.{a_type, dcons, dnil}
use mir.Val.{Val, vptr}
use mir.MapTy.{inst_fn}
use base.Fraction.{left}
use base.Logic.{SProp, emp}
use base.Fml.{Lft, Share, Fml, ftrue, fsep, flft}
use types.Kit.{‵, raw, ◌⊛◌, some, later, mean, at_ret, ◌$◌, ◌∵◌, !, qed, by, move, keep, drop, split, split3, join, fsplit, fsplit3, fjoin, fpick, pick, use0, use1, use2, use3, await}
use types.Run.{stop, fld, addr, lit, of_opd, no_more, and_then, first, blocks, exec, Calls-last, returns}
use types.ByLocal.{alloc_all, pass_all, free_all, look_at, get, through, sets, lands_last, env}
use types.Part.{agg}
use contract.Monad.{fact, fact_i}
use contract.BorrowLft.{◌⊑◌}
use contract.Running.{tables}
use denote.Exit.{yes}
use denote.RattleType.{RattleType, owns}
use denote.Signature.{types_at, type_at, plain}
use denote.Builtin.{RefOf}
use denote.RawPtr.{Ptr, block_ptr}
use denote.Opens.{unhide}
use denote.Steps.{nothing, heard}
use denote.Param.{param, bounded}
use denote.Param.Laws.{param_laws}
use denote.Struct.Lending.{lent_at}
use denote.Triple.Walked.{Stays, stay_dropped, walk_of, Goes-dropped}
use Rattle.core.proofs.alloc.Shapes.{after}
use Rattle.core.proofs.atomic.Steps.{fm}
use Rattle.table_cell.proofs.Walks.{begins, In, goes_in, comes_back}
use Rattle.std.proofs.raw_atomic.Walks.{proved_at, leaves}
use Rattle.table_cell.specs.Words.{Shows}
use Rattle.table_cell.specs.contracts.word.Word as word
use Rattle.table_cell.proofs.Moves as moves
use Rattle.table_cell.proofs.Values.{alone, Name, name_in}
use Rattle.table_cell.specs.contracts.word.Word.name.{ended, clauses}
use Rattle.table_cell.specs.contracts.word.Word.name.Key.{name as #self}
use Rattle.table_cell.proofs.word.Word.name.Statement.{statement}
use Rattle.table_cell.proofs.word.Word.name.Code as code
use Rattle.std.specs.Prelude.{IsSome}
use Rattle.core.specs.Sync.RawAtomic.Pointer.{asks_ptr}
use Rattle.std.proofs.raw_atomic.PtrCalls as calls
use Rattle.std.proofs.raw_atomic.PtrMethods as methods
use Rattle.std.proofs.raw_atomic.Calls.{seq_cst}
use Rattle.std.proofs.raw_atomic.PtrCalls.{seq_cst_good}

pub name_spec : {M : Type 1} → statement M
name_spec 𝓤 𝓛 𝓜 𝓡 wired T A L LA f fd g d dd homed alloc glued =
    let H = 𝓛.H in let 𝓣 = tables 𝓤 H 𝓜 𝓡 𝓡.env in let R : RattleType = param 0 T in let LR = param_laws 0 T L in let Y : RattleType = param 1 A in let En = ended T A f fd g d dd in let c = clauses T A f fd g d dd 𝓛 𝓜.mem 𝓡.returns in
    let inst = bounded (a_type ∷ a_type ∷ []) (T, (A, tt)) (dcons fd (dcons d (dcons dd dnil))) in let fn = inst_fn inst code.function in
    let ref = RefOf (0 ∷ []) tt (plain (λ _. word.the_row R Y f g)) (λ _. tt) in let hs : Stays En.signature.params En.kept = (stay_dropped ref yes, tt) in
    proved_at 𝓛 En hs c 𝓜 𝓡 (Goes-dropped 𝓛 3 ref yes (λ κs x f. refl), tt) (#self inst) fn (code.unfolded 𝓤 H 𝓜 𝓡 wired (T, (A, tt)) fd d dd) (λ z are.
    let κs = z.0.0 in let qs = z.0.1 in let Post : Val → SProp 𝓤 = (walk_of 𝓛 En hs c).post z in let Out : RattleType = type_at En.signature.result κs in
    let wd = z.0.3.0.now in let h = wd.home in let a = wd.from in let b : ℕ = z.0.3.0.ref_ptr.0 in let o : ℕ = z.0.3.0.ref_ptr.1 in let κ : Lft = κs.0 in let q : Share = qs.0 in
    let κT = κs.1.0 in let rest = ‵ (flft κs.1.1.0 qs.1.1.0) ⊛ ‵ ftrue in let Asked : Type 0 = IsSome wd.value in let Told : R.Denot → Type 0 = λ x. (h ≡ h) × Shows f.fits wd x in
    let k = g.dealloc_token a in let Q : R.Denot → Type 0 = Shows f.fits wd in let none = moves.unknown 𝓛 R LR k h wd.id wd.owning wd.value Q None in
    qed 𝓛 (((‵ (flft κ q) ⊛ ‵ (flft κT qs.1.0) ⊛ rest) ⊛ ‵ (owns (types_at En.signature.params κs) z.0.3 z.0.4)) ∷ raw (fact 𝓤 (κT ⊑ T.lives)) ∷ raw (fact 𝓤 (κs.1.1.0 ⊑ A.lives)) ∷ raw (fact 𝓤 Asked) ∷ []) ∵
    move ! (3 ∷ []) $ heard ! Asked (λ asked. keep ! (0 ∷ []) $ split ! $ move ! (1 ∷ []) $ fsplit ! $ fsplit ! $ drop ! $ unhide ! $ fsplit ! $ fpick ! (λ α. fsplit ! $
    begins ! fn (λ i. are.0.0 i ++ []) $ alloc_all ! (λ l. pass_all ! refl ((tt, tt), tt) $ let Ev = env fn.locals l in
    -- [before α; the word; its fields; nothing; the tokens]
    move ! (4 ∷ []) $ split3 ! $ move ! (3 ∷ 0 ∷ []) $ use2 𝓛 (later (some (In 𝓛 𝓜 𝓡 κ α q))) (goes_in 𝓛 𝓜 𝓡 κ α q) $ await ! tt $ pick ! (λ s. split3 ! $
    -- [half of κ's token; α's token; what is owed for it; T's token; the other tokens; the word; its fields; nothing]
    let out₀ : Ptr → Fml = λ p. fsep (flft α s) (moves.glimpse 𝓛 R LR k h wd.id wd.owning wd.value Q None none p) in let out : Ptr → Fml = λ p. fsep (flft κ (left q)) (out₀ p) in
    first ! $ blocks ! $ sets ! (addr ! (through ! refl (fld ! refl (stop !)))) refl (tt, tt) $ sets ! (agg ! (and_then ! (lit ! tt) (no_more !))) refl seq_cst_good $ move ! (5 ∷ 1 ∷ 7 ∷ []) $
    use3 𝓛 (raw (asks_ptr 𝓛 (block_ptr b (o + 0)) (λ p. p) out₀)) (moves.reads 𝓛 R LR k h wd.id wd.owning wd.value Q None α b (o + 0) s) $ move ! (1 ∷ 5 ∷ 0 ∷ []) $
    use3 𝓛 (raw (𝓣.C _ (vptr b (o + 0) ∷ seq_cst ∷ []) (λ u. mean 𝓛 (calls.found 𝓛 out u)))) (methods.loads 𝓛 𝓜 𝓡 T L κ (left q) b (o + 0) (code.calls-core::atomic::ptr::AtomicPtr::load 𝓡.env wired) out₀) $
    Calls-last ! (fm 𝓛 𝓜 𝓡) (calls.found 𝓛 out) (and_then ! (get ! refl) (and_then ! (get ! refl) (no_more !))) (λ u. calls.finds_either ! out
    (fsplit3 ! $ move ! (2 ∷ []) $ fpick ! (λ e. absurd (moves.not_none asked e)))
    (λ pb po. lands_last ! refl (tt, tt) $ exec ! 𝓣.C 𝓣.Λ Ev (after 1 fn.body) (at_ret Ev Post) $ fsplit3 ! $ move ! (0 ∷ 1 ∷ 3 ∷ []) $ use3 𝓛 (later (‵ (flft κ q))) (comes_back 𝓛 𝓜 𝓡 κ α q s) $ await ! tt $
    -- [κ's token; the view; T's token; the other tokens]
    move ! (1 ∷ []) $ fsplit ! $ drop ! $ fpick ! (λ t. fsplit ! $ move ! (1 ∷ []) $ fpick ! (λ so. drop ! $
    use1 𝓛 (later (‵ (lent_at R (block_ptr pb po) t.0 (h ∷ [])))) (moves.settles 𝓛 R LR k h (block_ptr pb po) t) $ await ! tt $
    let n : (Name R).Denot = record { at = block_ptr pb po; home = h; value = t.0 } in
    sets ! (of_opd ! (get ! refl)) refl (tt, tt) $ sets ! (agg ! (and_then ! (get ! refl) (no_more !))) refl (tt, (tt, tt)) $ name_in R ! pb po h t.0 $
    -- [the name; κ's token; T's token; the other tokens]
    move ! (2 ∷ 3 ∷ []) $ join ! $ move ! (2 ∷ 0 ∷ []) $ join ! $ use0 𝓛 (raw (fact 𝓤 (Told t.0))) (fact_i 𝓤 (Told t.0) (emp 𝓤) (refl, so)) $ nothing ! $ nothing ! $ fjoin ! $
    returns ! (look_at ! 0 refl) $ free_all ! refl $ keep ! (2 ∷ 0 ∷ 3 ∷ 1 ∷ []) $ by ! (leaves 𝓛 En hs c z (alone (vptr pb po)) n (tt, tt) (tt, tt)))))))))))
