-- `of_name` makes the pointer, and keeps a view of the block.
use Rattle.std.proofs.Common.{◌≡◌, ℕ, false, Some, [], ◌∷◌, ◌++◌, refl}
use mir.Syntax.{a_type, dcons, dnil}
use mir.MapTy.{inst_fn}
use base.Fraction.{full_share}
use base.Logic.{emp}
use base.Fml.{Lft, Share, ftrue, flft}
use types.Kit.{‵, raw, ◌⊛◌, some, later, ◌$◌, ◌∵◌, !, qed, by, move, keep, split, split3, join, fsplit, fjoin, pick, use0, use1, await}
use types.Run.{stop, fld, of_opd, no_more, and_then, returns}
use types.ByLocal.{alloc_all, pass_all, free_all, look_at, get, get_in, sets, lands_as}
use types.Part.{agg, sub, whole}
use contract.Monad.{fact, fact_i}
use contract.BorrowLft.{◌⊑◌}
use denote.Exit.{yes, no}
use denote.RattleType.{RattleType, owns}
use denote.Signature.{types_at, plain}
use denote.Builtin.{RefOf}
use denote.RawPtr.{Ptr, block_ptr}
use denote.Steps.{nothing, heard}
use denote.Param.{param, bounded}
use denote.Param.Laws.{param_laws}
use denote.Triple.Walked.{Stays, stay_dropped, Goes-dropped}
use Rattle.core.proofs.alloc.Calls.{Goes-blank}
use Rattle.table_cell.proofs.Calls.{makes_cell}
use Rattle.table_cell.proofs.Walks.{begins}
use Rattle.std.proofs.raw_atomic.Walks.{proved_at, leaves}
use Rattle.table_cell.specs.Words.{WordView, word_view, Shows, view, kept}
use Rattle.table_cell.proofs.Moves as moves
use Rattle.table_cell.proofs.Values.{marked, Name, name_out, word_good, word_made}
use Rattle.table_cell.specs.contracts.word.Word.of_name.{ended, clauses}
use Rattle.table_cell.specs.contracts.word.Word.of_name.Key.{name as #self}
use Rattle.table_cell.proofs.word.Word.of_name.Statement.{statement}
use Rattle.table_cell.proofs.word.Word.of_name.Code as code
use Rattle.core.proofs.atomic.ptr.AtomicPtr.new.Met.{met}

pub of_name_spec : {M : Type 1} → statement M
of_name_spec 𝓤 𝓛 𝓜 𝓡 wired T A L LA f fd g d dd homed alloc glued =
    let R : RattleType = param 0 T in let LR = param_laws 0 T L in let Y : RattleType = param 1 A in let En = ended T A f fd g d dd in let c = clauses T A f fd g d dd 𝓛 𝓜.mem 𝓡.returns in
    let inst = bounded (a_type ∷ a_type ∷ []) (T, (A, tt)) (dcons fd (dcons d (dcons dd dnil))) in let fn = inst_fn inst code.function in
    let ref = RefOf (0 ∷ []) tt (plain (λ _. Y)) (λ _. tt) in let hs : Stays En.signature.params En.kept = (stay_dropped (plain (λ _. Name R)) no, (stay_dropped ref yes, tt)) in
    proved_at 𝓛 En hs c 𝓜 𝓡 (Goes-blank 𝓛 3 (plain (λ _. Name R)) no (λ κs x f. tt), (Goes-dropped 𝓛 3 ref yes (λ κs x f. refl), tt)) (#self inst) fn (code.unfolded 𝓤 𝓛.H 𝓜 𝓡 wired (T, (A, tt)) fd d dd) (λ z are.
    let κs = z.0.0 in let qs = z.0.1 in let κT : Lft = κs.1.0 in let qT : Share = qs.1.0 in let rest = ‵ (flft κs.1.1.0 qs.1.1.0) ⊛ ‵ ftrue in
    let n = z.0.3.0 in let h = n.home in let x = n.value in let a = z.0.3.1.0.now in let k = g.dealloc_token a in let Asked : Type 0 = f.fits x h in let made : WordView Y.Denot R.Denot = word_view a h false (Some x) in
    qed 𝓛 (((‵ (flft κs.0 qs.0) ⊛ ‵ (flft κT qT) ⊛ rest) ⊛ ‵ (owns (types_at En.signature.params κs) z.0.3 z.0.4)) ∷ raw (fact 𝓤 (κT ⊑ T.lives)) ∷ raw (fact 𝓤 (κs.1.1.0 ⊑ A.lives)) ∷ raw (fact 𝓤 Asked) ∷ []) ∵
    move ! (1 ∷ 3 ∷ []) $ heard ! (κT ⊑ T.lives) (λ within. heard ! Asked (λ asked. keep ! (0 ∷ []) $ split ! $ move ! (1 ∷ []) $ fsplit ! $
    name_out R ! n z.0.4.0 (λ b o e ws. let p : Ptr = block_ptr b o in
    begins ! fn (λ i. ws i ++ (are.1.0.0 i ++ [])) $ alloc_all ! (λ l. pass_all ! refl ((tt, (tt, tt)), ((tt, tt), tt)) $
    sets ! (of_opd ! (get_in ! (fld ! refl (stop !)) (sub ! 0 refl (whole !)))) refl (tt, tt) $
    use1 𝓛 (later (some (λ (ν : ℕ). ‵ (view R h p (x, ν, full_share))))) (moves.renames 𝓛 R LR k h p x) $ await ! tt $ pick ! (λ ν.
    -- [the view; the `&`; the tokens]
    nothing ! $ move ! (1 ∷ 0 ∷ []) $ fjoin ! $ use1 𝓛 (‵ (kept R k h 0 false (Some x) (Shows f.fits made) p)) (moves.keeps 𝓛 R LR k h 0 false (Shows f.fits made) b o x ν (refl, asked)) $
    move ! (2 ∷ []) $ split3 ! $ move ! (1 ∷ []) $
    -- [T's token; κ's token; the other tokens; what is kept; the `&`]
    makes_cell 𝓛 𝓜 𝓡 T L κT qT p Y ! (met 𝓤 𝓛 𝓜 𝓡 (code.calls-core::atomic::ptr::AtomicPtr::new 𝓡.env wired) T L) within (and_then ! (get ! refl) (no_more !)) (λ v good. lands_as ! refl refl good $
    move ! (0 ∷ 4 ∷ []) $ word_made R Y f g ! made p v good $
    sets ! (agg ! (no_more !)) refl (tt, tt) $ sets ! (agg ! (and_then ! (get ! refl) (and_then ! (get ! refl) (no_more !)))) refl (word_good R Y f g v good) $
    -- [the word; T's token; κ's token; the other tokens; the `&`]
    move ! (1 ∷ 3 ∷ []) $ join ! $ move ! (2 ∷ 0 ∷ []) $ join ! $ use0 𝓛 (raw (fact 𝓤 (made ≡ made))) (fact_i 𝓤 (made ≡ made) (emp 𝓤) refl) $ nothing ! $ nothing ! $ fjoin ! $ nothing ! $ fjoin ! $
    returns ! (look_at ! 0 refl) $ free_all ! refl $ keep ! (2 ∷ 0 ∷ 3 ∷ 1 ∷ []) $ by ! (leaves 𝓛 En hs c z (marked v) made (tt, (tt, tt)) (tt, (tt, tt))))))))))
