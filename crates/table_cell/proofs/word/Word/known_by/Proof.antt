-- `known_by` gives the word what the note knows of it.
use Rattle.std.proofs.Common.{◌≡◌, ℕ, Option, Some, None, List, [], ◌∷◌, ◌++◌, refl, sym, subst}
use mir.Syntax.{a_type, dcons, dnil}
use mir.Val.{Val}
use mir.MapTy.{inst_fn}
use base.Logic.{SProp, emp}
use base.Fml.{ftrue, fsep, flft}
use types.Kit.{‵, raw, ◌⊛◌, given, ◌$◌, ◌∵◌, !, qed, by, move, keep, drop, split, join, fsplit, fsplit3, fjoin, fpick, fpack, learn, use0, use2, rewrite}
use types.Run.{of_opd, returns}
use types.ByLocal.{alloc_all, pass_all, free_all, look_at, get, sets}
use contract.Monad.{fact, fact_i}
use contract.BorrowLft.{◌⊑◌}
use contract.Running.{tables}
use denote.Exit.{no}
use denote.RattleType.{RattleType, owns}
use denote.Laws.{Typed}
use denote.Signature.{types_at, plain}
use denote.RawPtr.{Ptr}
use denote.Steps.{nothing, heard}
use denote.Param.{param, bounded}
use denote.Param.Laws.{param_laws}
use denote.Triple.Walked.{Stays, stay_dropped, walk_of, Goes-dropped}
use Rattle.std.specs.Prelude.{IsSome, IfSome}
use Rattle.std.specs.Sync.Atomic.Pointer.{atomic_ptr_holding}
use Rattle.core.specs.contracts.atomic.ptr.AtomicPtr as atomic
use Rattle.core.proofs.alloc.Calls.{Goes-blank}
use Rattle.core.proofs.atomic.ptr.AtomicPtr.TheLaws as atomic_laws
use Rattle.table_cell.proofs.Walks.{begins}
use Rattle.std.proofs.raw_atomic.Walks.{proved_at, leaves}
use Rattle.table_cell.specs.Notes.{learnt}
use Rattle.table_cell.specs.Words.{Shows, kept}
use Rattle.table_cell.specs.contracts.word.Word as word
use Rattle.table_cell.specs.contracts.word.Word.TheInside as inside
use Rattle.table_cell.proofs.Moves as moves
use Rattle.table_cell.proofs.Notes.{Note}
use Rattle.table_cell.proofs.Tokens.{token, beside_marker}
use Rattle.table_cell.proofs.Values.{marked, word_in, word_out}
use Rattle.table_cell.specs.contracts.word.Word.known_by.{ended, clauses}
use Rattle.table_cell.specs.contracts.word.Word.known_by.Key.{name as #self}
use Rattle.table_cell.proofs.word.Word.known_by.Statement.{statement}
use Rattle.table_cell.proofs.word.Word.known_by.Code as code

the_known : {X : Type 0} (k : Option X) → IsSome k → (x : X) × (k ≡ Some x)
the_known {X} None some = absurd (moves.not_none {X = X} {v = None} some refl)
the_known (Some x) some = (x, refl)

pub known_by_spec : {M : Type 1} → statement M
known_by_spec 𝓤 𝓛 𝓜 𝓡 wired T A L LA f fd g d dd homed alloc glued =
    let H = 𝓛.H in let 𝓣 = tables 𝓤 H 𝓜 𝓡 𝓡.env in let R : RattleType = param 0 T in let LR = param_laws 0 T L in let Y : RattleType = param 1 A in let En = ended T A f fd g d dd in let c = clauses T A f fd g d dd 𝓛 𝓜.mem 𝓡.returns in
    let inst = bounded (a_type ∷ a_type ∷ []) (T, (A, tt)) (dcons fd (dcons d (dcons dd dnil))) in let fn = inst_fn inst code.function in let P : RattleType = atomic.the_row R in let LP = atomic_laws.the_row_laws R LR in
    let W : RattleType = word.the_row R Y f g in let hs : Stays En.signature.params En.kept = (stay_dropped (plain (λ _. W)) no, (stay_dropped (plain (λ _. Note R)) no, tt)) in
    proved_at 𝓛 En hs c 𝓜 𝓡 (Goes-dropped 𝓛 2 (plain (λ _. W)) no (λ κs x f. refl), (Goes-blank 𝓛 2 (plain (λ _. Note R)) no (λ κs x f. tt), tt)) (#self inst) fn (code.unfolded 𝓤 H 𝓜 𝓡 wired (T, (A, tt)) fd d dd) (λ z are.
    let κs = z.0.0 in let qs = z.0.1 in let Post : Val → SProp 𝓤 = (walk_of 𝓛 En hs c).post z in
    let wd = z.0.3.0 in let h = wd.home in let k = g.dealloc_token wd.from in let n = z.0.3.1.0 in let κT = κs.0 in let κA = κs.1.0 in let tokens = ‵ (flft κT qs.0) ⊛ ‵ (flft κA qs.1.0) ⊛ ‵ ftrue in
    let Asked : Type 0 = (n.of ≡ wd.id) × (wd.value ≡ None) × IsSome n.known in let Q : R.Denot → Type 0 = Shows f.fits wd in
    qed 𝓛 ((tokens ⊛ ‵ (owns (types_at En.signature.params κs) z.0.3 z.0.4)) ∷ raw (fact 𝓤 (κT ⊑ T.lives)) ∷ raw (fact 𝓤 (κA ⊑ A.lives)) ∷ raw (fact 𝓤 Asked) ∷ []) ∵
    move ! (3 ∷ []) $ heard ! Asked (λ asked. keep ! (0 ∷ []) $ split ! $ move ! (1 ∷ []) $ fsplit3 ! $
    let known = the_known n.known asked.2 in let x : R.Denot = known.0 in let v : Option R.Denot = Some x in let r : W.Denot = record { from = wd.from; home = h; id = wd.id; owning = wd.owning; value = v } in
    let Same : Type 0 = (wd.from ≡ wd.from) × (h ≡ h) × (wd.owning ≡ wd.owning) in let Value : Type 0 = (v ≡ n.known) × IfSome n.known (λ u. f.fits u h) in
    -- [the word; the note; nothing; the tokens]
    move ! (1 ∷ []) $ beside_marker ! z.0.4.1.0 (λ es. rewrite ! 0 (λ (i : ℕ). ‵ (learnt R i n.known)) asked.0 refl $ rewrite ! 0 (λ (u : Option R.Denot). ‵ (learnt R wd.id u)) known.1 refl $
    move ! (1 ∷ []) $ fsplit ! $ fpick ! (λ laid. drop ! $ fpick ! (λ p. fsplit ! $ word_out P Y (atomic_ptr_holding p) ! refl (LP.lawful 𝓛) z.0.4.0 (λ u gu ws.
    let w : Val = marked u in let typed : Typed W.mir (w ∷ []) = subst (Typed W.mir) ws laid in let args : List Val = w ∷ token ∷ [] in
    -- [the pointer; beside it; what the note knows; nothing; the tokens]
    move ! (1 ∷ 2 ∷ []) $ use2 𝓛 (given (Q x) (‵ (kept R k h r.id r.owning v (Shows f.fits r) p))) (moves.remembers 𝓛 R LR k h wd.id wd.owning wd.value Q p x r.id (Shows f.fits r) asked.1 (λ y fits is. (is, fits.1))) $ learn ! (λ so.
    begins ! fn (λ i. ws i ++ (es i ++ [])) $ alloc_all ! (λ l. pass_all ! refl (typed.0, ((tt, (tt, tt)), tt)) $ sets ! (of_opd ! (get ! refl)) refl typed.0 $
    move ! (1 ∷ []) $ word_in P Y (atomic_ptr_holding p) ! u $ fjoin ! $
    fpack ! Ptr (λ a. fsep ((inside.the_row R Y f g).own_val (record { inner = atomic_ptr_holding a; marker = record {} }) (w ∷ [])) (kept R k h r.id r.owning v (Shows f.fits r) a)) p $
    nothing ! $ fpack ! (Typed W.mir (w ∷ [])) (λ _. ftrue) typed $ fjoin ! $
    -- [the word; nothing; the tokens]
    use0 𝓛 (raw (fact 𝓤 Value)) (fact_i 𝓤 Value (emp 𝓤) (sym known.1, subst (λ (o : Option R.Denot). IfSome o (λ u. f.fits u h)) (sym known.1) so.1)) $ use0 𝓛 (raw (fact 𝓤 Same)) (fact_i 𝓤 Same (emp 𝓤) (refl, refl, refl)) $ join ! $
    nothing ! $ nothing ! $ fjoin ! $ nothing ! $ fjoin ! $
    returns ! (look_at ! 0 refl) $ free_all ! refl $ keep ! (4 ∷ 0 ∷ 2 ∷ 1 ∷ []) $ by ! (leaves 𝓛 En hs c z w r (tt, (tt, tt)) (tt, (tt, tt)))))))))))
