-- `get` reads the block, which is lent as long as the home.
use Rattle.std.proofs.Common.{◌≡◌, ℕ, List, [], ◌∷◌, ◌++◌, refl}
use mir.Syntax.{a_type, named as lifetime}
use mir.Val.{Val, vptr}
use mir.MapTy.{inst_fn}
use base.Logic.{SProp, emp}
use base.Fml.{Lft, ftrue, flft}
use base.Before.{before}
use types.Kit.{‵, raw, ◌⊛◌, at_ret, ◌$◌, ◌∵◌, !, qed, by, move, keep, drop, split, fsplit, fjoin, use0, use2, rewrite, feq_i}
use types.Run.{stop, fld, addr, of_opd, first, blocks, exec, returns}
use types.ByLocal.{alloc_all, pass_all, free_all, look_at, get, get_in, through, sets, sets_last, env}
use types.Part.{sub, whole}
use contract.Monad.{fact, fact_i}
use contract.BorrowLft.{◌⊑◌}
use contract.Running.{tables}
use denote.Exit.{yes, no}
use denote.RattleType.{RattleType, owns}
use denote.Signature.{types_at, plain}
use denote.Builtin.{RefOf}
use denote.Ref.{ShrRef}
use denote.Bor.{Bor}
use denote.Opens.{unhide, hide}
use denote.Steps.{nothing, heard}
use denote.Param.{param, layouts}
use denote.Param.Laws.{param_laws}
use denote.Struct.Lending.{lent_at}
use denote.RawPtr.{block_ptr}
use denote.Triple.Walked.{Stays, stay_dropped, walk_of, Goes-dropped}
use Rattle.core.proofs.alloc.Calls.{Goes-blank}
use Rattle.core.proofs.alloc.Shapes.{after}
use Rattle.table_cell.proofs.Walks.{begins}
use Rattle.std.proofs.raw_atomic.Walks.{proved_at, leaves}
use Rattle.table_cell.proofs.Moves as moves
use Rattle.table_cell.proofs.Values.{Name, name_out}
use Rattle.table_cell.specs.contracts.home.Home as home
use Rattle.table_cell.specs.contracts.name.Name.get.{ended, clauses}
use Rattle.table_cell.specs.contracts.name.Name.get.Key.{name as #self}
use Rattle.table_cell.proofs.name.Name.get.Statement.{statement}
use Rattle.table_cell.proofs.name.Name.get.Code as code

pub get_spec : {M : Type 1} → statement M
get_spec 𝓤 𝓛 𝓜 𝓡 wired T L =
    let En = ended T in let c = clauses T 𝓛 𝓜.mem 𝓡.returns in let 𝓣 = tables 𝓤 𝓛.H 𝓜 𝓡 𝓡.env in let R : RattleType = param 0 T in
    let inst = layouts (a_type ∷ []) (T, tt) in let fn = inst_fn inst code.function in let P : RattleType = Name R in
    let ref = RefOf (0 ∷ []) tt (plain (λ _. home.the_row)) (λ _. tt) in let hs : Stays En.signature.params En.kept = (stay_dropped (plain (λ _. P)) no, (stay_dropped ref yes, tt)) in
    proved_at 𝓛 En hs c 𝓜 𝓡 (Goes-blank 𝓛 2 (plain (λ _. P)) no (λ κs x f. tt), (Goes-dropped 𝓛 2 ref yes (λ κs x f. refl), tt)) (#self inst) fn (code.unfolded 𝓤 𝓛.H 𝓜 𝓡 wired (T, tt)) (λ z are.
    let κs = z.0.0 in let qs = z.0.1 in let Post : Val → SProp 𝓤 = (walk_of 𝓛 En hs c).post z in
    let d = z.0.3.0 in let κ : Lft = κs.0 in let hb = z.0.3.1.0.ref_ptr.0 in let ho = z.0.3.1.0.ref_ptr.1 in let Ref : RattleType = ShrRef (lifetime 0) κ R in
    let Same : Type 0 = d.value ≡ d.value in let Asked : Type 0 = z.0.3.1.0.now.id ≡ d.home in
    qed 𝓛 (((‵ (flft κ qs.0) ⊛ ‵ (flft κs.1.0 qs.1.0) ⊛ ‵ ftrue) ⊛ ‵ (owns (types_at En.signature.params κs) z.0.3 z.0.4)) ∷ raw (fact 𝓤 (κs.1.0 ⊑ T.lives)) ∷ raw (fact 𝓤 Asked) ∷ []) ∵
    move ! (2 ∷ 0 ∷ []) $ heard ! Asked (λ same. split ! $ move ! (1 ∷ []) $ fsplit ! $ move ! (1 ∷ []) $ fsplit ! $ fsplit ! $ drop ! $ unhide ! $ fsplit ! $ drop ! $
    rewrite ! 0 (λ (i : ℕ). ‵ (before κ (i ∷ []))) same refl $ move ! (2 ∷ []) $
    name_out R ! d z.0.4.0 (λ b o e ws.
    -- [the value; before; nothing; the tokens]
    move ! (1 ∷ 0 ∷ 3 ∷ []) $ use2 𝓛 (‵ (lent_at R (block_ptr b o) d.value κ)) (moves.lasts 𝓛 R (param_laws 0 T L) (λ _ _. ftrue) d.home κ (block_ptr b o) d.value) $
    begins ! fn (λ i. ws i ++ (are.1.0.0 i ++ [])) $ alloc_all ! (λ l. pass_all ! refl ((tt, (tt, tt)), ((tt, tt), tt)) $ let Ev = env fn.locals l in let u : Val = vptr b o in let r : Bor T.Denot = record { ref_ptr = (b, o); now = d.value } in
    sets ! (of_opd ! (get_in ! (fld ! refl (stop !)) (sub ! 0 refl (whole !)))) refl (tt, tt) $ first ! $ blocks ! $ sets_last ! (addr ! (through ! refl (stop !))) refl (tt, tt) $
    exec ! 𝓣.C 𝓣.Λ Ev (after 2 fn.body) (at_ret Ev Post) $ sets ! (of_opd ! (get ! refl)) refl (tt, tt) $
    fsplit ! $ drop ! $ hide ! $ feq_i ! (List Val) (u ∷ []) (u ∷ []) refl $ fjoin ! $
    use0 𝓛 (raw (fact 𝓤 Same)) (fact_i 𝓤 Same (emp 𝓤) refl) $ nothing ! $ nothing ! $ fjoin ! $ nothing ! $ fjoin ! $
    returns ! (look_at ! 0 refl) $ free_all ! refl $ keep ! (3 ∷ 0 ∷ 2 ∷ 1 ∷ []) $ by ! (leaves 𝓛 En hs c z u r (tt, (tt, tt)) (tt, (tt, tt)))))))
