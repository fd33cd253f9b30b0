-- `new` makes a null pointer.
use Rattle.std.proofs.Common.{◌≡◌, Option, None, [], ◌∷◌, ◌++◌, refl}
use mir.Syntax.{a_type, dcons, dnil}
use mir.MapTy.{inst_fn}
use base.Logic.{emp}
use base.Fml.{Lft, Share, ftrue, flft}
use types.Kit.{‵, raw, ◌⊛◌, ◌$◌, ◌∵◌, !, qed, by, move, keep, split, split3, join, fjoin, use0}
use types.Run.{lit, no_more, and_then, returns}
use types.ByLocal.{alloc_all, pass_all, free_all, look_at, get, sets, lands_as}
use types.Part.{agg}
use contract.Monad.{fact, fact_i}
use contract.BorrowLft.{◌⊑◌}
use denote.Exit.{yes}
use denote.RattleType.{RattleType, owns}
use denote.Signature.{types_at, plain}
use denote.Builtin.{RefOf}
use denote.RawPtr.{null_ptr}
use denote.Steps.{nothing, heard}
use denote.Param.{param, bounded}
use denote.Triple.Walked.{Stays, stay_dropped, Goes-dropped}
use Rattle.table_cell.proofs.Walks.{begins}
use Rattle.std.proofs.raw_atomic.Walks.{proved_at, leaves}
use types.Tokens.{name_new}
use denote.Builtin.{unit}
use Rattle.table_cell.specs.Notes.{code as coded}
use Rattle.table_cell.specs.Latest.{LatestView}
use Rattle.table_cell.specs.contracts.home.Home as home
use Rattle.table_cell.proofs.Calls.{makes_cell}
use Rattle.table_cell.proofs.Values.{marked, latest_good, latest_made}
use Rattle.table_cell.specs.contracts.latest.Latest.new.{ended, clauses}
use Rattle.table_cell.specs.contracts.latest.Latest.new.Key.{name as #self}
use Rattle.table_cell.proofs.latest.Latest.new.Statement.{statement}
use Rattle.table_cell.proofs.latest.Latest.new.Code as code
use Rattle.core.proofs.atomic.ptr.AtomicPtr.new.Met.{met}

pub new_spec : {M : Type 1} → statement M
new_spec 𝓤 𝓛 𝓜 𝓡 wired T A L LA f fd g d dd homed alloc glued =
    let R : RattleType = param 0 T in let Y : RattleType = param 1 A in let En = ended T A f fd g d dd in let c = clauses T A f fd g d dd 𝓛 𝓜.mem 𝓡.returns in
    let inst = bounded (a_type ∷ a_type ∷ []) (T, (A, tt)) (dcons fd (dcons d (dcons dd dnil))) in let fn = inst_fn inst code.function in
    let ref = RefOf (0 ∷ []) tt (plain (λ _. Y)) (λ _. tt) in let at_home = RefOf (1 ∷ []) tt (plain (λ _. home.the_row)) (λ _. tt) in let hs : Stays En.signature.params En.kept = (stay_dropped ref yes, (stay_dropped at_home yes, tt)) in
    proved_at 𝓛 En hs c 𝓜 𝓡 (Goes-dropped 𝓛 4 ref yes (λ κs x f. refl), (Goes-dropped 𝓛 4 at_home yes (λ κs x f. refl), tt)) (#self inst) fn (code.unfolded 𝓤 𝓛.H 𝓜 𝓡 wired (T, (A, tt)) fd d dd) (λ z are.
    let κs = z.0.0 in let qs = z.0.1 in let h = z.0.3.1.0.now.id in let unknown : Option unit.Denot = None in
    let κT : Lft = κs.1.1.0 in let qT : Share = qs.1.1.0 in let rest = ‵ (flft κs.1.1.1.0 qs.1.1.1.0) ⊛ ‵ ftrue in
    qed 𝓛 (((‵ (flft κs.0 qs.0) ⊛ ‵ (flft κs.1.0 qs.1.0) ⊛ ‵ (flft κT qT) ⊛ rest) ⊛ ‵ (owns (types_at En.signature.params κs) z.0.3 z.0.4)) ∷ raw (fact 𝓤 (κT ⊑ T.lives)) ∷ raw (fact 𝓤 (κs.1.1.1.0 ⊑ A.lives)) ∷ ‵ ftrue ∷ []) ∵
    move ! (1 ∷ []) $ heard ! (κT ⊑ T.lives) (λ within. keep ! (0 ∷ []) $ split ! $ split3 ! $ move ! (2 ∷ []) $ split ! $ keep ! (0 ∷ 1 ∷ 2 ∷ 3 ∷ []) $
    begins ! fn (λ i. are.0.0 i ++ (are.1.0.0 i ++ [])) $ alloc_all ! (λ l. pass_all ! refl ((tt, tt), ((tt, tt), tt)) $
    -- [T's token; the other tokens; two tokens]
    makes_cell 𝓛 𝓜 𝓡 T L κT qT null_ptr Y ! (met 𝓤 𝓛 𝓜 𝓡 (code.calls-core::atomic::ptr::AtomicPtr::new 𝓡.env wired) T L) within (and_then ! (lit ! tt) (no_more !)) (λ v good. lands_as ! refl refl good $
    name_new ! tt (coded unit unknown) (λ i. let made : LatestView = record { home = h; id = i } in
    fjoin ! $ move ! (1 ∷ 0 ∷ []) $ latest_made R Y f g ! made null_ptr v good $
    sets ! (agg ! (no_more !)) refl (tt, tt) $ sets ! (agg ! (and_then ! (get ! refl) (and_then ! (get ! refl) (no_more !)))) refl (latest_good R Y f g v good) $
    -- [the latest word; T's token; the other tokens; two tokens]
    let Told : Type 0 = h ≡ h in
    move ! (1 ∷ 2 ∷ []) $ join ! $ move ! (3 ∷ 0 ∷ []) $ join ! $ move ! (2 ∷ 0 ∷ []) $ join ! $ use0 𝓛 (raw (fact 𝓤 Told)) (fact_i 𝓤 Told (emp 𝓤) refl) $ nothing ! $ nothing ! $ fjoin ! $ nothing ! $ fjoin ! $
    returns ! (look_at ! 0 refl) $ free_all ! refl $ keep ! (2 ∷ 0 ∷ 3 ∷ 1 ∷ []) $ by ! (leaves 𝓛 En hs c z (marked v) made (tt, (tt, tt)) (tt, (tt, tt))))))))
