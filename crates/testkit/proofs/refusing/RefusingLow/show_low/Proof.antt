-- The allocator below answers whether a block may be compared with null.
use Rattle.std.proofs.Common.{[], ◌∷◌, ◌++◌, refl}
use base.Logic.{SProp}
use base.Fml.{Lft, Share, ftrue, flft}
use mir.Syntax.{Ty, a_type, dcons, dnil}
use mir.Val.{Val, vunit}
use mir.MapTy.{inst_fn}
use types.Kit.{‵, raw, ◌⊛◌, at_ret, ◌$◌, ◌∵◌, !, qed, by, drop, keep, move, split, fsplit, fjoin, feq_i, feq_l}
use types.Run.{of_opd, unit_lit, no_more, and_then, first, blocks, exec, returns}
use types.ByLocal.{alloc_all, pass_all, free_all, look_at, get, sets, lands_last, env}
use contract.Monad.{fact}
use contract.BorrowLft.{◌⊑◌}
use contract.Running.{tables}
use denote.Exit.{yes}
use denote.Param.{bounded}
use denote.RattleType.{owns}
use denote.RawPtr.{Ptr, RawPtr}
use denote.Signature.{plain, types_at}
use denote.Steps.{nothing, heard}
use denote.Triple.Walked.{Stays, walk_of, stay_dropped, Goes-dropped}
use Rattle.core.proofs.alloc.Shapes.{after}
use Rattle.core.proofs.atomic.Steps.{Ptr-Good}
use Rattle.std.proofs.raw_atomic.Walks.{proved_at, leaves}
use Rattle.table_cell.proofs.Calls.{asks_low}
use Rattle.table_cell.proofs.Walks.{begins}
use Rattle.testkit.specs.contracts.refusing.RefusingLow.show_low as f
use Rattle.testkit.proofs.refusing.RefusingLow.show_low.Statement.{statement}
use Rattle.testkit.proofs.refusing.RefusingLow.show_low.Code as code

pub show_low_spec : {M : Type 1} → statement M
show_low_spec 𝓤 𝓛 𝓜 𝓡 wired B L gl dl g d dd shows_low met glued =
    let 𝓣 = tables 𝓤 𝓛.H 𝓜 𝓡 𝓡.env in let En = f.ended B gl dl g d dd in let c = f.clauses B gl dl g d dd 𝓛 𝓜.mem 𝓡.returns in
    let inst = bounded (a_type ∷ []) (B, tt) (dcons dl (dcons d (dcons dd dnil))) in let fn = inst_fn inst code.function in
    let at = plain (λ _. RawPtr) in let stayed : Stays En.signature.params En.kept = (stay_dropped at yes, tt) in
    proved_at 𝓛 En stayed c 𝓜 𝓡 (Goes-dropped 𝓛 1 at yes (λ κs x w. refl), tt) (f.Key.name inst) fn (code.unfolded 𝓤 𝓛.H 𝓜 𝓡 wired (B, tt) dl d dd) (λ y are.
    let κ : Lft = y.0.0.0 in let q : Share = y.0.1.0 in let p : Ptr = y.0.3.0 in let a = y.1.0.inner in let τ : Ty = y.1.1 in let Post : Val → SProp 𝓤 = (walk_of 𝓛 En stayed c).post y in
    qed 𝓛 (((‵ (flft κ q) ⊛ ‵ ftrue) ⊛ ‵ (owns (types_at En.signature.params y.0.0) y.0.3 y.0.4)) ∷ raw (fact 𝓤 (κ ⊑ B.lives)) ∷ ‵ (g.dealloc_token a τ p) ∷ []) ∵
    move ! (1 ∷ []) $ heard ! (κ ⊑ B.lives) (λ within. split ! $ move ! (1 ∷ []) $ fsplit ! $ feq_l ! (λ is. drop ! $
    -- [B's token; the right to free the block]
    begins ! fn (λ i. is i ++ []) $ alloc_all ! (λ l. pass_all ! refl (Ptr-Good p, tt) $ let Ev = env fn.locals l in first ! $ blocks ! $
    asks_low 𝓛 𝓜 𝓡 B gl dl g d dd κ q p a τ ! (shows_low.show_low dd) within (and_then ! (get ! refl) (no_more !)) $
    lands_last ! refl (tt, tt) $ exec ! 𝓣.C 𝓣.Λ Ev (after 1 fn.body) (at_ret Ev Post) $ sets ! (of_opd ! (unit_lit !)) refl (tt, tt) $ returns ! (look_at ! 0 refl) $ free_all ! refl $
    fjoin ! $ feq_i ! _ (vunit ∷ []) _ refl $ nothing ! $ nothing ! $ fjoin ! $ move ! (3 ∷ []) $ keep ! (0 ∷ 1 ∷ 2 ∷ 3 ∷ []) $ by ! (leaves 𝓛 En stayed c y vunit tt (tt, tt) (tt, tt))))))
