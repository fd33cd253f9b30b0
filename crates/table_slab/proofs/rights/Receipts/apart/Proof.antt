-- Receipts that are there at once are of different numbers.
use Rattle.std.proofs.Common.{◌≡◌, List, [], ◌∷◌, refl}
use mir.Syntax.{a_type, named}
use mir.Val.{Val, vunit}
use mir.MapTy.{inst_fn}
use base.Logic.{SProp, emp}
use base.Fml.{Lft, Share, Fml, ftrue, fsep, flft}
use types.Kit.{‵, raw, ◌⊛◌, later, ◌$◌, ◌∵◌, !, qed, by, move, keep, split, split3, join, fsplit, fjoin, use0, use2, await, feq_i}
use types.Run.{of_opd, unit_lit, returns, enter}
use types.ByLocal.{alloc_all, pass_all, free_all, look_at, sets}
use contract.Monad.{fact, fact_i}
use contract.Running.{tables}
use denote.RattleType.{RattleType}
use denote.Ref.{mut_vals, mut_Tells}
use denote.Signature.{plain}
use denote.Param.{param, layouts}
use denote.Triple.Walked.{Stays, walk_of, stay_ref, Goes-ref}
use Rattle.std.proofs.raw_atomic.Walks.{proved, leaves}
use Rattle.table_cell.proofs.Ajar.{lent}
use Rattle.table_slab.specs.Held.{AreDistinct}
use Rattle.table_slab.specs.contracts.rights.Receipts as Receipts
use Rattle.table_slab.proofs.Received.{the_receipts, receipts_distinct, shown_behind}
use Rattle.table_slab.specs.contracts.rights.Receipts.apart as f
use Rattle.table_slab.proofs.rights.Receipts.apart.Statement.{statement}
use Rattle.table_slab.proofs.rights.Receipts.apart.Code as code

pub apart_spec : {M : Type 1} → statement M
apart_spec 𝓤 𝓛 𝓜 𝓡 wired T L =
    let 𝓣 = tables 𝓤 𝓛.H 𝓜 𝓡 𝓡.env in let R : RattleType = param 0 T in let Many : RattleType = Receipts.the_row R in let En = f.ended T in let c = f.clauses T 𝓛 𝓜.mem 𝓡.returns in
    let types = layouts (a_type ∷ []) (T, tt) in let fn = inst_fn types code.function in let slot = plain (λ _. Many) in let hs : Stays En.signature.params En.kept = (stay_ref (0 ∷ []) tt slot, tt) in
    proved 𝓛 En hs c 𝓜 𝓡 (Goes-ref 𝓛 2 0 tt slot, tt) (f.Key.name types) fn (code.unfolded 𝓤 𝓛.H 𝓜 𝓡 wired (T, tt))
    (λ κs. (mut_vals, tt)) (λ κs. (mut_Tells (named 0) κs.0 Many, tt)) (λ κs qs bounds a gh are.
    let y : (walk_of 𝓛 En hs c).Ghost = ((κs, qs, bounds, a, (mut_vals a.0, tt)), gh) in let Post : Val → SProp 𝓤 = (walk_of 𝓛 En hs c).post y in
    let κ : Lft = κs.0 in let q : Share = qs.0 in let rest : Fml = fsep (flft κs.1.0 qs.1.0) ftrue in let m = a.0 in let d : Many.Denot = m.now in
    let Behind : Fml = lent (the_receipts R) κ q m d (mut_vals m) in let Distinct : Type 0 = AreDistinct d.entries in let Same : Type 0 = d ≡ d in
    qed 𝓛 (((‵ (flft κ q) ⊛ ‵ rest) ⊛ ‵ (fsep Behind ftrue)) ∷ raw ((c κs a).requires gh) ∷ []) ∵ split ! $ keep ! (0 ∷ 1 ∷ []) $ split ! $ move ! (2 ∷ 0 ∷ []) $ fsplit ! $
    -- [the `&mut`; nothing; one token; the other]
    move ! (0 ∷ 2 ∷ []) $ enter ! 𝓣.C 𝓣.Λ fn (mut_vals m) Post $ alloc_all ! (λ l. pass_all ! refl ((tt, tt), tt) $
    use2 𝓛 (later (raw (fact 𝓤 Distinct) ⊛ ‵ Behind ⊛ ‵ (flft κ q))) (shown_behind 𝓛 (the_receipts R) κ q m Distinct (receipts_distinct 𝓛 R d.slab d.entries)) $ await ! tt $ split3 ! $
    sets ! (of_opd ! (unit_lit !)) refl (tt, tt) $ returns ! (look_at ! 0 refl) $ free_all ! refl $
    -- [they are of different numbers; the `&mut`; its token; nothing; the other]
    use0 𝓛 (raw (fact 𝓤 Same)) (fact_i 𝓤 Same (emp 𝓤) refl) $ join ! $ feq_i ! (List Val) (vunit ∷ []) (vunit ∷ []) refl $ move ! (2 ∷ 4 ∷ []) $ fjoin ! $ move ! (3 ∷ 4 ∷ []) $ join ! $
    by ! (leaves 𝓛 En hs c y vunit tt (d, tt) (tt, tt))))
