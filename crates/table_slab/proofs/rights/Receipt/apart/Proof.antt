-- Two receipts that are there at once are of different numbers.
use Rattle.std.proofs.Common.{◌≡◌, List, [], ◌∷◌, ◌++◌, refl, sym, subst}
use mir.Syntax.{a_type}
use mir.Val.{Val, vptr, vunit}
use mir.MapTy.{inst_fn}
use base.Logic.{SProp, ent, emp, id⊢}
use base.Fml.{Lft, Share, Fml, ftrue, fsep, flft}
use prog.Wp.{WpFn}
use types.Kit.{split3, ‵, raw, ◌⊛◌, later, ◌$◌, ◌∵◌, !, qed, by, move, keep, split, join, fsplit3, fjoin, suffices, use0, use2, await, feq_i, rewrite}
use types.Run.{of_opd, unit_lit, returns, enter}
use types.ByLocal.{alloc_all, pass_all, free_all, look_at, sets}
use contract.Monad.{fact, fact_i}
use contract.Running.{tables}
use denote.RattleType.{RattleType, owns}
use denote.Signature.{types_at, plain}
use denote.Steps.{heard}
use denote.Param.{param, layouts}
use denote.Triple.Walked.{Stays, walk_of, stay_ref, Goes-ref}
use Rattle.std.proofs.raw_atomic.Walks.{proved_at, leaves}
use Rattle.table_cell.proofs.Ajar as behind
use Rattle.table_slab.specs.Slabs.{SlabView}
use Rattle.table_slab.specs.Spent.{spent}
use Rattle.table_slab.specs.contracts.rights.Receipt as Receipt
use Rattle.table_slab.proofs.Received.{the_receipt, apart_numbers}
use Rattle.table_slab.specs.contracts.rights.Receipt.apart.{ended, clauses}
use Rattle.table_slab.specs.contracts.rights.Receipt.apart.Key.{name as #self}
use Rattle.table_slab.proofs.rights.Receipt.apart.Statement.{statement}
use Rattle.table_slab.proofs.rights.Receipt.apart.Code as code

pub apart_spec : {M : Type 1} → statement M
apart_spec 𝓤 𝓛 𝓜 𝓡 wired T L =
    let H = 𝓛.H in let 𝓣 = tables 𝓤 H 𝓜 𝓡 𝓡.env in let R : RattleType = param 0 T in let En = ended T in let c = clauses T 𝓛 𝓜.mem 𝓡.returns in
    let inst = layouts (a_type ∷ []) (T, tt) in let fn = inst_fn inst code.function in let a_receipt = plain (λ _. Receipt.the_row R) in
    let hs : Stays En.signature.params En.kept = (stay_ref (0 ∷ []) tt a_receipt, (stay_ref (1 ∷ []) tt a_receipt, tt)) in
    proved_at 𝓛 En hs c 𝓜 𝓡 (Goes-ref 𝓛 3 0 tt a_receipt, (Goes-ref 𝓛 3 1 tt a_receipt, tt)) (#self inst) fn (code.unfolded 𝓤 H 𝓜 𝓡 wired (T, tt)) (λ z are.
    let κs = z.0.0 in let qs = z.0.1 in let Post : Val → SProp 𝓤 = (walk_of 𝓛 En hs c).post z in let Run : List Val → SProp 𝓤 = λ ws. WpFn 𝓤 H 𝓣.C 𝓣.Λ fn ws Post in
    let κ : Lft = κs.0 in let q : Share = qs.0 in let κ' : Lft = κs.1.0 in let q' : Share = qs.1.0 in let rest : Fml = fsep (flft κs.1.1.0 qs.1.1.0) ftrue in
    let m = z.0.3.0 in let m' = z.0.3.1.0 in let d = m.now in let e = m'.now in let at : List Val = z.0.4.0 in let at' : List Val = z.0.4.1.0 in let mark = the_receipt R in
    let lent : Fml = behind.lent mark κ q m d at in let lent' : Fml = behind.lent mark κ' q' m' e at' in let ajar : Fml = behind.ajar mark κ q m in let ajar' : Fml = behind.ajar mark κ' q' m' in
    let own : Fml = spent R d.slab d.number d.value in let own' : Fml = spent R e.slab e.number e.value in let moved : Fml = spent R d.slab e.number e.value in
    let One : Type 0 = d.slab ≡ e.slab in let Apart : Type 0 = d.number ≡ e.number → ⊥ in let Same : Type 0 = (d ≡ d) × (e ≡ e) in
    let p : Val = vptr m.ref_ptr.0 m.ref_ptr.1 in let p' : Val = vptr m'.ref_ptr.0 m'.ref_ptr.1 in let Vs : List Val = p ∷ p' ∷ [] in
    qed 𝓛 (((‵ (flft κ q) ⊛ ‵ (flft κ' q') ⊛ ‵ rest) ⊛ ‵ (owns (types_at En.signature.params κs) z.0.3 z.0.4)) ∷ raw (fact 𝓤 _) ∷ raw (fact 𝓤 One) ∷ []) ∵
    move ! (2 ∷ 0 ∷ []) $ heard ! One (λ one. split ! $ keep ! (1 ∷ 0 ∷ []) $ fsplit3 ! $ move ! (3 ∷ []) $ split3 ! $
    -- [one's token; the other's token; the rest; one; the other; nothing]
    suffices ! (Run Vs) (subst (λ (us : List Val). ent 𝓤 (Run Vs) (Run us)) (sym (λ i. are.0.0 i ++ (are.1.0.0 i ++ []))) (id⊢ 𝓤 (Run Vs))) $
    enter ! 𝓣.C 𝓣.Λ fn Vs Post $ alloc_all ! (λ l. pass_all ! refl ((tt, tt), ((tt, tt), tt)) $
    move ! (3 ∷ 0 ∷ []) $ use2 𝓛 (later (‵ own ⊛ ‵ ajar)) (behind.opens_up mark κ q m 𝓛 at) $ await ! tt $ split ! $
    -- [the receipt; what is ajar; the other's token; the rest; the other; nothing]
    move ! (4 ∷ 2 ∷ []) $ use2 𝓛 (later (‵ own' ⊛ ‵ ajar')) (behind.opens_up mark κ' q' m' 𝓛 at') $ await ! tt $ split ! $
    -- [the other receipt; what is ajar; the receipt; what is ajar; the rest; nothing]
    rewrite ! 0 (λ (s : SlabView). ‵ (spent R s e.number e.value)) (sym one) refl $
    move ! (2 ∷ 0 ∷ []) $ use2 𝓛 (‵ own ⊛ ‵ moved ⊛ raw (fact 𝓤 Apart)) (apart_numbers 𝓛 R d.slab d.number e.number d.value e.value) $ split3 ! $
    rewrite ! 1 (λ (s : SlabView). ‵ (spent R s e.number e.value)) one refl $
    -- [the receipt; the other receipt; they are apart; the other's ajar; one's ajar; the rest; nothing]
    move ! (0 ∷ 4 ∷ []) $ use2 𝓛 (later (‵ lent ⊛ ‵ (flft κ q))) (behind.shuts mark κ q m 𝓛 at d are.0.0) $ await ! tt $ split ! $
    move ! (2 ∷ 4 ∷ []) $ use2 𝓛 (later (‵ lent' ⊛ ‵ (flft κ' q'))) (behind.shuts mark κ' q' m' 𝓛 at' e are.1.0.0) $ await ! tt $ split ! $
    -- [the other; its token; one; its token; they are apart; the rest; nothing]
    move ! (1 ∷ 5 ∷ []) $ join ! $ move ! (3 ∷ 0 ∷ []) $ join ! $ move ! (1 ∷ 4 ∷ []) $ fjoin ! $ move ! (2 ∷ 0 ∷ []) $ fjoin ! $
    -- [both; the tokens; they are apart]
    use0 𝓛 (raw (fact 𝓤 Same)) (fact_i 𝓤 Same (emp 𝓤) (refl, refl)) $ move ! (0 ∷ 3 ∷ []) $ join ! $
    sets ! (of_opd ! (unit_lit !)) refl (tt, tt) $ feq_i ! (List Val) (vunit ∷ []) (vunit ∷ []) refl $
    returns ! (look_at ! 0 refl) $ free_all ! refl $ keep ! (3 ∷ 2 ∷ 0 ∷ 1 ∷ []) $ by ! (leaves 𝓛 En hs c z vunit tt (d, (e, tt)) (tt, (tt, tt))))))
