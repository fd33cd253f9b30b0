-- The receipts of no number are had for nothing.
use Rattle.std.proofs.Common.{◌≡◌, ℕ, List, [], ◌∷◌, ◌++◌, refl}
use mir.Syntax.{a_type, dcons, dnil}
use mir.MapTy.{inst_fn}
use base.Logic.{emp}
use types.Kit.{‵, raw, ◌⊛◌, ◌$◌, ◌∵◌, !, qed, by, keep, move, split, fjoin, use0, use1}
use types.Run.{no_more, and_then, returns}
use types.ByLocal.{alloc_all, pass_all, free_all, look_at, get, sets}
use types.Part.{agg}
use contract.Monad.{fact, fact_i}
use contract.Running.{tables}
use denote.Exit.{yes}
use denote.RattleType.{RattleType, owns}
use denote.Signature.{types_at, plain}
use denote.Builtin.{RefOf}
use denote.Steps.{nothing}
use denote.Param.{param, bounded}
use denote.Triple.Entry.{alive}
use denote.Triple.Walked.{Stays, stay_dropped, Goes-dropped}
use Rattle.std.proofs.raw_atomic.Walks.{proved_at, leaves}
use Rattle.table_cell.proofs.Walks.{begins}
use Rattle.table_slab.specs.Slabs.{SlabView}
use Rattle.table_slab.specs.contracts.rights.Receipts as Receipts
use Rattle.table_slab.specs.contracts.slab.Slab as Slab
use Rattle.table_slab.proofs.Made.{token_val}
use Rattle.table_slab.proofs.Received.{receipts_made}
use Rattle.table_slab.specs.contracts.rights.Receipts.none as f
use Rattle.table_slab.proofs.rights.Receipts.none.Statement.{statement}
use Rattle.table_slab.proofs.rights.Receipts.none.Code as code

pub none_spec : {M : Type 1} → statement M
none_spec 𝓤 𝓛 𝓜 𝓡 wired T A L LA cp gl dl ga da gc dc _ _ _ =
    let 𝓣 = tables 𝓤 𝓛.H 𝓜 𝓡 𝓡.env in let R : RattleType = param 0 T in let Many : RattleType = Receipts.the_row R in
    let En = f.ended T A gl dl ga da gc dc in let c = f.clauses T A gl dl ga da gc dc 𝓛 𝓜.mem 𝓡.returns in
    let slab = RefOf (0 ∷ []) tt (plain (λ _. Slab.the_row R (param 1 A) ga)) (λ _. tt) in let dropped : Stays En.signature.params En.kept = (stay_dropped slab yes, tt) in
    let types = bounded (a_type ∷ a_type ∷ []) (T, (A, tt)) (dcons dl (dcons da (dcons dc dnil))) in let fn = inst_fn types code.function in
    proved_at 𝓛 En dropped c 𝓜 𝓡 (Goes-dropped 𝓛 3 slab yes (λ κs x w. refl), tt) (f.Key.name types) fn (code.unfolded 𝓤 𝓛.H 𝓜 𝓡 wired (T, (A, tt)) dl da dc) (λ y are.
    let s : SlabView = y.0.3.0.now in let no_entries : List (ℕ × T.Denot) = [] in let Told : Type 0 = (s ≡ s) × (no_entries ≡ no_entries) in
    let out : Many.Denot = record { marker = record {}; slab = s; entries = no_entries } in
    qed 𝓛 ((raw (alive 𝓛 En.signature y.0.0 y.0.1) ⊛ ‵ (owns (types_at En.signature.params y.0.0) y.0.3 y.0.4)) ∷ raw ((c y.0.0 y.0.3).requires y.1) ∷ []) ∵
    split ! $ keep ! (0 ∷ []) $ begins ! fn (λ i. are.0.0 i ++ []) $ alloc_all ! (λ l. pass_all ! refl ((tt, tt), tt) $
    sets ! (agg ! (no_more !)) refl (tt, tt) $ sets ! (agg ! (and_then ! (get ! refl) (no_more !))) refl (tt, (tt, tt)) $
    returns ! (look_at ! 0 refl) $ free_all ! refl $
    use0 𝓛 (raw (fact 𝓤 Told)) (fact_i 𝓤 Told (emp 𝓤) (refl, refl)) $ nothing ! $ use1 𝓛 (‵ (Many.own_val out (token_val ∷ []))) (receipts_made 𝓛 R s no_entries) $
    -- [the receipts; what is said of them; the tokens]
    nothing ! $ nothing ! $ fjoin ! $ move ! (3 ∷ 0 ∷ 1 ∷ 2 ∷ []) $ by ! (leaves 𝓛 En dropped c y token_val out (tt, tt) (tt, tt))))
