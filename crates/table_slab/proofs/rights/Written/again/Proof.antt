-- Who has a `&` to it, knows the value too.
use Rattle.std.proofs.Common.{◌≡◌, [], ◌∷◌, ◌++◌, refl}
use mir.Syntax.{a_type}
use mir.MapTy.{inst_fn}
use base.Logic.{emp}
use types.Kit.{‵, raw, ◌⊛◌, ◌$◌, ◌∵◌, !, qed, keep, move, split, join, fsplit, fjoin, suffices, use0, use1, done}
use types.Run.{no_more, and_then, returns}
use types.ByLocal.{alloc_all, pass_all, free_all, look_at, get, sets}
use types.Part.{agg}
use contract.Monad.{fact, fact_i}
use contract.Running.{tables}
use denote.Exit.{yes}
use denote.RattleType.{RattleType, owns}
use denote.Signature.{types_at, plain}
use denote.Builtin.{RefOf}
use denote.Steps.{nothing}
use denote.Param.{param, layouts}
use denote.Triple.Entry.{alive}
use denote.Triple.Walked.{Stays, stay_dropped, Goes-dropped, ends_at}
use Rattle.std.proofs.raw_atomic.Walks.{proved_at}
use Rattle.table_cell.proofs.Walks.{begins}
use Rattle.table_slab.specs.Rights.{written}
use Rattle.table_slab.specs.contracts.rights.Written as Written
use Rattle.table_slab.proofs.Made.{token_val, written_made}
use Rattle.table_slab.proofs.Shown.{written_shown}
use Rattle.table_slab.specs.contracts.rights.Written.again as f
use Rattle.table_slab.proofs.rights.Written.again.Statement.{statement}
use Rattle.table_slab.proofs.rights.Written.again.Code as code

pub again_spec : {M : Type 1} → statement M
again_spec 𝓤 𝓛 𝓜 𝓡 wired T L =
    let Known : RattleType = Written.the_row (param 0 T) in let En = f.ended T in let c = f.clauses T 𝓛 𝓜.mem 𝓡.returns in
    let shown = RefOf (0 ∷ []) tt (plain (λ _. Known)) (λ _. tt) in let dropped : Stays En.signature.params En.kept = (stay_dropped shown yes, tt) in
    let 𝓣 = tables 𝓤 𝓛.H 𝓜 𝓡 𝓡.env in let types = layouts (a_type ∷ []) (T, tt) in let fn = inst_fn types code.function in
    proved_at 𝓛 En dropped c 𝓜 𝓡 (Goes-dropped 𝓛 2 shown yes (λ κs x w. refl), tt) (f.Key.name types) fn (code.unfolded 𝓤 𝓛.H 𝓜 𝓡 wired (T, tt)) (λ y are.
    let ref = y.0.3.0.ref_ptr in let of = y.0.3.0.now.of in let value = y.0.3.0.now.value in
    let copy : Known.Denot = record { marker = record {}; of = of; value = value } in let Same = (of ≡ of) × (value ≡ value) in
    qed 𝓛 ((raw (alive 𝓛 En.signature y.0.0 y.0.1) ⊛ ‵ (owns (types_at En.signature.params y.0.0) y.0.3 y.0.4)) ∷ raw ((c y.0.0 y.0.3).requires y.1) ∷ []) ∵
    -- [what is known; the tokens]
    split ! $ move ! (1 ∷ []) $ fsplit ! $ fsplit ! $ keep ! (1 ∷ 3 ∷ []) $ use1 𝓛 (‵ (written (param 0 T) of value)) (written_shown 𝓛 (param 0 T) y.0.0.0 ref.0 ref.1 y.0.3.0.now) $
    use1 𝓛 (‵ (Known.own_val copy (token_val ∷ []))) (written_made 𝓛 (param 0 T) of value) $
    begins ! fn (λ i. are.0.0 i ++ []) $ alloc_all ! (λ l. pass_all ! refl ((tt, tt), tt) $
    sets ! (agg ! (no_more !)) refl (tt, tt) $
    sets ! (agg ! (and_then ! (get ! refl) (no_more !))) refl (tt, (tt, tt)) $ returns ! (look_at ! 0 refl) $ free_all ! refl $
    suffices ! _ (ends_at 𝓛 En dropped c y token_val copy (tt, tt) (tt, tt)) $ use0 𝓛 (raw (fact 𝓤 Same)) (fact_i 𝓤 Same (emp 𝓤) (refl, refl)) $
    -- [nothing of the `&`; the copy; what is said of it; the tokens]
    move ! (1 ∷ []) $ nothing ! $ nothing ! $ fjoin ! $ join ! $ keep ! (2 ∷ 0 ∷ 1 ∷ []) $ join ! $ join ! $ done !))
