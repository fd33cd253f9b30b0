-- Whoever wants no right can have it.
use Rattle.std.proofs.Common.{◌≡◌, ℕ, List, [], ◌∷◌, refl}
use mir.Syntax.{a_type}
use mir.MapTy.{inst_fn}
use base.Logic.{emp}
use types.Kit.{‵, raw, ◌⊛◌, ◌$◌, ◌∵◌, !, qed, keep, split, join, suffices, use0, use1, done}
use types.Run.{no_more, and_then, returns}
use types.ByLocal.{alloc_all, pass_all, free_all, look_at, get, sets}
use types.Part.{agg}
use contract.Monad.{fact, fact_i}
use contract.Running.{tables}
use denote.RattleType.{RattleType, owns}
use denote.Signature.{types_at}
use denote.Steps.{nothing}
use denote.Param.{param, layouts}
use denote.Triple.Entry.{alive}
use denote.Triple.Walked.{Stays, ends_at}
use Rattle.std.proofs.raw_atomic.Walks.{proved_at}
use Rattle.table_cell.proofs.Walks.{begins}
use Rattle.table_slab.specs.contracts.rights.Rooms as Rooms
use Rattle.table_slab.proofs.Made.{token_val, rooms_made}
use Rattle.table_slab.specs.contracts.rights.Rooms.none as f
use Rattle.table_slab.proofs.rights.Rooms.none.Statement.{statement}
use Rattle.table_slab.proofs.rights.Rooms.none.Code as code

pub none_spec : {M : Type 1} → statement M
none_spec 𝓤 𝓛 𝓜 𝓡 wired T L =
    let Rights : RattleType = Rooms.the_row (param 0 T) in let En = f.ended T in let c = f.clauses T 𝓛 𝓜.mem 𝓡.returns in let no_params : Stays En.signature.params En.kept = tt in
    let 𝓣 = tables 𝓤 𝓛.H 𝓜 𝓡 𝓡.env in let types = layouts (a_type ∷ []) (T, tt) in let fn = inst_fn types code.function in
    proved_at 𝓛 En no_params c 𝓜 𝓡 tt (f.Key.name types) fn (code.unfolded 𝓤 𝓛.H 𝓜 𝓡 wired (T, tt)) (λ y are.
    let no_names : List ℕ = [] in let rights : Rights.Denot = record { marker = record {}; names = no_names } in let Empty = no_names ≡ no_names in
    qed 𝓛 ((raw (alive 𝓛 En.signature y.0.0 y.0.1) ⊛ ‵ (owns (types_at En.signature.params y.0.0) y.0.3 y.0.4)) ∷ raw ((c y.0.0 y.0.3).requires y.1) ∷ []) ∵
    split ! $ keep ! (0 ∷ []) $ begins ! fn refl $ alloc_all ! (λ l. pass_all ! refl tt $
    sets ! (agg ! (no_more !)) refl (tt, tt) $
    sets ! (agg ! (and_then ! (get ! refl) (no_more !))) refl (tt, (tt, tt)) $ returns ! (look_at ! 0 refl) $ free_all ! refl $
    suffices ! _ (ends_at 𝓛 En no_params c y token_val rights tt tt) $ use0 𝓛 (raw (fact 𝓤 Empty)) (fact_i 𝓤 Empty (emp 𝓤) refl) $
    -- [nothing of parameters; the rights; what is said of them; the tokens]
    nothing ! $ use1 𝓛 (‵ (Rights.own_val rights (token_val ∷ []))) (rooms_made 𝓛 (param 0 T) no_names) $ nothing ! $ join ! $ keep ! (2 ∷ 0 ∷ 1 ∷ []) $ join ! $ join ! $ done !))
