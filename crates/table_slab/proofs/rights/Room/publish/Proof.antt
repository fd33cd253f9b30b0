-- Who gives the right up shows the value, and no one has the right any more.
use Rattle.std.proofs.Common.{◌≡◌, ℕ, [], ◌∷◌, ◌++◌, refl}
use mir.Syntax.{a_type}
use mir.MapTy.{inst_fn}
use base.Logic.{emp}
use types.Kit.{‵, raw, ◌⊛◌, ◌$◌, ◌∵◌, !, qed, keep, move, split, join, fsplit, fjoin, suffices, use0, use1, rewrite, done}
use types.Run.{no_more, and_then, returns}
use types.ByLocal.{alloc_all, pass_all, free_all, look_at, get, sets}
use types.Part.{agg}
use contract.Monad.{fact, fact_i}
use contract.Running.{tables}
use denote.Exit.{no}
use denote.RattleType.{RattleType, owns}
use denote.Signature.{types_at, plain}
use denote.Steps.{nothing, heard}
use denote.Param.{param, layouts}
use denote.Triple.Entry.{alive}
use denote.Triple.Walked.{Stays, stay_dropped, Goes-dropped, ends_at}
use Rattle.std.proofs.raw_atomic.Walks.{proved_at}
use Rattle.core.specs.declared.option.Option.{Option}
use Rattle.core.specs.declared.option.Option.TheVariants.{Some}
use Rattle.std.specs.Prelude.{IsSome}
use Rattle.table_cell.proofs.Walks.{begins}
use Rattle.table_slab.specs.Rights.{room, written}
use Rattle.table_slab.specs.contracts.rights.Room as Room
use Rattle.table_slab.specs.contracts.rights.Written as Written
use Rattle.table_slab.proofs.Tokens.{room_publishes}
use Rattle.table_slab.proofs.Made.{token_val, token_told, written_made, set_of}
use Rattle.table_slab.specs.contracts.rights.Room.publish as f
use Rattle.table_slab.proofs.rights.Room.publish.Statement.{statement}
use Rattle.table_slab.proofs.rights.Room.publish.Code as code

pub publish_spec : {M : Type 1} → statement M
publish_spec 𝓤 𝓛 𝓜 𝓡 wired T L =
    let R : RattleType = param 0 T in let Known : RattleType = Written.the_row R in let En = f.ended T in let c = f.clauses T 𝓛 𝓜.mem 𝓡.returns in
    let right = plain (λ _. Room.the_row (param 0 T)) in let given_up : Stays En.signature.params En.kept = (stay_dropped right no, tt) in
    let 𝓣 = tables 𝓤 𝓛.H 𝓜 𝓡 𝓡.env in let types = layouts (a_type ∷ []) (T, tt) in let fn = inst_fn types code.function in
    proved_at 𝓛 En given_up c 𝓜 𝓡 (Goes-dropped 𝓛 1 right no (λ κs x w. refl), tt) (f.Key.name types) fn (code.unfolded 𝓤 𝓛.H 𝓜 𝓡 wired (T, tt)) (λ y are.
    let γ : ℕ = y.0.3.0.of in let v : Option T.Denot = y.0.3.0.value in
    qed 𝓛 ((raw (alive 𝓛 En.signature y.0.0 y.0.1) ⊛ ‵ (owns (types_at En.signature.params y.0.0) y.0.3 y.0.4)) ∷ raw (fact 𝓤 _) ∷ raw (fact 𝓤 (IsSome v)) ∷ []) ∵
    move ! (2 ∷ []) $ heard ! (IsSome v) (λ full. let x : T.Denot = (set_of v full).0 in let lies : v ≡ Some x = (set_of v full).1 in let shown : Known.Denot = record { marker = record {}; of = γ; value = x } in
    -- [the right, with its value; the tokens]
    split ! $ move ! (1 ∷ []) $ fsplit ! $ fsplit ! $ keep ! (1 ∷ 3 ∷ []) $ rewrite ! 0 (λ (u : Option T.Denot). ‵ (room R γ u)) lies refl $
    use1 𝓛 (‵ (written R γ x)) (room_publishes 𝓛 R γ x) $ use1 𝓛 (‵ (Known.own_val shown (token_val ∷ []))) (written_made 𝓛 R γ x) $
    begins ! fn (λ i. token_told (param 0 T) y.0.4.0 are.0.0 i ++ []) $ alloc_all ! (λ l. pass_all ! refl ((tt, (tt, tt)), tt) $
    sets ! (agg ! (no_more !)) refl (tt, tt) $
    sets ! (agg ! (and_then ! (get ! refl) (no_more !))) refl (tt, (tt, tt)) $ returns ! (look_at ! 0 refl) $ free_all ! refl $
    suffices ! _ (ends_at 𝓛 En given_up c y token_val shown (tt, tt) (tt, tt)) $
    use0 𝓛 (raw (fact 𝓤 (v ≡ Some x))) (fact_i 𝓤 (v ≡ Some x) (emp 𝓤) lies) $ use0 𝓛 (raw (fact 𝓤 (γ ≡ γ))) (fact_i 𝓤 (γ ≡ γ) (emp 𝓤) refl) $ join ! $
    -- [nothing of the right; what shows the value; what is said of it; the tokens]
    move ! (1 ∷ []) $ nothing ! $ nothing ! $ fjoin ! $ join ! $ keep ! (2 ∷ 0 ∷ 1 ∷ []) $ join ! $ join ! $ done !)))
