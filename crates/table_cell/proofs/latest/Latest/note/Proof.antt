-- A new note is a marker: it knows nothing, so that it owns nothing either.
use Rattle.std.proofs.Common.{◌≡◌, None, [], ◌∷◌, ◌++◌, refl}
use mir.Syntax.{a_type, dcons, dnil}
use mir.MapTy.{inst_fn}
use base.Logic.{emp}
use types.Kit.{‵, raw, ◌⊛◌, ◌$◌, ◌∵◌, !, qed, keep, split, join, fjoin, suffices, use0, done}
use types.Run.{no_more, and_then, returns}
use types.ByLocal.{alloc_all, pass_all, free_all, look_at, get, sets}
use types.Part.{agg}
use contract.Monad.{fact, fact_i}
use contract.Running.{tables}
use denote.Exit.{yes}
use denote.RattleType.{owns}
use denote.Signature.{types_at, plain}
use denote.Builtin.{RefOf, unit}
use denote.Steps.{nothing}
use denote.Param.{param, bounded}
use denote.Triple.Entry.{alive}
use denote.Triple.Walked.{Stays, stay_dropped, Goes-dropped, ends_at}
use Rattle.std.proofs.raw_atomic.Walks.{proved_at}
use Rattle.table_cell.specs.contracts.latest.Latest as latest
use Rattle.table_cell.proofs.Notes.{Note}
use Rattle.table_cell.proofs.Walks.{begins}
use Rattle.table_cell.proofs.Tokens.{token, InMemory, marker_of_nothing}
use Rattle.table_cell.specs.contracts.latest.Latest.note as f
use Rattle.table_cell.proofs.latest.Latest.note.Statement.{statement}
use Rattle.table_cell.proofs.latest.Latest.note.Code as code

pub note_spec : {M : Type 1} → statement M
note_spec 𝓤 𝓛 𝓜 𝓡 wired T A L LA fits fd g d dd homed alloc glued =
    let En = f.ended T A fits fd g d dd in let c = f.clauses T A fits fd g d dd 𝓛 𝓜.mem 𝓡.returns in
    let the_latest = RefOf (0 ∷ []) tt (plain (λ _. latest.the_row (param 0 T) (param 1 A) fits g)) (λ _. tt) in
    let dropped : Stays En.signature.params En.kept = (stay_dropped the_latest yes, tt) in let 𝓣 = tables 𝓤 𝓛.H 𝓜 𝓡 𝓡.env in
    let types = bounded (a_type ∷ a_type ∷ []) (T, (A, tt)) (dcons fd (dcons d (dcons dd dnil))) in let fn = inst_fn types code.function in
    proved_at 𝓛 En dropped c 𝓜 𝓡 (Goes-dropped 𝓛 3 the_latest yes (λ κs x w. refl), tt) (f.Key.name types) fn (code.unfolded 𝓤 𝓛.H 𝓜 𝓡 wired (T, (A, tt)) fd d dd) (λ y are.
    let new : (Note unit).Denot = record { marker = record {}; of = y.0.3.0.now.id; known = None } in let Said = (new.of ≡ new.of) × (new.known ≡ None) in
    qed 𝓛 ((raw (alive 𝓛 En.signature y.0.0 y.0.1) ⊛ ‵ (owns (types_at En.signature.params y.0.0) y.0.3 y.0.4)) ∷ raw ((c y.0.0 y.0.3).requires y.1) ∷ []) ∵
    begins ! fn (λ i. are.0.0 i ++ []) $ alloc_all ! (λ l. pass_all ! refl ((tt, tt), tt) $
    sets ! (agg ! (no_more !)) refl (tt, tt) $
    sets ! (agg ! (and_then ! (get ! refl) (no_more !))) refl (tt, (tt, tt)) $ returns ! (look_at ! 0 refl) $ free_all ! refl $
    suffices ! _ (ends_at 𝓛 En dropped c y token new (tt, tt) (tt, tt)) $ split ! $
    use0 𝓛 (raw (fact 𝓤 Said)) (fact_i 𝓤 Said (emp 𝓤) (refl, refl)) $
    nothing ! $ use0 𝓛 (‵ (InMemory (token ∷ []))) (marker_of_nothing 𝓛) $ fjoin ! $ nothing ! $ nothing ! $ fjoin ! $
    -- [nothing of the latest word; the note; what is said of it; the tokens; ..]
    join ! $ keep ! (2 ∷ 0 ∷ 1 ∷ []) $ join ! $ join ! $ done !))
