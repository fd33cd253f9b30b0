-- The home's lifetime ends, and its marker is the marker of what stands for its end.
use Rattle.std.proofs.Common.{◌≡◌, [], ◌∷◌, ◌++◌, refl}
use base.Logic.{emp}
use types.Tokens.{lft_end}
use types.Kit.{‵, raw, ◌⊛◌, ◌$◌, ◌∵◌, !, qed, keep, move, split, join, fsplit, fjoin, suffices, use0, done}
use types.Run.{stop, fld, of_opd, no_more, and_then, returns}
use types.ByLocal.{alloc_all, pass_all, free_all, look_at, get, get_in, sets}
use types.Part.{agg, sub, whole}
use contract.Monad.{fact, fact_i}
use contract.Running.{tables}
use denote.Exit.{yes}
use denote.RattleType.{owns}
use denote.Signature.{types_at, plain}
use denote.Steps.{nothing}
use denote.Triple.Entry.{alive}
use denote.Triple.Walked.{Stays, stay_dropped, ends_at}
use Rattle.core.proofs.alloc.Calls.{Goes-blank}
use Rattle.std.proofs.raw_atomic.Walks.{proved_at}
use Rattle.table_cell.proofs.Walks.{begins}
use Rattle.table_cell.proofs.Tokens.{token, InMemory, marker_of_nothing, beside_marker}
use Rattle.table_cell.specs.contracts.home.Home as home
use Rattle.table_cell.specs.contracts.home.Home.close as f
use Rattle.table_cell.proofs.home.Home.close.Statement.{statement}
use Rattle.table_cell.proofs.home.Home.close.Code as code

pub close_spec : {M : Type 1} → statement M
close_spec 𝓤 𝓛 𝓜 𝓡 wired = let c = f.clauses 𝓛 𝓜.mem 𝓡.returns in let 𝓣 = tables 𝓤 𝓛.H 𝓜 𝓡 𝓡.env in
    let open_home = plain (λ _. home.the_row) in let ended : Stays f.ended.signature.params f.ended.kept = (stay_dropped open_home yes, tt) in
    proved_at 𝓛 f.ended ended c 𝓜 𝓡 (Goes-blank 𝓛 0 open_home yes (λ κs x w. tt), tt) f.Key.name code.function (code.unfolded 𝓤 𝓛.H 𝓜 𝓡 wired) (λ y are.
    let Same = y.0.3.0.id ≡ y.0.3.0.id in
    qed 𝓛 ((raw (alive 𝓛 f.signature y.0.0 y.0.1) ⊛ ‵ (owns (types_at f.signature.params y.0.0) y.0.3 y.0.4)) ∷ raw ((c y.0.0 y.0.3).requires y.1) ∷ []) ∵
    split ! $ move ! (1 ∷ []) $ fsplit ! $ beside_marker ! y.0.4.0 (λ is.
    begins ! code.function (λ i. is i ++ []) $ alloc_all ! (λ l. pass_all ! refl ((tt, (tt, tt)), tt) $ lft_end ! tt $
    sets ! (of_opd ! (get_in ! (fld ! refl (stop !)) (sub ! 0 refl (whole !)))) refl (tt, tt) $
    sets ! (agg ! (and_then ! (get ! refl) (no_more !))) refl (tt, (tt, tt)) $ returns ! (look_at ! 0 refl) $ free_all ! refl $
    suffices ! _ (ends_at 𝓛 f.ended ended c y token (record { marker = record {}; id = y.0.3.0.id }) (tt, tt) (tt, tt)) $
    -- [that it has ended; nothing; the tokens; nothing]
    use0 𝓛 (‵ (InMemory (token ∷ []))) (marker_of_nothing 𝓛) $ fjoin ! $ use0 𝓛 (raw (fact 𝓤 Same)) (fact_i 𝓤 Same (emp 𝓤) refl) $ nothing ! $ nothing ! $ fjoin ! $
    -- [nothing of a home; that the two are the same; that it has ended; nothing; the tokens]
    move ! (0 ∷ 2 ∷ []) $ join ! $ keep ! (3 ∷ 0 ∷ 1 ∷ []) $ join ! $ join ! $ done !)))
