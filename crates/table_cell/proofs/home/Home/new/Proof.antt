-- A home is its lifetime, which begins here: in memory it is a marker.
use Rattle.std.proofs.Common.{[], ◌∷◌, refl}
use types.Tokens.{lft_new}
use types.Kit.{‵, raw, ◌⊛◌, ◌$◌, ◌∵◌, !, qed, move, split, join, fjoin, suffices, use0, done}
use types.Run.{no_more, and_then, returns, enter}
use types.ByLocal.{alloc_all, pass_all, free_all, look_at, get, sets}
use types.Part.{agg}
use base.Fml.{ftrue}
use denote.Triple.Entry.{alive}
use denote.Triple.Walked.{ends_at}
use Rattle.std.proofs.raw_atomic.Walks.{proved}
use Rattle.table_cell.proofs.Tokens.{token, InMemory, marker_of_nothing}
use Rattle.table_cell.specs.contracts.home.Home.new as f
use Rattle.table_cell.proofs.home.Home.new.Statement.{statement}
use Rattle.table_cell.proofs.home.Home.new.Code as code

pub new_spec : {M : Type 1} → statement M
new_spec 𝓤 𝓛 𝓜 𝓡 wired = let c = f.clauses 𝓛 𝓜.mem 𝓡.returns in
    proved 𝓛 f.ended tt c 𝓜 𝓡 tt f.Key.name code.function (code.unfolded 𝓤 𝓛.H 𝓜 𝓡 wired)
    (λ none. tt) (λ none. tt) (λ κs qs bounds a asked are.
    qed 𝓛 ((raw (alive 𝓛 f.signature κs qs) ⊛ ‵ ftrue) ∷ raw ((c κs a).requires asked) ∷ []) ∵
    enter ! _ _ _ _ _ $ alloc_all ! (λ l. pass_all ! refl tt $ lft_new ! tt (λ life.
    sets ! (agg ! (no_more !)) refl (tt, tt) $
    sets ! (agg ! (and_then ! (get ! refl) (no_more !))) refl (tt, (tt, tt)) $
    returns ! (look_at ! 0 refl) $ free_all ! refl $
    suffices ! _ (ends_at 𝓛 f.ended tt c ((κs, qs, bounds, a, tt), asked) token (record { marker = record {}; id = life }) tt tt) $
    -- [the lifetime; the tokens, of no parameter; what is asked, which is nothing]
    use0 𝓛 (‵ (InMemory (token ∷ []))) (marker_of_nothing 𝓛) $ fjoin ! $ move ! (1 ∷ []) $ split ! $ move ! (1 ∷ 2 ∷ []) $ join ! $ move ! (1 ∷ 0 ∷ []) $ join ! $ join ! $ done !)))
