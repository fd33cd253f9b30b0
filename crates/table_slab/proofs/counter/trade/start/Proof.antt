-- The rights are kept beside a log that is empty.
use Rattle.std.proofs.Common.{◌≡◌, ℕ, List, [], ◌∷◌, refl}
use mir.Syntax.{a_type}
use mir.Val.{Val}
use mir.MapTy.{inst_fn}
use base.Logic.{SProp, emp}
use types.Kit.{‵, raw, ◌⊛◌, ◌$◌, ◌∵◌, !, qed, by, keep, use0, split, join, fsplit, fjoin}
use types.Run.{no_more, and_then, returns, enter}
use types.ByLocal.{alloc_all, pass_all, free_all, look_at, get, sets}
use types.Part.{agg}
use contract.Running.{tables}
use contract.Monad.{fact, fact_i}
use denote.Exit.{no}
use denote.RattleType.{RattleType, owns}
use denote.Signature.{types_at, plain}
use denote.Steps.{nothing}
use denote.Param.{param, layouts}
use denote.Builtin.{u64}
use denote.Struct.Tuple.{Tuple}
use denote.Triple.Walked.{Stays, stay_dropped, walk_of, Goes-dropped}
use Rattle.std.proofs.raw_atomic.Walks.{proved, leaves}
use Rattle.logbook.specs.contracts.tokens.Start as Start
use Rattle.logbook.proofs.Fields.{token, Token, token_made}
use Rattle.table_slab.specs.declared.counter.rule.Event.{Event}
use Rattle.table_slab.specs.contracts.counter.rule.Event as Events
use Rattle.table_slab.specs.contracts.counter.rule.Counts as Counts
use Rattle.table_slab.specs.contracts.counter.rule.Gains as Gains
use Rattle.table_slab.specs.contracts.rights.Rooms as Rooms
use Rattle.table_slab.specs.contracts.counter.rule.CountsRuleEventU64.TheImpl as rule_impl
use Rattle.table_slab.specs.contracts.counter.rule.GainsGainEventU64.TheImpl as gain_impl
use Rattle.table_slab.proofs.Made.{token_told}
use Rattle.table_slab.specs.contracts.counter.trade.start.{ended, clauses}
use Rattle.table_slab.specs.contracts.counter.trade.start.Key.{name as #self}
use Rattle.table_slab.proofs.counter.trade.start.Statement.{statement}
use Rattle.table_slab.proofs.counter.trade.start.Code as code

pub start_spec : {M : Type 1} → statement M
start_spec 𝓤 𝓛 𝓜 𝓡 wired V LV =
    let H = 𝓛.H in let 𝓣 = tables 𝓤 H 𝓜 𝓡 𝓡.env in let R : RattleType = param 0 V in let En = ended V in
    let inst = layouts (a_type ∷ []) (V, tt) in let fn = inst_fn inst code.function in let c = clauses V 𝓛 𝓜.mem 𝓡.returns in
    let E' : RattleType = Events.the_row in let P' : RattleType = Counts.the_row R in let G' : RattleType = Gains.the_row R in let rl = rule_impl.ghosts R in let gg = gain_impl.ghosts R in let Rs : RattleType = Rooms.the_row R in
    let self = plain (λ _. Rs) in let S : RattleType = Start.the_row E' u64 P' rl in let All : RattleType = Tuple (E' ∷ u64 ∷ P' ∷ []) in let hs : Stays En.signature.params En.kept = (stay_dropped self no, tt) in
    proved 𝓛 En hs c 𝓜 𝓡 (Goes-dropped 𝓛 1 self no (λ κs x f. refl), tt) (#self inst) fn (code.unfolded 𝓤 H 𝓜 𝓡 wired (V, tt))
    (λ κs. ((λ x. token ∷ []), tt)) (λ κs. ((λ x vs is. token_told R vs is.0), tt)) (λ κs qs bounds a gh are.
    let ns : List ℕ = a.0.names in let y : (walk_of 𝓛 En hs c).Ghost = ((κs, qs, bounds, a, (token ∷ [], tt)), gh) in let Post : Val → SProp 𝓤 = (walk_of 𝓛 En hs c).post y in
    qed 𝓛 ((raw (denote.Triple.Entry.alive 𝓛 En.signature κs qs) ⊛ ‵ (owns (types_at En.signature.params κs) a y.0.4)) ∷ raw ((c κs a).requires gh) ∷ []) ∵ split ! $ keep ! (1 ∷ 0 ∷ []) $ fsplit ! $ fsplit ! $ keep ! (1 ∷ 3 ∷ []) $
    use0 𝓛 (‵ ((Token All).own_val (record {}, tt) (token ∷ []))) (token_made All 𝓛) $ fjoin ! $ let r : S.Denot = record { marker = record {}; names = ns; shown = [] } in
    enter ! 𝓣.C 𝓣.Λ fn (token ∷ []) Post $ alloc_all ! (λ l. pass_all ! refl ((tt, (tt, tt)), tt) $
    sets ! (agg ! (no_more !)) refl (tt, tt) $ sets ! (agg ! (and_then ! (get ! refl) (no_more !))) refl (tt, (tt, tt)) $
    let Names : Type 0 = ns ≡ ns in let Shown : Type 0 = mathlib.Core.Path.Path (List Event) [] [] in
    use0 𝓛 (raw (fact 𝓤 Shown)) (fact_i 𝓤 Shown (emp 𝓤) refl) $ use0 𝓛 (raw (fact 𝓤 Names)) (fact_i 𝓤 Names (emp 𝓤) refl) $ join ! $ nothing ! $ nothing ! $ fjoin ! $
    returns ! (look_at ! 0 refl) $ free_all ! refl $ keep ! (3 ∷ 0 ∷ 2 ∷ 1 ∷ []) $ by ! (leaves 𝓛 En hs c y token r (tt, tt) (tt, tt))))
