-- An update that takes what is next.
use Rattle.std.proofs.Common.{◌≡◌, ℕ, List, [], ◌∷◌, refl, w64}
use Rattle.std.specs.Prelude.{Option, None}
use mir.Syntax.{a_type, named}
use mir.Val.{Val, vint, vptr}
use mir.MapTy.{inst_fn}
use base.Logic.{SProp, emp}
use types.Kit.{‵, raw, ◌⊛◌, ◌$◌, ◌∵◌, !, qed, by, keep, use0, use1, split, join, fjoin}
use types.Run.{no_more, and_then, returns, enter}
use types.ByLocal.{alloc_all, pass_all, free_all, look_at, get, sets}
use types.Part.{agg}
use contract.Running.{tables}
use contract.Monad.{fact, fact_i}
use denote.Exit.{yes}
use denote.RattleType.{RattleType, owns}
use denote.Signature.{types_at, plain}
use denote.Steps.{nothing}
use denote.Param.{param, layouts}
use denote.Builtin.{RefOf, u64}
use denote.Ref.{shr_vals, shr_Tells}
use denote.Plain.{uint_vals, uint_Tells}
use denote.Struct.Tuple.{Tuple}
use denote.Triple.Walked.{Stays, stay_dropped, walk_of, Goes-dropped}
use Rattle.std.proofs.raw_atomic.Walks.{proved, leaves}
use Rattle.logbook.specs.Kept.{offer_owns}
use Rattle.logbook.specs.contracts.tokens.Offer as Offer
use Rattle.logbook.specs.contracts.tokens.Seen as Seen
use Rattle.logbook.proofs.Fields.{token, Token, token_made}
use Rattle.table_slab.specs.declared.counter.rule.Event.{Event}
use Rattle.table_slab.specs.declared.counter.rule.Event.TheVariants.{Taken}
use Rattle.table_slab.specs.Counting.{Moved, left, gained}
use Rattle.table_slab.specs.contracts.counter.rule.Event as Events
use Rattle.table_slab.specs.contracts.counter.rule.Counts as Counts
use Rattle.table_slab.specs.contracts.counter.rule.Gains as Gains
use Rattle.table_slab.specs.contracts.rights.Rooms as Rooms
use Rattle.table_slab.specs.contracts.counter.rule.CountsRuleEventU64.TheImpl as rule_impl
use Rattle.table_slab.specs.contracts.counter.rule.GainsGainEventU64.TheImpl as gain_impl
use Rattle.table_slab.proofs.Trades as trades
use Rattle.table_slab.specs.contracts.counter.trade.taking.{ended, clauses}
use Rattle.table_slab.specs.contracts.counter.trade.taking.Key.{name as #self}
use Rattle.table_slab.proofs.counter.trade.taking.Statement.{statement}
use Rattle.table_slab.proofs.counter.trade.taking.Code as code

pub taking_spec : {M : Type 1} → statement M
taking_spec 𝓤 𝓛 𝓜 𝓡 wired V LV =
    let H = 𝓛.H in let 𝓣 = tables 𝓤 H 𝓜 𝓡 𝓡.env in let R : RattleType = param 0 V in let En = ended V in
    let inst = layouts (a_type ∷ []) (V, tt) in let fn = inst_fn inst code.function in let c = clauses V 𝓛 𝓜.mem 𝓡.returns in
    let E' : RattleType = Events.the_row in let P' : RattleType = Counts.the_row R in let G' : RattleType = Gains.the_row R in let rl = rule_impl.ghosts R in let gg = gain_impl.ghosts R in let Rs : RattleType = Rooms.the_row R in
    let Sn : RattleType = Seen.the_row E' u64 P' rl in let Off : RattleType = Offer.the_row E' u64 P' G' rl gg in let All : RattleType = Tuple (E' ∷ u64 ∷ P' ∷ G' ∷ []) in
    let seen = RefOf (0 ∷ []) tt (plain (λ _. Sn)) (λ _. tt) in let number = plain (λ _. u64) in let hs : Stays En.signature.params En.kept = (stay_dropped seen yes, (stay_dropped number yes, tt)) in
    proved 𝓛 En hs c 𝓜 𝓡 (Goes-dropped 𝓛 2 seen yes (λ κs x f. refl), (Goes-dropped 𝓛 2 number yes (λ κs x f. refl), tt)) (#self inst) fn (code.unfolded 𝓤 H 𝓜 𝓡 wired (V, tt))
    (λ κs. (shr_vals, (uint_vals w64, tt))) (λ κs. (shr_Tells (named 0) κs.0 Sn, (uint_Tells w64, tt))) (λ κs qs bounds a gh are.
    let ns : List ℕ = a.0.now.names in let k : ℕ = a.1.0 in let at : Val = vptr a.0.ref_ptr.0 a.0.ref_ptr.1 in let y : (walk_of 𝓛 En hs c).Ghost = ((κs, qs, bounds, a, (at ∷ [], (vint w64 k ∷ [], tt))), gh) in let Post : Val → SProp 𝓤 = (walk_of 𝓛 En hs c).post y in
    let ask : Event = Taken k in
    qed 𝓛 ((raw (denote.Triple.Entry.alive 𝓛 En.signature κs qs) ⊛ ‵ (owns (types_at En.signature.params κs) a y.0.4)) ∷ raw ((c κs a).requires gh) ∷ []) ∵ split ! $ keep ! (0 ∷ []) $
    nothing ! $ use1 𝓛 (‵ (offer_owns (left R ns) (Moved ask) (gained R ns (ask ∷ [])) None)) (trades.offers 𝓛 R ns ask) $ use0 𝓛 (‵ ((Token All).own_val (record {}, tt) (token ∷ []))) (token_made All 𝓛) $ fjoin ! $
    let r : Off.Denot = record { marker = record {}; names = ns; ask = ask; about = ask ∷ []; state = None } in
    enter ! 𝓣.C 𝓣.Λ fn (at ∷ vint w64 k ∷ []) Post $ alloc_all ! (λ l. pass_all ! refl ((tt, tt), ((tt, record { fits = are.1.0.1 }), tt)) $
    sets ! (agg ! (no_more !)) refl (tt, tt) $ sets ! (agg ! (and_then ! (get ! refl) (no_more !))) refl (tt, (tt, tt)) $
    let Names : Type 0 = ns ≡ ns in let State : Type 0 = mathlib.Core.Path.Path (Option ℕ) None None in
    let About : Type 0 = ask ∷ [] ≡ ask ∷ [] in let Ask : Type 0 = ask ≡ ask in use0 𝓛 (raw (fact 𝓤 State)) (fact_i 𝓤 State (emp 𝓤) refl) $ use0 𝓛 (raw (fact 𝓤 About)) (fact_i 𝓤 About (emp 𝓤) refl) $ join ! $ use0 𝓛 (raw (fact 𝓤 Ask)) (fact_i 𝓤 Ask (emp 𝓤) refl) $ join ! $ use0 𝓛 (raw (fact 𝓤 Names)) (fact_i 𝓤 Names (emp 𝓤) refl) $ join ! $ nothing ! $ nothing ! $ fjoin ! $ nothing ! $ fjoin ! $
    returns ! (look_at ! 0 refl) $ free_all ! refl $ keep ! (3 ∷ 0 ∷ 2 ∷ 1 ∷ []) $ by ! (leaves 𝓛 En hs c y token r (tt, (tt, tt)) (tt, (tt, tt)))))
