-- To close a bucket takes nothing.
use Rattle.std.proofs.Common.{◌≡◌, ℕ, List, [], ◌∷◌, refl, w64}
use Rattle.std.specs.Prelude.{Option, Some, None}
use mir.Syntax.{a_type, dcons, dnil, named}
use mir.Val.{Val, vint, vptr}
use mir.MapTy.{inst_fn}
use base.Logic.{SProp, emp}
use base.Fml.{ftrue}
use types.Kit.{‵, raw, ◌⊛◌, ◌$◌, ◌∵◌, !, qed, by, keep, use0, use1, split, join, fjoin}
use types.Run.{no_more, and_then, returns, enter}
use types.ByLocal.{alloc_all, pass_all, free_all, look_at, get, sets}
use types.Part.{agg}
use contract.Running.{tables}
use contract.Monad.{fact, fact_i}
use denote.Exit.{yes}
use denote.RattleType.{RattleType, owns}
use denote.Signature.{types_at, plain}
use denote.Steps.{nothing}
use denote.Param.{param, bounded}
use denote.Builtin.{RefOf, u64}
use denote.Ref.{shr_vals, shr_Tells}
use denote.Plain.{uint_vals, uint_Tells}
use denote.Struct.Tuple.{Tuple}
use denote.Triple.Walked.{Stays, stay_dropped, walk_of, Goes-dropped}
use Rattle.std.proofs.raw_atomic.Walks.{proved, leaves}
use Rattle.logbook.specs.Kept.{offer_owns}
use Rattle.logbook.specs.contracts.tokens.Offer as Offer
use Rattle.logbook.specs.contracts.tokens.Seen as Seen
use Rattle.logbook.proofs.Fields.{token, Token, token_made}
use Rattle.table_chain.specs.declared.event.Event.{Event}
use Rattle.table_chain.specs.declared.event.Stored.TheVariants.{End}
use Rattle.table_chain.specs.History.{event, Moved}
use Rattle.table_chain.specs.Kept.{all_kept}
use Rattle.table_chain.specs.contracts.event.Event as Events
use Rattle.table_chain.specs.contracts.rule.ChainRule as ChainRule
use Rattle.table_chain.specs.contracts.rule.ChainRuleRuleEventU64.TheImpl as rule_impl
use Rattle.table_chain.specs.contracts.rule.Nothing as Trade
use Rattle.table_chain.specs.contracts.rule.NothingGainEventU64.TheImpl as gain_impl
use Rattle.table_chain.proofs.Trades as trades
use Rattle.table_chain.specs.contracts.trade.closing.{ended, clauses}
use Rattle.table_chain.specs.contracts.trade.closing.Key.{name as #self}
use Rattle.table_chain.proofs.trade.closing.Statement.{statement}
use Rattle.table_chain.proofs.trade.closing.Code as code
use types.Kit.{split}
use types.Kit.{keep}

pub closing_spec : {M : Type 1} → statement M
closing_spec 𝓤 𝓛 𝓜 𝓡 wired V L LV LL g d _ =
    let H = 𝓛.H in let 𝓣 = tables 𝓤 H 𝓜 𝓡 𝓡.env in let R : RattleType = param 0 V in let W : RattleType = param 1 L in let En = ended V L g d in
    let inst = bounded (a_type ∷ a_type ∷ []) (V, (L, tt)) (dcons d dnil) in let fn = inst_fn inst code.function in let c = clauses V L g d 𝓛 𝓜.mem 𝓡.returns in
    let E' : RattleType = Events.the_row R in let P' : RattleType = ChainRule.the_row R W in let G' : RattleType = Trade.the_row in let rl = rule_impl.ghosts R W g rule_impl.no_dict in let gg = gain_impl.ghosts R in
    let Sn : RattleType = Seen.the_row E' u64 P' rl in let Off : RattleType = Offer.the_row E' u64 P' G' rl gg in
    let seen = RefOf (0 ∷ []) tt (plain (λ _. Sn)) (λ _. tt) in let number = plain (λ _. u64) in
    let hs : Stays En.signature.params En.kept = (stay_dropped seen yes, (stay_dropped number yes, tt)) in
    proved 𝓛 En hs c 𝓜 𝓡 (Goes-dropped 𝓛 3 seen yes (λ κs x f. refl), (Goes-dropped 𝓛 3 number yes (λ κs x f. refl), tt)) (#self inst) fn (code.unfolded 𝓤 H 𝓜 𝓡 wired (V, (L, tt)) d)
    (λ κs. (shr_vals, (uint_vals w64, tt))) (λ κs. (shr_Tells (named 0) κs.0 Sn, (uint_Tells w64, tt))) (λ κs qs bounds a gh are.
    let names : List ℕ = a.0.now.names in let p : ℕ = a.1.0 in let at : Val = vptr a.0.ref_ptr.0 a.0.ref_ptr.1 in
    let y : (walk_of 𝓛 En hs c).Ghost = ((κs, qs, bounds, a, (at ∷ [], (vint w64 p ∷ [], tt))), gh) in let Post : Val → SProp 𝓤 = (walk_of 𝓛 En hs c).post y in let e : Event V.Denot = event p 0 (Some End) in
    qed 𝓛 ((raw (denote.Triple.Entry.alive 𝓛 En.signature κs qs) ⊛ ‵ (owns (types_at En.signature.params κs) a y.0.4)) ∷ raw ((c κs a).requires gh) ∷ []) ∵ split ! $ keep ! (0 ∷ []) $ nothing ! $
    use1 𝓛 (‵ (offer_owns (all_kept R names) (Moved e) (λ _. ftrue) None)) (trades.closes 𝓛 R names p 0) $
    use0 𝓛 (‵ ((Token (Tuple (E' ∷ u64 ∷ P' ∷ G' ∷ []))).own_val (record {}, tt) (token ∷ []))) (token_made (Tuple (E' ∷ u64 ∷ P' ∷ G' ∷ [])) 𝓛) $ fjoin ! $
    let r : Off.Denot = record { marker = record {}; names = names; ask = e; about = []; state = None } in
    enter ! 𝓣.C 𝓣.Λ fn (at ∷ vint w64 p ∷ []) Post $ alloc_all ! (λ l. pass_all ! refl ((tt, tt), ((tt, record { fits = are.1.0.1 }), tt)) $
    sets ! (agg ! (no_more !)) refl (tt, tt) $ sets ! (agg ! (and_then ! (get ! refl) (no_more !))) refl (tt, (tt, tt)) $
    let Names : Type 0 = names ≡ names in let Ask : Type 0 = e ≡ e in let State : Type 0 = mathlib.Core.Path.Path (Option ℕ) None None in
    use0 𝓛 (raw (fact 𝓤 State)) (fact_i 𝓤 State (emp 𝓤) refl) $ use0 𝓛 (raw (fact 𝓤 Ask)) (fact_i 𝓤 Ask (emp 𝓤) refl) $ join ! $ use0 𝓛 (raw (fact 𝓤 Names)) (fact_i 𝓤 Names (emp 𝓤) refl) $ join ! $
    nothing ! $ nothing ! $ fjoin ! $ nothing ! $ fjoin ! $
    returns ! (look_at ! 0 refl) $ free_all ! refl $ keep ! (3 ∷ 0 ∷ 2 ∷ 1 ∷ []) $ by ! (leaves 𝓛 En hs c y token r (tt, (tt, tt)) (tt, (tt, tt)))))
