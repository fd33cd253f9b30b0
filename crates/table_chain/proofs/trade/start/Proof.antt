-- Nothing is kept yet.
use Rattle.std.proofs.Common.{◌≡◌, ℕ, List, [], ◌∷◌, refl, w64}
use Rattle.std.specs.Prelude.{None}
use mir.Syntax.{a_type, dcons, dnil, named}
use mir.Val.{Val, vint, vptr}
use mir.MapTy.{inst_fn}
use base.Logic.{SProp, emp}
use types.Kit.{‵, raw, ◌⊛◌, ◌$◌, ◌∵◌, !, qed, by, keep, use0, split, join, fjoin}
use types.Run.{no_more, and_then, returns, enter}
use types.ByLocal.{alloc_all, pass_all, free_all, look_at, get, sets}
use types.Part.{agg}
use contract.Running.{tables}
use contract.Monad.{fact, fact_i}
use denote.Exit.{yes}
use denote.RattleType.{RattleType, owns}
use denote.Signature.{types_at, plain}
use denote.Steps.{nothing}
use denote.Param.{param, bounded}
use denote.Builtin.{RefOf, u64}
use denote.Ref.{shr_vals, shr_Tells}
use denote.Plain.{uint_vals, uint_Tells}
use denote.Struct.Tuple.{Tuple}
use denote.Triple.Walked.{Stays, stay_dropped, walk_of, Goes-dropped}
use Rattle.std.proofs.raw_atomic.Walks.{proved, leaves}
use Rattle.logbook.specs.contracts.tokens.Start as Start
use Rattle.logbook.proofs.Fields.{token, Token, token_made}
use Rattle.table_chain.specs.declared.event.Event.{Event}
use Rattle.table_chain.specs.History.{event}
use Rattle.table_chain.specs.contracts.event.Event as Events
use Rattle.table_chain.specs.contracts.rule.ChainRule as ChainRule
use Rattle.table_chain.specs.contracts.rule.ChainRuleRuleEventU64.TheImpl as rule_impl
use Rattle.table_chain.specs.contracts.trade.start.{ended, clauses}
use Rattle.table_chain.specs.contracts.trade.start.Key.{name as #self}
use Rattle.table_chain.proofs.trade.start.Statement.{statement}
use Rattle.table_chain.proofs.trade.start.Code as code

pub start_spec : {M : Type 1} → statement M
start_spec 𝓤 𝓛 𝓜 𝓡 wired X N V L LX LN LV LL gn dn g d _ _ =
    let H = 𝓛.H in let 𝓣 = tables 𝓤 H 𝓜 𝓡 𝓡.env in let X' : RattleType = param 0 X in let R : RattleType = param 2 V in let W : RattleType = param 3 L in let En = ended X N V L gn dn g d in
    let inst = bounded (a_type ∷ a_type ∷ a_type ∷ a_type ∷ []) (X, (N, (V, (L, tt)))) (dcons dn (dcons d dnil)) in let fn = inst_fn inst code.function in let c = clauses X N V L gn dn g d 𝓛 𝓜.mem 𝓡.returns in
    let E' : RattleType = Events.the_row R in let P' : RattleType = ChainRule.the_row R W in let rl = rule_impl.ghosts R W g rule_impl.no_dict in let All : RattleType = Tuple (E' ∷ u64 ∷ P' ∷ []) in
    let S : RattleType = Start.the_row E' u64 P' rl in let about = RefOf (0 ∷ []) tt (plain (λ _. X')) (λ _. tt) in let number = plain (λ _. u64) in
    let hs : Stays En.signature.params En.kept = (stay_dropped about yes, (stay_dropped number yes, tt)) in
    proved 𝓛 En hs c 𝓜 𝓡 (Goes-dropped 𝓛 5 about yes (λ κs x f. refl), (Goes-dropped 𝓛 5 number yes (λ κs x f. refl), tt)) (#self inst) fn (code.unfolded 𝓤 H 𝓜 𝓡 wired (X, (N, (V, (L, tt)))) dn d)
    (λ κs. (shr_vals, (uint_vals w64, tt))) (λ κs. (shr_Tells (named 0) κs.0 X', (uint_Tells w64, tt))) (λ κs qs bounds a gh are.
    let names : List ℕ = gn.names a.0.now in let n : ℕ = a.1.0 in let at : Val = vptr a.0.ref_ptr.0 a.0.ref_ptr.1 in let es : List (Event V.Denot) = event n 0 None ∷ [] in
    let y : (walk_of 𝓛 En hs c).Ghost = ((κs, qs, bounds, a, (at ∷ [], (vint w64 n ∷ [], tt))), gh) in let Post : Val → SProp 𝓤 = (walk_of 𝓛 En hs c).post y in
    qed 𝓛 ((raw (denote.Triple.Entry.alive 𝓛 En.signature κs qs) ⊛ ‵ (owns (types_at En.signature.params κs) a y.0.4)) ∷ raw ((c κs a).requires gh) ∷ []) ∵ split ! $ keep ! (0 ∷ []) $
    nothing ! $ nothing ! $ fjoin ! $ use0 𝓛 (‵ ((Token All).own_val (record {}, tt) (token ∷ []))) (token_made All 𝓛) $ fjoin ! $
    enter ! 𝓣.C 𝓣.Λ fn (at ∷ vint w64 n ∷ []) Post $ alloc_all ! (λ l. pass_all ! refl ((tt, tt), ((tt, record { fits = are.1.0.1 }), tt)) $
    sets ! (agg ! (no_more !)) refl (tt, tt) $ sets ! (agg ! (and_then ! (get ! refl) (no_more !))) refl (tt, (tt, tt)) $
    let r : S.Denot = record { marker = record {}; names = names; shown = es } in let Names : Type 0 = names ≡ names in let Shown : Type 0 = es ≡ es in
    use0 𝓛 (raw (fact 𝓤 Shown)) (fact_i 𝓤 Shown (emp 𝓤) refl) $ use0 𝓛 (raw (fact 𝓤 Names)) (fact_i 𝓤 Names (emp 𝓤) refl) $ join ! $ nothing ! $ nothing ! $ fjoin ! $ nothing ! $ fjoin ! $
    returns ! (look_at ! 0 refl) $ free_all ! refl $ keep ! (3 ∷ 0 ∷ 2 ∷ 1 ∷ []) $ by ! (leaves 𝓛 En hs c y token r (tt, (tt, tt)) (tt, (tt, tt)))))
