-- What stands beside a history shows that a number has one value.
use Rattle.std.proofs.Common.{List, ℕ, [], ◌∷◌, refl}
use mir.Syntax.{a_type, dcons, dnil, named}
use mir.Val.{Val, vptr, vunit}
use mir.MapTy.{inst_fn}
use base.Logic.{SProp, emp}
use types.Kit.{‵, raw, ◌⊛◌, later, ◌$◌, ◌∵◌, !, qed, by, move, keep, drop, use0, use1, split, fsplit, fjoin, feq_i, await}
use types.Run.{of_opd, unit_lit, returns, enter}
use types.ByLocal.{alloc_all, pass_all, free_all, look_at, sets}
use contract.Running.{tables}
use contract.Monad.{fact, fact_i}
use denote.Exit.{yes}
use denote.RattleType.{RattleType, owns}
use denote.Signature.{types_at, plain}
use denote.Steps.{nothing, heard}
use denote.Opens.{unhide}
use denote.Param.{param, bounded}
use denote.Builtin.{RefOf, u64}
use denote.Ref.{shr_vals, shr_Tells}
use denote.Triple.Walked.{Stays, stay_dropped, walk_of, Goes-dropped}
use Rattle.std.proofs.raw_atomic.Walks.{proved, leaves}
use Rattle.logbook.specs.Kept.{Rules, rules}
use Rattle.logbook.specs.contracts.tokens.Seen as Seen
use Rattle.table_numbered.proofs.Trades.{Happening, values_earlier}
use Rattle.table_numbered.proofs.Books.{recalls}
use Rattle.table_numbered.specs.History.{OneValue}
use Rattle.table_numbered.specs.contracts.event.Event as Events
use Rattle.table_numbered.specs.contracts.event.Stored as Stores
use Rattle.table_numbered.specs.contracts.event.Numbered as Numbers
use Rattle.table_numbered.specs.contracts.rule.SetRule as SetRule
use Rattle.table_numbered.specs.contracts.rule.SetRuleRuleEventStoredNumberedU64.TheImpl as rule_impl
use Rattle.table_numbered.specs.contracts.trade.one_value.{ended, clauses}
use Rattle.table_numbered.specs.contracts.trade.one_value.Key.{name as #self}
use Rattle.table_numbered.proofs.trade.one_value.Statement.{statement}
use Rattle.table_numbered.proofs.trade.one_value.Code as code

pub one_value_spec : {M : Type 1} → statement M
one_value_spec 𝓤 𝓛 𝓜 𝓡 wired V L LV LL g d _ =
    let H = 𝓛.H in let 𝓣 = tables 𝓤 H 𝓜 𝓡 𝓡.env in let R : RattleType = param 0 V in let W : RattleType = param 1 L in let En = ended V L g d in
    let inst = bounded (a_type ∷ a_type ∷ []) (V, (L, tt)) (dcons d dnil) in let fn = inst_fn inst code.function in let c = clauses V L g d 𝓛 𝓜.mem 𝓡.returns in
    let E' : RattleType = Events.the_row (Stores.the_row (Numbers.the_row R)) in let P' : RattleType = SetRule.the_row R W in let rl = rule_impl.ghosts R W g rule_impl.no_dict in
    let Sn : RattleType = Seen.the_row E' u64 P' rl in
    let seen = RefOf (0 ∷ []) tt (plain (λ _. Sn)) (λ _. tt) in
    let hs : Stays En.signature.params En.kept = (stay_dropped seen yes, tt) in
    proved 𝓛 En hs c 𝓜 𝓡 (Goes-dropped 𝓛 3 seen yes (λ κs x f. refl), tt) (#self inst) fn (code.unfolded 𝓤 H 𝓜 𝓡 wired (V, (L, tt)) d)
    (λ κs. (shr_vals, tt)) (λ κs. (shr_Tells (named 0) κs.0 Sn, tt)) (λ κs qs bounds a gh are.
    let n = a.0.now in let names : List ℕ = n.names in let at : Val = vptr a.0.ref_ptr.0 a.0.ref_ptr.1 in
    let y : (walk_of 𝓛 En hs c).Ghost = ((κs, qs, bounds, a, (at ∷ [], tt)), gh) in let Post : Val → SProp 𝓤 = (walk_of 𝓛 En hs c).post y in
    let One : Type 0 = OneValue n.log in let rule : Rules (Happening V.Denot) = rules rl.holds rl.shows rl.keeps in
    qed 𝓛 ((raw (denote.Triple.Entry.alive 𝓛 En.signature κs qs) ⊛ ‵ (owns (types_at En.signature.params κs) a y.0.4)) ∷ raw ((c κs a).requires gh) ∷ []) ∵ split ! $ move ! (1 ∷ []) $ fsplit ! $ fsplit ! $ keep ! (1 ∷ 3 ∷ []) $ unhide ! $ fsplit ! $ drop ! $
    use1 𝓛 (later (raw (fact 𝓤 One))) (recalls 𝓛 E'.coded rule n.book names n.log (fact 𝓤 One) (λ log below. values_earlier 𝓛 R names n.log log below)) $
    enter ! 𝓣.C 𝓣.Λ fn (at ∷ []) Post $ alloc_all ! (λ l. pass_all ! refl ((tt, tt), tt) $ await ! tt $ heard ! One (λ one.
    sets ! (of_opd ! (unit_lit !)) refl (tt, tt) $ use0 𝓛 (raw (fact 𝓤 One)) (fact_i 𝓤 One (emp 𝓤) one) $ feq_i ! _ (vunit ∷ []) (vunit ∷ []) refl $ nothing ! $ nothing ! $ fjoin ! $
    returns ! (look_at ! 0 refl) $ free_all ! refl $ keep ! (3 ∷ 0 ∷ 1 ∷ 2 ∷ []) $ by ! (leaves 𝓛 En hs c y vunit tt (tt, tt) (tt, tt)))))
