-- What was gained is the rights.
use Rattle.std.proofs.Common.{◌≡◌, ℕ, suc, List, [], ◌∷◌, refl, ap, w64}
use mir.Syntax.{a_type}
use mir.Val.{Val, vint}
use mir.MapTy.{inst_fn}
use base.Logic.{SProp, emp}
use base.Fml.{Fml}
use types.Kit.{‵, raw, ◌⊛◌, ◌$◌, ◌∵◌, !, qed, by, move, keep, use0, use1, split, fsplit, fjoin, rewrite}
use types.Run.{no_more, and_then, returns, enter}
use types.ByLocal.{alloc_all, pass_all, free_all, look_at, get, sets}
use types.Part.{agg}
use contract.Running.{tables}
use contract.Monad.{fact, fact_i}
use denote.Exit.{yes, no}
use denote.RattleType.{RattleType, owns}
use denote.Signature.{types_at, plain}
use denote.Steps.{nothing, heard}
use denote.Param.{param, layouts}
use denote.Builtin.{u64}
use denote.Plain.{uint_vals, uint_Tells}
use denote.Struct.Tuple.{Tuple}
use denote.Triple.Walked.{Stays, stay_dropped, walk_of, Goes-dropped}
use Rattle.std.proofs.raw_atomic.Walks.{proved, leaves}
use Rattle.logbook.specs.contracts.tokens.Gained as Gained
use Rattle.logbook.proofs.Fields.{token, token_told}
use Rattle.table_slab.specs.Rights.{rooms}
use Rattle.table_slab.specs.Counting.{slots_of, gained}
use Rattle.table_slab.specs.contracts.counter.rule.Event as Events
use Rattle.table_slab.specs.contracts.counter.rule.Counts as Counts
use Rattle.table_slab.specs.contracts.counter.rule.Gains as Gains
use Rattle.table_slab.specs.contracts.rights.Rooms as Rooms
use Rattle.table_slab.specs.contracts.counter.rule.CountsRuleEventU64.TheImpl as rule_impl
use Rattle.table_slab.specs.contracts.counter.rule.GainsGainEventU64.TheImpl as gain_impl
use Rattle.table_slab.proofs.Made.{rooms_made}
use Rattle.table_slab.specs.contracts.counter.trade.rights.{ended, clauses}
use Rattle.table_slab.specs.contracts.counter.trade.rights.Key.{name as #self}
use Rattle.table_slab.proofs.counter.trade.rights.Statement.{statement}
use Rattle.table_slab.proofs.counter.trade.rights.Code as code

pub rights_spec : {M : Type 1} → statement M
rights_spec 𝓤 𝓛 𝓜 𝓡 wired V LV =
    let H = 𝓛.H in let 𝓣 = tables 𝓤 H 𝓜 𝓡 𝓡.env in let R : RattleType = param 0 V in let En = ended V in
    let inst = layouts (a_type ∷ []) (V, tt) in let fn = inst_fn inst code.function in let c = clauses V 𝓛 𝓜.mem 𝓡.returns in
    let E' : RattleType = Events.the_row in let P' : RattleType = Counts.the_row R in let G' : RattleType = Gains.the_row R in let rl = rule_impl.ghosts R in let gg = gain_impl.ghosts R in let Rs : RattleType = Rooms.the_row R in
    let Gd : RattleType = Gained.the_row E' u64 G' gg in let All : RattleType = Tuple (E' ∷ u64 ∷ G' ∷ []) in
    let gain = plain (λ _. Gd) in let number = plain (λ _. u64) in let hs : Stays En.signature.params En.kept = (stay_dropped gain no, (stay_dropped number yes, tt)) in
    proved 𝓛 En hs c 𝓜 𝓡 (Goes-dropped 𝓛 1 gain no (λ κs x f. refl), (Goes-dropped 𝓛 1 number yes (λ κs x f. refl), tt)) (#self inst) fn (code.unfolded 𝓤 H 𝓜 𝓡 wired (V, tt))
    (λ κs. ((λ x. token ∷ []), (uint_vals w64, tt))) (λ κs. ((λ x vs is. token_told All vs is.0), (uint_Tells w64, tt))) (λ κs qs bounds a gh are.
    let d = a.0 in let k : ℕ = a.1.0 in let y : (walk_of 𝓛 En hs c).Ghost = ((κs, qs, bounds, a, (token ∷ [], (vint w64 k ∷ [], tt))), gh) in let Post : Val → SProp 𝓤 = (walk_of 𝓛 En hs c).post y in
    let Answer : Type 0 = d.answer ≡ suc k in
    qed 𝓛 ((raw (denote.Triple.Entry.alive 𝓛 En.signature κs qs) ⊛ ‵ (owns (types_at En.signature.params κs) a y.0.4)) ∷ raw (fact 𝓤 _) ∷ raw (fact 𝓤 Answer) ∷ []) ∵ move ! (2 ∷ 0 ∷ []) $ heard ! Answer (λ answer. keep ! (0 ∷ []) $
    let names : List ℕ = slots_of d.names d.about k in let got : gained R d.names d.about d.answer ≡ rooms R names = ap (λ (n : ℕ). gained R d.names d.about n) answer in
    split ! $ move ! (1 ∷ []) $ fsplit ! $ fsplit ! $ keep ! (1 ∷ 3 ∷ []) $ rewrite ! 0 (λ (P : Fml). ‵ P) got refl $
    let r : Rs.Denot = record { marker = record {}; names = names } in use1 𝓛 (‵ (Rs.own_val r (token ∷ []))) (rooms_made 𝓛 R names) $
    enter ! 𝓣.C 𝓣.Λ fn (token ∷ vint w64 k ∷ []) Post $ alloc_all ! (λ l. pass_all ! refl ((tt, (tt, tt)), ((tt, record { fits = are.1.0.1 }), tt)) $
    sets ! (agg ! (no_more !)) refl (tt, tt) $ sets ! (agg ! (and_then ! (get ! refl) (no_more !))) refl (tt, (tt, tt)) $
    let Of : Type 0 = names ≡ names in use0 𝓛 (raw (fact 𝓤 Of)) (fact_i 𝓤 Of (emp 𝓤) refl) $ nothing ! $ nothing ! $ fjoin ! $ nothing ! $ fjoin ! $
    returns ! (look_at ! 0 refl) $ free_all ! refl $ keep ! (3 ∷ 0 ∷ 2 ∷ 1 ∷ []) $ by ! (leaves 𝓛 En hs c y token r (tt, (tt, tt)) (tt, (tt, tt))))))
