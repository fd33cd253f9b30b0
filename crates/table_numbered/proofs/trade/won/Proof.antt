-- What was traded for the right is the receipt.
use Rattle.std.proofs.Common.{◌≡◌, ℕ, List, [], ◌∷◌, refl, w64}
use mir.Syntax.{a_type}
use mir.Val.{Val, vint}
use mir.MapTy.{inst_fn}
use base.Logic.{SProp, emp, id⊢}
use types.Kit.{‵, raw, ◌⊛◌, ◌$◌, ◌∵◌, !, qed, by, move, keep, use0, use1, split, fsplit, fjoin, rewrite}
use types.Run.{no_more, and_then, returns, enter}
use types.ByLocal.{alloc_all, pass_all, free_all, look_at, get, sets}
use types.Part.{agg}
use contract.Running.{tables}
use contract.Monad.{fact, fact_i}
use denote.Exit.{yes, no}
use denote.RattleType.{RattleType, owns}
use denote.Signature.{types_at, plain}
use denote.Steps.{nothing, heard}
use denote.Param.{param, layouts}
use denote.Builtin.{u64}
use denote.Plain.{uint_vals, uint_Tells}
use denote.Struct.Tuple.{Tuple}
use denote.Triple.Walked.{Stays, stay_dropped, walk_of, Goes-dropped}
use Rattle.std.proofs.raw_atomic.Walks.{proved, leaves}
use Rattle.logbook.specs.contracts.tokens.Gained as Gained
use Rattle.logbook.proofs.Fields.{token, token_told}
use Rattle.table_slab.specs.Shelved.{slab_of}
use Rattle.table_slab.specs.Spent.{spent}
use Rattle.table_slab.specs.contracts.rights.Receipt as Receipt
use Rattle.table_slab.proofs.Received.{receipt_made}
use Rattle.table_numbered.proofs.Trades.{Happening}
use Rattle.table_numbered.specs.declared.event.Stored.TheVariants.{Entry}
use Rattle.std.specs.Prelude.{Some}
use Rattle.table_numbered.specs.History.{event}
use Rattle.table_numbered.specs.Kept.{traded}
use Rattle.table_numbered.specs.contracts.event.Event as Events
use Rattle.table_numbered.specs.contracts.event.Stored as Stores
use Rattle.table_numbered.specs.contracts.event.Numbered as Numbers
use Rattle.table_numbered.specs.Words.{numbered}
use Rattle.table_numbered.specs.contracts.trade.Trade as Trade
use Rattle.table_numbered.specs.contracts.trade.TradeGainEventStoredNumberedU64.TheImpl as gain_impl
use Rattle.table_numbered.specs.contracts.trade.won.{ended, clauses}
use Rattle.table_numbered.specs.contracts.trade.won.Key.{name as #self}
use Rattle.table_numbered.proofs.trade.won.Statement.{statement}
use Rattle.table_numbered.proofs.trade.won.Code as code

pub won_spec : {M : Type 1} → statement M
won_spec 𝓤 𝓛 𝓜 𝓡 wired V LV =
    let H = 𝓛.H in let 𝓣 = tables 𝓤 H 𝓜 𝓡 𝓡.env in let R : RattleType = param 0 V in let En = ended V in
    let inst = layouts (a_type ∷ []) (V, tt) in let fn = inst_fn inst code.function in let c = clauses V 𝓛 𝓜.mem 𝓡.returns in
    let E' : RattleType = Events.the_row (Stores.the_row (Numbers.the_row R)) in let G' : RattleType = Trade.the_row R in let gg = gain_impl.ghosts R in let All : RattleType = Tuple (E' ∷ u64 ∷ G' ∷ []) in
    let Gd : RattleType = Gained.the_row E' u64 G' gg in let Rc : RattleType = Receipt.the_row R in let gained = plain (λ _. Gd) in let number = plain (λ _. u64) in
    let hs : Stays En.signature.params En.kept = (stay_dropped gained no, (stay_dropped number yes, (stay_dropped number yes, tt))) in
    proved 𝓛 En hs c 𝓜 𝓡 (Goes-dropped 𝓛 1 gained no (λ κs x f. refl), (Goes-dropped 𝓛 1 number yes (λ κs x f. refl), (Goes-dropped 𝓛 1 number yes (λ κs x f. refl), tt))) (#self inst) fn (code.unfolded 𝓤 H 𝓜 𝓡 wired (V, tt))
    (λ κs. ((λ x. token ∷ []), (uint_vals w64, (uint_vals w64, tt)))) (λ κs. ((λ x vs is. token_told All vs is.0), (uint_Tells w64, (uint_Tells w64, tt)))) (λ κs qs bounds a gh are.
    let d = a.0 in let p : ℕ = a.1.0 in let k : ℕ = a.1.1.0 in
    let y : (walk_of 𝓛 En hs c).Ghost = ((κs, qs, bounds, a, (token ∷ [], (vint w64 p ∷ [], (vint w64 k ∷ [], tt)))), gh) in let Post : Val → SProp 𝓤 = (walk_of 𝓛 En hs c).post y in
    let Won : Type 0 = d.answer ≡ 1 in let About : Type 0 = (x : V.Denot) × (d.about ≡ event p (Some (Entry (numbered k x))) ∷ []) in
    qed 𝓛 ((raw (denote.Triple.Entry.alive 𝓛 En.signature κs qs) ⊛ ‵ (owns (types_at En.signature.params κs) a y.0.4)) ∷ raw (fact 𝓤 _) ∷ (raw (fact 𝓤 Won) ⊛ raw (fact 𝓤 About)) ∷ []) ∵ move ! (2 ∷ 0 ∷ []) $ split ! $ heard ! Won (λ won. heard ! About (λ about. keep ! (0 ∷ []) $
    let x : V.Denot = about.0 in
    -- [what was gained; the tokens]
    split ! $ move ! (1 ∷ []) $ fsplit ! $ fsplit ! $ keep ! (1 ∷ 3 ∷ []) $
    rewrite ! 0 (λ (n : ℕ). ‵ (traded R d.names d.about n)) won refl $ rewrite ! 0 (λ (l : List (Happening V.Denot)). ‵ (traded R d.names l 1)) about.1 refl $
    use1 𝓛 (‵ (spent R (slab_of d.names) k x)) (id⊢ 𝓤 _) $
    let r : Rc.Denot = record { marker = record {}; slab = slab_of d.names; number = k; value = x } in use1 𝓛 (‵ (Rc.own_val r (token ∷ []))) (receipt_made 𝓛 R (slab_of d.names) k x) $
    enter ! 𝓣.C 𝓣.Λ fn (token ∷ vint w64 p ∷ vint w64 k ∷ []) Post $ alloc_all ! (λ l. pass_all ! refl ((tt, (tt, tt)), ((tt, record { fits = are.1.0.1 }), ((tt, record { fits = are.1.1.0.1 }), tt))) $
    sets ! (agg ! (no_more !)) refl (tt, tt) $ sets ! (agg ! (and_then ! (get ! refl) (no_more !))) refl (tt, (tt, tt)) $
    let Told : Type 0 = (z : V.Denot) × (d.about ≡ event p (Some (Entry (numbered k z))) ∷ []) × ((slab_of d.names ≡ slab_of d.names) × (k ≡ k) × (x ≡ z)) in
    use0 𝓛 (raw (fact 𝓤 Told)) (fact_i 𝓤 Told (emp 𝓤) (x, about.1, (refl, refl, refl))) $ nothing ! $ nothing ! $ fjoin ! $ nothing ! $ fjoin ! $ nothing ! $ fjoin ! $
    returns ! (look_at ! 0 refl) $ free_all ! refl $ keep ! (3 ∷ 0 ∷ 2 ∷ 1 ∷ []) $ by ! (leaves 𝓛 En hs c y token r (tt, (tt, (tt, tt))) (tt, (tt, (tt, tt))))))))
