-- The right to a number is an update.
use Rattle.std.proofs.Common.{◌≡◌, ℕ, List, [], ◌∷◌, ◌++◌, refl, ap, ◌∙◌, w64}
use Rattle.std.specs.Prelude.{Option, Some, None, IsSome}
use mir.Syntax.{a_type, dcons, dnil, named}
use mir.Val.{Val, vint, vptr, vstruct, of_list}
use mir.MapTy.{inst_fn}
use base.Logic.{SProp, emp}
use types.Kit.{‵, raw, ◌⊛◌, ◌$◌, ◌∵◌, !, qed, by, move, keep, use0, use1, use2, split, join, fsplit, fsplit3, fjoin, rewrite}
use types.Run.{no_more, and_then, returns, enter}
use types.ByLocal.{alloc_all, pass_all, free_all, look_at, get, sets}
use types.Part.{agg}
use contract.Running.{tables}
use contract.Monad.{fact, fact_i}
use denote.Exit.{yes, no}
use denote.RattleType.{RattleType, owns}
use denote.Signature.{types_at, plain}
use denote.Steps.{nothing, heard}
use denote.Param.{param, bounded}
use denote.Builtin.{RefOf, u64}
use denote.Ref.{shr_vals, shr_Tells}
use denote.Plain.{uint_vals, uint_Tells}
use denote.Laws.{Is}
use denote.Struct.Struct.{Struct}
use denote.Struct.Owning.{shape}
use denote.Struct.Tuple.{Tuple}
use denote.Triple.Walked.{Stays, stay_dropped, walk_of, Goes-dropped}
use Rattle.std.proofs.raw_atomic.Walks.{proved, leaves}
use Rattle.logbook.specs.Kept.{offer_owns}
use Rattle.logbook.specs.contracts.tokens.Offer as Offer
use Rattle.logbook.specs.contracts.tokens.Seen as Seen
use Rattle.logbook.proofs.Fields.{token, Token, token_made}
use Rattle.table_slab.specs.Rights.{room}
use Rattle.table_slab.specs.Slabs.{IsSlot}
use Rattle.table_slab.specs.Shelved.{Spot, slab_of, right}
use Rattle.table_slab.specs.contracts.chunk.Chunk as Chunk
use Rattle.table_slab.specs.contracts.rights.Room as Room
use Rattle.table_slab.specs.contracts.site.Site as Site
use Rattle.table_chain.specs.declared.event.Event.{Event}
use Rattle.table_chain.specs.declared.event.Stored.TheVariants.{Shown}
use Rattle.table_chain.specs.History.{event, Moved}
use Rattle.table_chain.specs.Kept.{all_kept, traded}
use Rattle.table_chain.specs.contracts.event.Event as Events
use Rattle.table_chain.specs.contracts.rule.ChainRule as ChainRule
use Rattle.table_chain.specs.contracts.rule.ChainRuleRuleEventU64.TheImpl as rule_impl
use Rattle.table_chain.specs.contracts.trade.Trade as Trade
use Rattle.table_chain.specs.contracts.trade.TradeGainEventU64.TheImpl as gain_impl
use Rattle.table_chain.proofs.Trades as trades
use Rattle.table_slab.proofs.Made.{token_told, set_of}
use Rattle.table_slab.proofs.Shelved.{right_kept}
use Rattle.table_chain.specs.contracts.trade.offering.{ended, clauses}
use Rattle.table_chain.specs.contracts.trade.offering.Key.{name as #self}
use Rattle.table_chain.proofs.trade.offering.Statement.{statement}
use Rattle.table_chain.proofs.trade.offering.Code as code

site_told : (R : RattleType) (vs : List Val) → Is (Struct (shape (Site.the_type R))) (record {}, tt) vs → vs ≡ token ∷ []
site_told R vs is = is.1.0 ∙ ap (λ (ws : List Val). vstruct (of_list (ws ++ [])) ∷ []) is.1.1.0.1.0

pub offering_spec : {M : Type 1} → statement M
offering_spec 𝓤 𝓛 𝓜 𝓡 wired V L S LV LL LS g d gs ds dds _ _ _ =
    let H = 𝓛.H in let 𝓣 = tables 𝓤 H 𝓜 𝓡 𝓡.env in let R : RattleType = param 0 V in let W : RattleType = param 1 L in let En = ended V L S g d gs ds dds in
    let inst = bounded (a_type ∷ a_type ∷ a_type ∷ []) (V, (L, (S, tt))) (dcons d (dcons ds (dcons dds dnil))) in let fn = inst_fn inst code.function in let c = clauses V L S g d gs ds dds 𝓛 𝓜.mem 𝓡.returns in
    let E' : RattleType = Events.the_row R in let P' : RattleType = ChainRule.the_row R W in let G' : RattleType = Trade.the_row R in let rl = rule_impl.ghosts R W g rule_impl.no_dict in let gg = gain_impl.ghosts R in
    let Sn : RattleType = Seen.the_row E' u64 P' rl in let Off : RattleType = Offer.the_row E' u64 P' G' rl gg in let Ck : RattleType = Chunk.the_row R (param 2 S) gs in let St : RattleType = Site.the_row Ck in let Rm : RattleType = Room.the_row R in
    let seen = RefOf (0 ∷ []) tt (plain (λ _. Sn)) (λ _. tt) in let a_site = plain (λ _. St) in let a_room = plain (λ _. Rm) in let number = plain (λ _. u64) in
    let hs : Stays En.signature.params En.kept = (stay_dropped seen yes, (stay_dropped number yes, (stay_dropped number yes, (stay_dropped a_site no, (stay_dropped a_room no, tt))))) in
    proved 𝓛 En hs c 𝓜 𝓡 (Goes-dropped 𝓛 4 seen yes (λ κs x f. refl), (Goes-dropped 𝓛 4 number yes (λ κs x f. refl), (Goes-dropped 𝓛 4 number yes (λ κs x f. refl), (Goes-dropped 𝓛 4 a_site no (λ κs x f. refl), (Goes-dropped 𝓛 4 a_room no (λ κs x f. refl), tt))))) (#self inst) fn (code.unfolded 𝓤 H 𝓜 𝓡 wired (V, (L, (S, tt))) d ds dds)
    (λ κs. (shr_vals, (uint_vals w64, (uint_vals w64, ((λ x. token ∷ []), ((λ x. token ∷ []), tt)))))) (λ κs. (shr_Tells (named 0) κs.0 Sn, (uint_Tells w64, (uint_Tells w64, ((λ x vs is. site_told Ck vs is.0), ((λ x vs is. token_told R vs is.0), tt)))))) (λ κs qs bounds a gh are.
    let names : List ℕ = a.0.now.names in let p : ℕ = a.1.0 in let k : ℕ = a.1.1.0 in let st = a.1.1.1.0 in let rm = a.1.1.1.1.0 in let at : Val = vptr a.0.ref_ptr.0 a.0.ref_ptr.1 in
    let y : (walk_of 𝓛 En hs c).Ghost = ((κs, qs, bounds, a, (at ∷ [], (vint w64 p ∷ [], (vint w64 k ∷ [], (token ∷ [], (token ∷ [], tt)))))), gh) in let Post : Val → SProp 𝓤 = (walk_of 𝓛 En hs c).post y in
    let Of : Type 0 = IsSlot (slab_of names) k st.cell st.value rm.of in let Full : Type 0 = IsSome rm.value in
    qed 𝓛 ((raw (denote.Triple.Entry.alive 𝓛 En.signature κs qs) ⊛ ‵ (owns (types_at En.signature.params κs) a y.0.4)) ∷ raw (fact 𝓤 _) ∷ raw (fact 𝓤 _) ∷ raw (fact 𝓤 _) ∷ (raw (fact 𝓤 Of) ⊛ raw (fact 𝓤 Full)) ∷ []) ∵ move ! (4 ∷ 0 ∷ []) $ split ! $ heard ! Of (λ of. heard ! Full (λ full. keep ! (0 ∷ []) $
    let x : V.Denot = (set_of rm.value full).0 in let is : rm.value ≡ Some x = (set_of rm.value full).1 in let e : Event V.Denot = event p k (Some (Shown x)) in
    -- [the tokens; what is passed]
    split ! $ move ! (1 ∷ []) $ fsplit3 ! $ move ! (2 ∷ []) $ fsplit3 ! $ move ! (1 ∷ []) $ fsplit ! $ move ! (3 ∷ []) $ fsplit ! $ fsplit ! $ keep ! (4 ∷ 1 ∷ 8 ∷ []) $
    -- [the chunk; the room; the tokens]
    rewrite ! 1 (λ (v : Option V.Denot). ‵ (room R rm.of v)) is refl $ let z : Spot = record { cell = st.cell; names = st.value; of = rm.of } in
    use2 𝓛 (‵ (right R (slab_of names) k (Some x))) (right_kept 𝓛 R (slab_of names) k z of (Some x)) $
    use1 𝓛 (‵ (offer_owns (all_kept R names) (Moved e) (traded R names (e ∷ [])) None)) (trades.offers 𝓛 R names p k x) $
    use0 𝓛 (‵ ((Token (Tuple (E' ∷ u64 ∷ P' ∷ G' ∷ []))).own_val (record {}, tt) (token ∷ []))) (token_made (Tuple (E' ∷ u64 ∷ P' ∷ G' ∷ [])) 𝓛) $ fjoin ! $
    let r : Off.Denot = record { marker = record {}; names = names; ask = e; about = e ∷ []; state = None } in
    enter ! 𝓣.C 𝓣.Λ fn (at ∷ vint w64 p ∷ vint w64 k ∷ token ∷ token ∷ []) Post $ alloc_all ! (λ l. pass_all ! refl ((tt, tt), ((tt, record { fits = are.1.0.1 }), ((tt, record { fits = are.1.1.0.1 }), ((tt, (tt, tt)), ((tt, (tt, tt)), tt))))) $
    sets ! (agg ! (no_more !)) refl (tt, tt) $ sets ! (agg ! (and_then ! (get ! refl) (no_more !))) refl (tt, (tt, tt)) $
    let Names : Type 0 = names ≡ names in let Ask : Type 0 = (z : V.Denot) × (rm.value ≡ Some z) × (e ≡ event p k (Some (Shown z))) in let About : Type 0 = e ∷ [] ≡ e ∷ [] in let State : Type 0 = mathlib.Core.Path.Path (Option ℕ) None None in
    use0 𝓛 (raw (fact 𝓤 State)) (fact_i 𝓤 State (emp 𝓤) refl) $ use0 𝓛 (raw (fact 𝓤 About)) (fact_i 𝓤 About (emp 𝓤) refl) $ join ! $ use0 𝓛 (raw (fact 𝓤 Ask)) (fact_i 𝓤 Ask (emp 𝓤) (x, is, refl)) $ join ! $ use0 𝓛 (raw (fact 𝓤 Names)) (fact_i 𝓤 Names (emp 𝓤) refl) $ join ! $
    nothing ! $ nothing ! $ fjoin ! $ nothing ! $ fjoin ! $ nothing ! $ fjoin ! $ nothing ! $ fjoin ! $ nothing ! $ fjoin ! $
    returns ! (look_at ! 0 refl) $ free_all ! refl $ keep ! (3 ∷ 0 ∷ 2 ∷ 1 ∷ []) $ by ! (leaves 𝓛 En hs c y token r (tt, (tt, (tt, (tt, (tt, tt))))) (tt, (tt, (tt, (tt, (tt, tt))))))))))
