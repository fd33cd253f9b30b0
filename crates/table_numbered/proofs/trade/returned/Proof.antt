-- What came back is the right to the number.
use Rattle.std.proofs.Common.{◌≡◌, ℕ, List, [], ◌∷◌, refl, w64}
use Rattle.std.specs.Prelude.{Option, Some}
use mir.Syntax.{a_type, dcons, dnil}
use mir.Val.{Val, vint, vstruct, vcons, vnil}
use mir.MapTy.{inst_fn}
use base.Logic.{SProp, emp, id⊢}
use types.Kit.{‵, raw, ◌⊛◌, ◌$◌, ◌∵◌, !, qed, by, move, keep, drop, use0, use1, split, join, fsplit, fsplit3, fjoin, fpick, rewrite}
use types.Run.{no_more, and_then, returns, enter}
use types.ByLocal.{alloc_all, pass_all, free_all, look_at, get, sets}
use types.Part.{agg}
use contract.Running.{tables}
use contract.Monad.{fact, fact_i}
use denote.Exit.{yes, no}
use denote.RattleType.{RattleType, owns}
use denote.Signature.{types_at, plain}
use denote.Steps.{nothing, heard}
use denote.Param.{param, bounded, layout}
use denote.Builtin.{u64}
use denote.Plain.{uint_vals, uint_Tells}
use denote.Struct.Tuple.{Tuple}
use denote.Triple.Walked.{Stays, stay_dropped, walk_of, Goes-dropped}
use Rattle.std.proofs.raw_atomic.Walks.{proved, leaves}
use Rattle.logbook.specs.contracts.tokens.Gained as Gained
use Rattle.logbook.proofs.Fields.{token, token_told}
use Rattle.core.proofs.cell.Inside.{Good}
use Rattle.table_slab.specs.Slabs.{IsSlot}
use Rattle.table_slab.specs.Shelved.{slab_of, right}
use Rattle.table_slab.specs.contracts.chunk.Chunk as Chunk
use Rattle.table_slab.specs.contracts.rights.Room as Room
use Rattle.table_slab.specs.contracts.site.Site as Site
use Rattle.table_slab.proofs.Made.{room_made, pair_in}
use Rattle.table_slab.proofs.Sites.{site_made}
use Rattle.table_numbered.proofs.Trades.{Happening}
use Rattle.table_numbered.specs.declared.event.Stored.TheVariants.{Entry}
use Rattle.table_numbered.specs.History.{event}
use Rattle.table_numbered.specs.Kept.{traded}
use Rattle.table_numbered.specs.contracts.event.Event as Events
use Rattle.table_numbered.specs.contracts.event.Stored as Stores
use Rattle.table_numbered.specs.contracts.event.Numbered as Numbers
use Rattle.table_numbered.specs.Words.{numbered}
use Rattle.table_numbered.specs.contracts.trade.Trade as Trade
use Rattle.table_numbered.specs.contracts.trade.TradeGainEventStoredNumberedU64.TheImpl as gain_impl
use Rattle.table_numbered.specs.contracts.trade.returned.{ended, clauses}
use Rattle.table_numbered.specs.contracts.trade.returned.Key.{name as #self}
use Rattle.table_numbered.proofs.trade.returned.Statement.{statement}
use Rattle.table_numbered.proofs.trade.returned.Code as code

pub returned_spec : {M : Type 1} → statement M
returned_spec 𝓤 𝓛 𝓜 𝓡 wired V A LV LA ga da dd _ _ =
    let H = 𝓛.H in let 𝓣 = tables 𝓤 H 𝓜 𝓡 𝓡.env in let R : RattleType = param 0 V in let En = ended V A ga da dd in
    let inst = bounded (a_type ∷ a_type ∷ []) (V, (A, tt)) (dcons da (dcons dd dnil)) in let fn = inst_fn inst code.function in let c = clauses V A ga da dd 𝓛 𝓜.mem 𝓡.returns in
    let E' : RattleType = Events.the_row (Stores.the_row (Numbers.the_row R)) in let G' : RattleType = Trade.the_row R in let gg = gain_impl.ghosts R in let All : RattleType = Tuple (E' ∷ u64 ∷ G' ∷ []) in
    let Gd : RattleType = Gained.the_row E' u64 G' gg in let X : RattleType = Chunk.the_row R (param 1 A) ga in let St : RattleType = Site.the_row X in let Rm : RattleType = Room.the_row R in let pair : Val = vstruct (vcons token (vcons token vnil)) in
    let gained = plain (λ _. Gd) in let number = plain (λ _. u64) in
    let hs : Stays En.signature.params En.kept = (stay_dropped gained no, (stay_dropped number yes, (stay_dropped number yes, tt))) in
    proved 𝓛 En hs c 𝓜 𝓡 (Goes-dropped 𝓛 2 gained no (λ κs x f. refl), (Goes-dropped 𝓛 2 number yes (λ κs x f. refl), (Goes-dropped 𝓛 2 number yes (λ κs x f. refl), tt))) (#self inst) fn (code.unfolded 𝓤 H 𝓜 𝓡 wired (V, (A, tt)) da dd)
    (λ κs. ((λ x. token ∷ []), (uint_vals w64, (uint_vals w64, tt)))) (λ κs. ((λ x vs is. token_told All vs is.0), (uint_Tells w64, (uint_Tells w64, tt)))) (λ κs qs bounds a gh are.
    let d = a.0 in let p : ℕ = a.1.0 in let k : ℕ = a.1.1.0 in
    let y : (walk_of 𝓛 En hs c).Ghost = ((κs, qs, bounds, a, (token ∷ [], (vint w64 p ∷ [], (vint w64 k ∷ [], tt)))), gh) in let Post : Val → SProp 𝓤 = (walk_of 𝓛 En hs c).post y in
    let Lost : Type 0 = d.answer ≡ 0 in let About : Type 0 = (x : V.Denot) × (d.about ≡ event p (Some (Entry (numbered k x))) ∷ []) in
    qed 𝓛 ((raw (denote.Triple.Entry.alive 𝓛 En.signature κs qs) ⊛ ‵ (owns (types_at En.signature.params κs) a y.0.4)) ∷ raw (fact 𝓤 _) ∷ raw (fact 𝓤 _) ∷ (raw (fact 𝓤 Lost) ⊛ raw (fact 𝓤 About)) ∷ []) ∵ move ! (3 ∷ 0 ∷ []) $ split ! $ heard ! Lost (λ lost. heard ! About (λ about. keep ! (0 ∷ []) $
    let x : V.Denot = about.0 in let es : List (Happening V.Denot) = event p (Some (Entry (numbered k x))) ∷ [] in
    split ! $ move ! (1 ∷ []) $ fsplit ! $ fsplit ! $ keep ! (1 ∷ 3 ∷ []) $
    rewrite ! 0 (λ (n : ℕ). ‵ (traded R d.names d.about n)) lost refl $ rewrite ! 0 (λ (l : List (Happening V.Denot)). ‵ (traded R d.names l 0)) about.1 refl $
    use1 𝓛 (‵ (right R (slab_of d.names) k (Some x))) (id⊢ 𝓤 _) $ fpick ! (λ z. fsplit3 ! $ move ! (2 ∷ []) $ fpick ! (λ is. drop ! $
    let st : St.Denot = record { marker = record {}; cell = z.cell; value = z.names } in let rm : Rm.Denot = record { marker = record {}; of = z.of; value = Some x } in
    -- [the cell; the slot; the tokens]
    use1 𝓛 (‵ (St.own_val st (token ∷ []))) (site_made 𝓛 X z.cell z.names) $ move ! (1 ∷ []) $ use1 𝓛 (‵ (Rm.own_val rm (token ∷ []))) (room_made 𝓛 R z.of (Some x)) $ move ! (1 ∷ 0 ∷ []) $
    pair_in St Rm ! st rm token token $
    enter ! 𝓣.C 𝓣.Λ fn (token ∷ vint w64 p ∷ vint w64 k ∷ []) Post $ alloc_all ! (λ l. pass_all ! refl ((tt, (tt, tt)), ((tt, record { fits = are.1.0.1 }), ((tt, record { fits = are.1.1.0.1 }), tt))) $
    let tok : Good (layout Rm) token = (tt, (tt, tt)) in let both : Good (layout (Tuple (St ∷ Rm ∷ []))) pair = (tt, ((tt, tt), ((tt, tt), tt))) in
    sets ! (agg ! (no_more !)) refl (tt, tt) $ sets ! (agg ! (and_then ! (get ! refl) (no_more !))) refl tok $ sets ! (agg ! (no_more !)) refl (tt, tt) $ sets ! (agg ! (and_then ! (get ! refl) (no_more !))) refl tok $
    sets ! (agg ! (and_then ! (get ! refl) (and_then ! (get ! refl) (no_more !)))) refl both $
    let Of : Type 0 = IsSlot (slab_of d.names) k z.cell z.names z.of in let Told : Type 0 = (z : V.Denot) × (d.about ≡ event p (Some (Entry (numbered k z))) ∷ []) × (mathlib.Core.Path.Path (Option V.Denot) (Some x) (Some z)) in
    use0 𝓛 (raw (fact 𝓤 Told)) (fact_i 𝓤 Told (emp 𝓤) (x, about.1, refl)) $ use0 𝓛 (raw (fact 𝓤 Of)) (fact_i 𝓤 Of (emp 𝓤) is) $ join ! $ nothing ! $ nothing ! $ fjoin ! $ nothing ! $ fjoin ! $ nothing ! $ fjoin ! $
    returns ! (look_at ! 0 refl) $ free_all ! refl $ keep ! (3 ∷ 0 ∷ 2 ∷ 1 ∷ []) $ by ! (leaves 𝓛 En hs c y pair (st, rm) (tt, (tt, (tt, tt))) (tt, (tt, (tt, tt))))))))))
