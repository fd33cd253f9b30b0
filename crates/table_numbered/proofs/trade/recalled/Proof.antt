-- What stands beside a history has the facts.
use Rattle.std.proofs.Common.{ℕ, List, [], ◌∷◌, refl, w64}
use Rattle.std.specs.Prelude.{Some}
use mir.Syntax.{a_type, dcons, dnil, named}
use mir.Val.{Val, vint, vptr, vstruct, vcons, vnil}
use mir.MapTy.{inst_fn}
use base.Logic.{SProp, emp, guard}
use types.Logic.{sem}
use types.Kit.{‵, raw, ◌⊛◌, given, later, learn, ◌$◌, ◌∵◌, !, qed, by, move, keep, drop, use0, use1, split, join, fsplit, fsplit3, fjoin, fpick, await}
use types.Run.{no_more, and_then, returns, enter}
use types.ByLocal.{alloc_all, pass_all, free_all, look_at, get, sets}
use types.Part.{agg}
use contract.Running.{tables}
use contract.Monad.{fact, fact_i}
use denote.Exit.{yes}
use denote.RattleType.{RattleType, owns}
use denote.Signature.{types_at, plain}
use denote.Steps.{nothing, heard}
use denote.Opens.{unhide}
use denote.Param.{param, bounded, layout}
use denote.Builtin.{RefOf, u64}
use denote.Ref.{shr_vals, shr_Tells}
use denote.Plain.{uint_vals, uint_Tells}
use denote.Struct.Tuple.{Tuple}
use denote.Triple.Walked.{Stays, stay_dropped, walk_of, Goes-dropped}
use Rattle.std.proofs.raw_atomic.Walks.{proved, leaves}
use Rattle.logbook.specs.Kept.{Rules, rules}
use Rattle.logbook.specs.contracts.tokens.Seen as Seen
use Rattle.logbook.proofs.Fields.{token}
use Rattle.core.proofs.cell.Inside.{Good}
use Rattle.table_slab.specs.Slabs.{IsSlot}
use Rattle.table_slab.specs.Shelved.{slab_of, standing}
use Rattle.table_slab.specs.contracts.chunk.Chunk as Chunk
use Rattle.table_slab.specs.contracts.rights.Written as Written
use Rattle.table_slab.specs.contracts.site.Site as Site
use Rattle.table_slab.proofs.Made.{written_made, pair_in}
use Rattle.table_slab.proofs.Sites.{site_made}
use Rattle.table_numbered.proofs.Trades.{Happening}
use Rattle.table_numbered.specs.declared.event.Stored.TheVariants.{Entry}
use Rattle.table_numbered.specs.History.{event, Stands, IsEntry, OneValue}
use Rattle.table_numbered.specs.contracts.event.Event as Events
use Rattle.table_numbered.specs.contracts.event.Stored as Stores
use Rattle.table_numbered.specs.contracts.event.Numbered as Numbers
use Rattle.table_numbered.specs.Words.{numbered}
use Rattle.table_numbered.specs.contracts.rule.SetRule as SetRule
use Rattle.table_numbered.specs.contracts.rule.SetRuleRuleEventStoredNumberedU64.TheImpl as rule_impl
use Rattle.table_numbered.proofs.Trades as trades
use Rattle.table_numbered.proofs.Books as books
use Rattle.table_numbered.specs.contracts.trade.recalled.{ended, clauses}
use Rattle.table_numbered.specs.contracts.trade.recalled.Key.{name as #self}
use Rattle.table_numbered.proofs.trade.recalled.Statement.{statement}
use Rattle.table_numbered.proofs.trade.recalled.Code as code

pub recalled_spec : {M : Type 1} → statement M
recalled_spec 𝓤 𝓛 𝓜 𝓡 wired V L A LV LL LA g d ga da dd _ _ _ =
    let H = 𝓛.H in let 𝓣 = tables 𝓤 H 𝓜 𝓡 𝓡.env in let R : RattleType = param 0 V in let W : RattleType = param 1 L in let En = ended V L A g d ga da dd in
    let inst = bounded (a_type ∷ a_type ∷ a_type ∷ []) (V, (L, (A, tt))) (dcons d (dcons da (dcons dd dnil))) in let fn = inst_fn inst code.function in let c = clauses V L A g d ga da dd 𝓛 𝓜.mem 𝓡.returns in
    let E' : RattleType = Events.the_row (Stores.the_row (Numbers.the_row R)) in let P' : RattleType = SetRule.the_row R W in let rl = rule_impl.ghosts R W g rule_impl.no_dict in
    let Sn : RattleType = Seen.the_row E' u64 P' rl in let X : RattleType = Chunk.the_row R (param 2 A) ga in let St : RattleType = Site.the_row X in let Wr : RattleType = Written.the_row R in let pair : Val = vstruct (vcons token (vcons token vnil)) in
    let seen = RefOf (0 ∷ []) tt (plain (λ _. Sn)) (λ _. tt) in let number = plain (λ _. u64) in
    let hs : Stays En.signature.params En.kept = (stay_dropped seen yes, (stay_dropped number yes, tt)) in
    proved 𝓛 En hs c 𝓜 𝓡 (Goes-dropped 𝓛 4 seen yes (λ κs x f. refl), (Goes-dropped 𝓛 4 number yes (λ κs x f. refl), tt)) (#self inst) fn (code.unfolded 𝓤 H 𝓜 𝓡 wired (V, (L, (A, tt))) d da dd)
    (λ κs. (shr_vals, (uint_vals w64, tt))) (λ κs. (shr_Tells (named 0) κs.0 Sn, (uint_Tells w64, tt))) (λ κs qs bounds a gh are.
    let n = a.0.now in let names : List ℕ = n.names in let k : ℕ = a.1.0 in let at : Val = vptr a.0.ref_ptr.0 a.0.ref_ptr.1 in
    let y : (walk_of 𝓛 En hs c).Ghost = ((κs, qs, bounds, a, (at ∷ [], (vint w64 k ∷ [], tt))), gh) in let Post : Val → SProp 𝓤 = (walk_of 𝓛 En hs c).post y in
    let There : Type 0 = (q : ℕ) × (v : V.Denot) × Stands n.log q (numbered k v) in let rule : Rules (Happening V.Denot) = rules rl.holds rl.shows rl.keeps in
    qed 𝓛 ((raw (denote.Triple.Entry.alive 𝓛 En.signature κs qs) ⊛ ‵ (owns (types_at En.signature.params κs) a y.0.4)) ∷ raw (fact 𝓤 _) ∷ raw (fact 𝓤 _) ∷ raw (fact 𝓤 _) ∷ raw (fact 𝓤 There) ∷ []) ∵ keep ! (4 ∷ 0 ∷ []) $ heard ! There (λ there.
    let p : ℕ = there.0 in let x : V.Denot = there.1 in
    split ! $ move ! (1 ∷ []) $ fsplit ! $ fsplit ! $ keep ! (1 ∷ 3 ∷ []) $ unhide ! $ fsplit ! $ drop ! $
    use1 𝓛 (later (given (OneValue n.log) (‵ (standing R (slab_of names) k x)))) (books.recalls 𝓛 E'.coded rule n.book names n.log (guard 𝓤 (OneValue n.log) (sem 𝓛 (standing R (slab_of names) k x))) (λ log below. trades.has_earlier 𝓛 R names n.log log (event p (Some (Entry (numbered k x)))) below (trades.later n.log log p (Entry (numbered k x)) below there.2))) $
    enter ! 𝓣.C 𝓣.Λ fn (at ∷ vint w64 k ∷ []) Post $ alloc_all ! (λ l. pass_all ! refl ((tt, tt), ((tt, record { fits = are.1.0.1 }), tt)) $ await ! tt $ learn ! (λ one.
    fpick ! (λ z. fsplit3 ! $ move ! (2 ∷ []) $ fpick ! (λ is. drop ! $
    let st : St.Denot = record { marker = record {}; cell = z.cell; value = z.names } in let wr : Wr.Denot = record { marker = record {}; of = z.of; value = x } in
    -- [the cell; the slot; the tokens]
    use1 𝓛 (‵ (St.own_val st (token ∷ []))) (site_made 𝓛 X z.cell z.names) $ move ! (1 ∷ []) $ use1 𝓛 (‵ (Wr.own_val wr (token ∷ []))) (written_made 𝓛 R z.of x) $ move ! (1 ∷ 0 ∷ []) $
    pair_in St Wr ! st wr token token $
    let tok : Good (layout Wr) token = (tt, (tt, tt)) in let both : Good (layout (Tuple (St ∷ Wr ∷ []))) pair = (tt, ((tt, tt), ((tt, tt), tt))) in
    sets ! (agg ! (no_more !)) refl (tt, tt) $ sets ! (agg ! (and_then ! (get ! refl) (no_more !))) refl tok $ sets ! (agg ! (no_more !)) refl (tt, tt) $ sets ! (agg ! (and_then ! (get ! refl) (no_more !))) refl tok $
    sets ! (agg ! (and_then ! (get ! refl) (and_then ! (get ! refl) (no_more !)))) refl both $
    let Of : Type 0 = IsSlot (slab_of names) k z.cell z.names z.of in let Told : Type 0 = IsEntry n.log (numbered k x) in
    let One : Type 0 = OneValue n.log in use0 𝓛 (raw (fact 𝓤 One)) (fact_i 𝓤 One (emp 𝓤) one) $ use0 𝓛 (raw (fact 𝓤 Told)) (fact_i 𝓤 Told (emp 𝓤) (p, there.2)) $ join ! $ use0 𝓛 (raw (fact 𝓤 Of)) (fact_i 𝓤 Of (emp 𝓤) is) $ join ! $ nothing ! $ nothing ! $ fjoin ! $ nothing ! $ fjoin ! $
    returns ! (look_at ! 0 refl) $ free_all ! refl $ keep ! (3 ∷ 0 ∷ 2 ∷ 1 ∷ []) $ by ! (leaves 𝓛 En hs c y pair (st, wr) (tt, (tt, tt)) (tt, (tt, tt)))))))))
