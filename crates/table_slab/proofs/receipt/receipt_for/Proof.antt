-- The right to a number, given up, is a receipt.
use Rattle.std.proofs.Common.{◌≡◌, ℕ, [], ◌∷◌, refl, w64}
use Rattle.std.specs.Prelude.{Option, Some, IsSome}
use mir.Syntax.{a_type, dcons, dnil, named}
use mir.Val.{Val, vint, vptr}
use mir.MapTy.{inst_fn}
use base.Logic.{SProp, emp}
use types.Kit.{‵, raw, ◌⊛◌, ◌$◌, ◌∵◌, !, qed, by, keep, move, split, join, fsplit, fsplit3, fjoin, use0, use1, use2, rewrite}
use types.Run.{no_more, and_then, returns, enter}
use types.ByLocal.{alloc_all, pass_all, free_all, look_at, get, sets}
use types.Part.{agg}
use contract.Monad.{fact, fact_i}
use contract.Running.{tables}
use denote.Exit.{yes, no}
use denote.RattleType.{RattleType, owns}
use denote.Signature.{types_at, plain}
use denote.Builtin.{RefOf, u64}
use denote.Ref.{shr_vals, shr_Tells}
use denote.Plain.{uint_vals, uint_Tells}
use denote.Steps.{nothing, heard}
use denote.Param.{param, bounded}
use denote.Triple.Entry.{alive}
use denote.Triple.Walked.{Stays, stay_dropped, walk_of, Goes-dropped}
use Rattle.std.proofs.raw_atomic.Walks.{proved, leaves}
use Rattle.table_slab.specs.Rights.{room}
use Rattle.table_slab.specs.Slabs.{SlabView, IsSlot}
use Rattle.table_slab.specs.Shelved.{Spot, right}
use Rattle.table_slab.specs.Spent.{spent}
use Rattle.table_slab.specs.contracts.chunk.Chunk as Chunk
use Rattle.table_slab.specs.contracts.rights.Receipt as Receipt
use Rattle.table_slab.specs.contracts.rights.Room as Room
use Rattle.table_slab.specs.contracts.site.Site as Site
use Rattle.table_slab.specs.contracts.slab.Slab as Slab
use Rattle.table_slab.proofs.Made.{token_val, token_told, set_of}
use Rattle.table_slab.proofs.Received.{receipt_made}
use Rattle.table_slab.proofs.Shelved.{right_kept}
use Rattle.table_slab.proofs.Spent.{right_spends}
use Rattle.table_slab.specs.contracts.receipt.receipt_for as f
use Rattle.table_slab.proofs.receipt.receipt_for.Statement.{statement}
use Rattle.table_slab.proofs.receipt.receipt_for.Code as code

pub receipt_for_spec : {M : Type 1} → statement M
receipt_for_spec 𝓤 𝓛 𝓜 𝓡 wired T A L LA cp gl dl ga da gc dc _ _ _ =
    let H = 𝓛.H in let 𝓣 = tables 𝓤 H 𝓜 𝓡 𝓡.env in let R : RattleType = param 0 T in let En = f.ended T A gl dl ga da gc dc in let c = f.clauses T A gl dl ga da gc dc 𝓛 𝓜.mem 𝓡.returns in
    let inst = bounded (a_type ∷ a_type ∷ []) (T, (A, tt)) (dcons dl (dcons da (dcons dc dnil))) in let fn = inst_fn inst code.function in
    let Rc : RattleType = Receipt.the_row R in let Sl : RattleType = Slab.the_row R (param 1 A) ga in let St : RattleType = Site.the_row (Chunk.the_row R (param 1 A) ga) in let Rm : RattleType = Room.the_row R in
    let slab = RefOf (0 ∷ []) tt (plain (λ _. Sl)) (λ _. tt) in let number = plain (λ _. u64) in let site = plain (λ _. St) in let right_given = plain (λ _. Rm) in
    let hs : Stays En.signature.params En.kept = (stay_dropped slab yes, (stay_dropped number yes, (stay_dropped site no, (stay_dropped right_given no, tt)))) in
    proved 𝓛 En hs c 𝓜 𝓡 (Goes-dropped 𝓛 3 slab yes (λ κs x w. refl), (Goes-dropped 𝓛 3 number yes (λ κs x w. refl), (Goes-dropped 𝓛 3 site no (λ κs x w. refl), (Goes-dropped 𝓛 3 right_given no (λ κs x w. refl), tt)))) (f.Key.name inst) fn (code.unfolded 𝓤 H 𝓜 𝓡 wired (T, (A, tt)) dl da dc)
    (λ κs. (shr_vals, (uint_vals w64, ((λ x. token_val ∷ []), ((λ x. token_val ∷ []), tt))))) (λ κs. (shr_Tells (named 0) κs.0 Sl, (uint_Tells w64, ((λ x vs is. token_told (Chunk.the_row R (param 1 A) ga) vs is.0), ((λ x vs is. token_told R vs is.0), tt))))) (λ κs qs bounds a gh are.
    let s : SlabView = a.0.now in let k : ℕ = a.1.0 in let st = a.1.1.0 in let rm = a.1.1.1.0 in let at : Val = vptr a.0.ref_ptr.0 a.0.ref_ptr.1 in
    let y : (walk_of 𝓛 En hs c).Ghost = ((κs, qs, bounds, a, (at ∷ [], (vint w64 k ∷ [], (token_val ∷ [], (token_val ∷ [], tt))))), gh) in let Post : Val → SProp 𝓤 = (walk_of 𝓛 En hs c).post y in
    let z : Spot = record { cell = st.cell; names = st.value; of = rm.of } in let Of : Type 0 = IsSlot s k st.cell st.value rm.of in let Full : Type 0 = IsSome rm.value in
    qed 𝓛 ((raw (alive 𝓛 En.signature κs qs) ⊛ ‵ (owns (types_at En.signature.params κs) a y.0.4)) ∷ raw (fact 𝓤 _) ∷ raw (fact 𝓤 _) ∷ (raw (fact 𝓤 Of) ⊛ raw (fact 𝓤 Full)) ∷ []) ∵ move ! (3 ∷ 0 ∷ []) $ split ! $ heard ! Of (λ of. heard ! Full (λ full. keep ! (0 ∷ []) $
    let x : T.Denot = (set_of rm.value full).0 in let is : rm.value ≡ Some x = (set_of rm.value full).1 in
    -- [the tokens; what is passed]
    split ! $ move ! (1 ∷ []) $ fsplit3 ! $ move ! (2 ∷ []) $ fsplit3 ! $ fsplit ! $ move ! (2 ∷ []) $ fsplit ! $ keep ! (3 ∷ 1 ∷ 7 ∷ []) $
    -- [the cell; the right; the tokens]
    rewrite ! 1 (λ (v : Option T.Denot). ‵ (room R rm.of v)) is refl $ use2 𝓛 (‵ (right R s k (Some x))) (right_kept 𝓛 R s k z of (Some x)) $ use1 𝓛 (‵ (spent R s k x)) (right_spends 𝓛 R s k x) $
    let r : Rc.Denot = record { marker = record {}; slab = s; number = k; value = x } in use1 𝓛 (‵ (Rc.own_val r (token_val ∷ []))) (receipt_made 𝓛 R s k x) $
    enter ! 𝓣.C 𝓣.Λ fn (at ∷ vint w64 k ∷ token_val ∷ token_val ∷ []) Post $ alloc_all ! (λ l. pass_all ! refl ((tt, tt), ((tt, record { fits = are.1.0.1 }), ((tt, (tt, tt)), ((tt, (tt, tt)), tt)))) $
    sets ! (agg ! (no_more !)) refl (tt, tt) $ sets ! (agg ! (and_then ! (get ! refl) (no_more !))) refl (tt, (tt, tt)) $
    let One : Type 0 = (s ≡ s) × (k ≡ k) in let Value : Type 0 = rm.value ≡ Some x in
    use0 𝓛 (raw (fact 𝓤 Value)) (fact_i 𝓤 Value (emp 𝓤) is) $ use0 𝓛 (raw (fact 𝓤 One)) (fact_i 𝓤 One (emp 𝓤) (refl, refl)) $ join ! $
    nothing ! $ nothing ! $ fjoin ! $ nothing ! $ fjoin ! $ nothing ! $ fjoin ! $ nothing ! $ fjoin ! $
    returns ! (look_at ! 0 refl) $ free_all ! refl $ keep ! (3 ∷ 0 ∷ 2 ∷ 1 ∷ []) $ by ! (leaves 𝓛 En hs c y token_val r (tt, (tt, (tt, (tt, tt)))) (tt, (tt, (tt, (tt, tt)))))))))
