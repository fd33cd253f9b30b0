-- Who has a `&` to a receipt, knows the cell and the slot too.
use Rattle.std.proofs.Common.{◌≡◌, [], ◌∷◌, refl}
use mir.Syntax.{a_type, dcons, dnil, named}
use mir.Val.{Val, vptr, vstruct, vcons, vnil}
use mir.MapTy.{inst_fn}
use base.Logic.{SProp, emp}
use types.Kit.{‵, raw, ◌⊛◌, ◌$◌, ◌∵◌, !, qed, by, keep, move, drop, split, join, fsplit, fsplit3, fjoin, fpick, use0, use1}
use types.Run.{no_more, and_then, returns, enter}
use types.ByLocal.{alloc_all, pass_all, free_all, look_at, get, sets}
use types.Part.{agg}
use contract.Monad.{fact, fact_i}
use contract.Running.{tables}
use denote.Exit.{yes}
use denote.RattleType.{RattleType, owns}
use denote.Signature.{types_at, plain}
use denote.Builtin.{RefOf}
use denote.Ref.{shr_vals, shr_Tells}
use denote.Steps.{nothing}
use denote.Param.{param, bounded, layout}
use denote.Struct.Tuple.{Tuple}
use denote.Triple.Entry.{alive}
use denote.Triple.Walked.{Stays, stay_dropped, walk_of, Goes-dropped}
use Rattle.std.proofs.raw_atomic.Walks.{proved, leaves}
use Rattle.core.proofs.cell.Inside.{Good}
use Rattle.table_slab.specs.Slabs.{IsSlot}
use Rattle.table_slab.specs.Shelved.{standing}
use Rattle.table_slab.specs.contracts.chunk.Chunk as Chunk
use Rattle.table_slab.specs.contracts.rights.Receipt as Receipt
use Rattle.table_slab.specs.contracts.rights.Written as Written
use Rattle.table_slab.specs.contracts.site.Site as Site
use Rattle.table_slab.proofs.Made.{token_val, written_made, pair_in}
use Rattle.table_slab.proofs.Received.{receipt_shown}
use Rattle.table_slab.proofs.Sites.{site_made}
use Rattle.table_slab.specs.contracts.receipt.shown as f
use Rattle.table_slab.proofs.receipt.shown.Statement.{statement}
use Rattle.table_slab.proofs.receipt.shown.Code as code

pub shown_spec : {M : Type 1} → statement M
shown_spec 𝓤 𝓛 𝓜 𝓡 wired T A L LA ga da dd _ _ =
    let H = 𝓛.H in let 𝓣 = tables 𝓤 H 𝓜 𝓡 𝓡.env in let R : RattleType = param 0 T in let En = f.ended T A ga da dd in let c = f.clauses T A ga da dd 𝓛 𝓜.mem 𝓡.returns in
    let inst = bounded (a_type ∷ a_type ∷ []) (T, (A, tt)) (dcons da (dcons dd dnil)) in let fn = inst_fn inst code.function in
    let Rc : RattleType = Receipt.the_row R in let X : RattleType = Chunk.the_row R (param 1 A) ga in let St : RattleType = Site.the_row X in let Wr : RattleType = Written.the_row R in
    let receipt = RefOf (0 ∷ []) tt (plain (λ _. Rc)) (λ _. tt) in let hs : Stays En.signature.params En.kept = (stay_dropped receipt yes, tt) in let pair : Val = vstruct (vcons token_val (vcons token_val vnil)) in
    proved 𝓛 En hs c 𝓜 𝓡 (Goes-dropped 𝓛 3 receipt yes (λ κs x w. refl), tt) (f.Key.name inst) fn (code.unfolded 𝓤 H 𝓜 𝓡 wired (T, (A, tt)) da dd)
    (λ κs. (shr_vals, tt)) (λ κs. (shr_Tells (named 0) κs.0 Rc, tt)) (λ κs qs bounds a gh are.
    let r = a.0.now in let at : Val = vptr a.0.ref_ptr.0 a.0.ref_ptr.1 in
    let y : (walk_of 𝓛 En hs c).Ghost = ((κs, qs, bounds, a, (at ∷ [], tt)), gh) in let Post : Val → SProp 𝓤 = (walk_of 𝓛 En hs c).post y in
    qed 𝓛 ((raw (alive 𝓛 En.signature κs qs) ⊛ ‵ (owns (types_at En.signature.params κs) a y.0.4)) ∷ raw ((c κs a).requires gh) ∷ []) ∵
    split ! $ move ! (1 ∷ []) $ fsplit ! $ fsplit ! $ keep ! (1 ∷ 3 ∷ []) $ use1 𝓛 (‵ (standing R r.slab r.number r.value)) (receipt_shown 𝓛 R κs.0 a.0.ref_ptr.0 a.0.ref_ptr.1 r) $
    fpick ! (λ z. fsplit3 ! $ move ! (2 ∷ []) $ fpick ! (λ is. drop ! $
    let st : St.Denot = record { marker = record {}; cell = z.cell; value = z.names } in let wr : Wr.Denot = record { marker = record {}; of = z.of; value = r.value } in
    -- [the cell; the slot; the tokens]
    use1 𝓛 (‵ (St.own_val st (token_val ∷ []))) (site_made 𝓛 X z.cell z.names) $ move ! (1 ∷ []) $ use1 𝓛 (‵ (Wr.own_val wr (token_val ∷ []))) (written_made 𝓛 R z.of r.value) $ move ! (1 ∷ 0 ∷ []) $
    pair_in St Wr ! st wr token_val token_val $
    enter ! 𝓣.C 𝓣.Λ fn (at ∷ []) Post $ alloc_all ! (λ l. pass_all ! refl ((tt, tt), tt) $
    let tok : Good (layout Wr) token_val = (tt, (tt, tt)) in let both : Good (layout (Tuple (St ∷ Wr ∷ []))) pair = (tt, ((tt, tt), ((tt, tt), tt))) in
    sets ! (agg ! (no_more !)) refl (tt, tt) $ sets ! (agg ! (and_then ! (get ! refl) (no_more !))) refl tok $ sets ! (agg ! (no_more !)) refl (tt, tt) $ sets ! (agg ! (and_then ! (get ! refl) (no_more !))) refl tok $
    sets ! (agg ! (and_then ! (get ! refl) (and_then ! (get ! refl) (no_more !)))) refl both $
    let Of : Type 0 = IsSlot r.slab r.number z.cell z.names z.of in let Told : Type 0 = r.value ≡ r.value in
    use0 𝓛 (raw (fact 𝓤 Told)) (fact_i 𝓤 Told (emp 𝓤) refl) $ use0 𝓛 (raw (fact 𝓤 Of)) (fact_i 𝓤 Of (emp 𝓤) is) $ join ! $ nothing ! $ nothing ! $ fjoin ! $
    returns ! (look_at ! 0 refl) $ free_all ! refl $ keep ! (3 ∷ 0 ∷ 2 ∷ 1 ∷ []) $ by ! (leaves 𝓛 En hs c y pair (st, wr) (tt, tt) (tt, tt))))))
