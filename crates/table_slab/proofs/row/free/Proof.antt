-- The row and the right to free it are one block again, which goes back to the allocator.
use Rattle.std.proofs.Common.{◌≡◌, ℕ, ◌*◌, ◌^◌, ◌<◌, [], ◌∷◌, refl, ap, arith, length, w64}
use mir.Val.{Val, vint, vptr, vunit}
use mir.MapTy.{inst_fn}
use base.Logic.{SProp, emp, id⊢}
use base.Fml.{Lft, Share, Incl-trans, ftrue, flft}
use prog.Wp.{WpFn}
use types.Kit.{Item, Goal, prop, at_ret, ‵, raw, ◌⊛◌, ◌$◌, ◌∵◌, !, qed, by, move, keep, split, fsplit, fsplit3, regoal}
use types.Part.{sub, whole}
use types.Run.{stop, fld, unit_lit, of_opd, no_more, and_then, first, blocks, exec, returns, enter, align_word}
use types.ByLocal.{alloc_all, pass_all, free_all, look_at, get, get_in, sets, is, lands_last, env}
use contract.Monad.{fact}
use contract.BorrowLft.{◌⊑◌}
use contract.Running.{tables}
use denote.RattleType.{flat, owns}
use denote.Shadow.{pure_i}
use denote.Signature.{types_at}
use denote.Steps.{heard}
use denote.Builtin.{unit}
use denote.RawPtr.{Ptr, ptr_val, RawPtr}
use denote.Triple.Entry.{Vals}
use denote.Triple.Table.{framed}
use Rattle.std.proofs.raw_atomic.Walks.{proved_at}
use Rattle.core.specs.Mem.{type_size}
use Rattle.core.proofs.mem.Param.{El, R}
use Rattle.core.proofs.alloc.Calls.{Al}
use Rattle.core.proofs.slots.Leases.{args}
use Rattle.std_alloc.proofs.RcSteps.{word-Good}
use Rattle.std_alloc.proofs.VecSteps.Shapes.{after}
use Rattle.table_slab.proofs.Made.{token_val, token_told, word}
use Rattle.table_slab.proofs.Blocks.{bytes, joined, returned, Used, used, used_go, used_up, word_told}
use Rattle.table_slab.specs.contracts.row.free.{ended, clauses}
use Rattle.table_slab.specs.contracts.row.free.Key.{name as #self}
use Rattle.table_slab.proofs.row.free.Statement.{statement}
use Rattle.table_slab.proofs.row.free.Code as code

pub free_spec : {M : Type 1} → statement M
free_spec 𝓤 𝓛 𝓜 𝓡 wired T A LT LA g d drops met gone =
    let E : El = record { row = T; laws = LT } in let Z : Al = record { row = A; laws = LA; g = g; d = d; drops = drops } in
    let H = 𝓛.H in let 𝓣 = tables 𝓤 H 𝓜 𝓡 𝓡.env in let En = ended T A g d drops in let c = clauses T A g d drops 𝓛 𝓜.mem 𝓡.returns in let fn = inst_fn (args E Z) code.function in
    let params = En.signature.params in
    proved_at 𝓛 En (used params En.kept) c 𝓜 𝓡 (used_go 𝓛 params En.kept ((λ κs x w. tt), ((λ κs x w. tt), ((λ κs x w. tt), ((λ κs x w. tt), ((λ κs x w. tt), tt))))))
    (#self (args E Z)) fn (code.unfolded 𝓤 H 𝓜 𝓡 wired (T, (A, tt)) d drops) (λ y are.
    let κs = y.0.0 in let qs = y.0.1 in let a = y.0.3 in let vss = y.0.4 in let alloc = a.0 in let p : Ptr = a.1.0.at in let n : ℕ = a.1.1.0 in let row = a.1.1.1.0 in let deed = a.1.1.1.1.0 in let κ : Lft = κs.0 in let q : Share = qs.0 in let at : ℕ × ℕ = alloc.ref_ptr in
    let Post : Val → SProp 𝓤 = (Used 𝓛 En c).post y in let Given : Vals En.signature κs → Goal 𝓤 H = λ vss. prop (WpFn 𝓤 H 𝓣.C 𝓣.Λ fn (flat (types_at params κs) vss) Post) in
    let told : vss ≡ (vptr at.0 at.1 ∷ [], (word p ∷ [], (vint w64 n ∷ [], (token_val ∷ [], (token_val ∷ [], tt))))) = λ i. (are.0.0 i, (word_told p vss.1.0 are.1.0 i, (are.1.1.0.0 i, (token_told RawPtr vss.1.1.1.0 are.1.1.1.0.0 i, (token_told RawPtr vss.1.1.1.1.0 are.1.1.1.1.0.0 i, tt))))) in
    let Asked : Type 0 = (row.at ≡ p) × (length row.names ≡ n) × (deed.at ≡ p) × (deed.count ≡ n) × (deed.alloc ≡ alloc.now) in let Others : Item 𝓤 = ‵ (flft κs.1.0 qs.1.0) ⊛ ‵ (flft κs.1.1.0 qs.1.1.0) ⊛ ‵ ftrue in
    qed 𝓛 (((‵ (flft κ q) ⊛ Others) ⊛ ‵ (owns (types_at params κs) a vss)) ∷ raw (fact 𝓤 (κs.1.0 ⊑ T.lives)) ∷ raw (fact 𝓤 (κs.1.1.0 ⊑ A.lives)) ∷ raw (fact 𝓤 Asked) ∷ []) ∵
    move ! (3 ∷ 2 ∷ []) $ heard ! Asked (λ asked. heard ! (κs.1.1.0 ⊑ A.lives) (λ lasting. split ! $ move ! (1 ∷ []) $ fsplit3 ! $ move ! (2 ∷ []) $ fsplit3 ! $ move ! (2 ∷ []) $ fsplit ! $ fsplit ! $
    -- [a mark; the right to free; ..; the count; the row; the allocator; the start; the tokens; ..]
    move ! (4 ∷ []) $ fsplit ! $ move ! (6 ∷ []) $ fsplit ! $ move ! (9 ∷ []) $ split ! $ keep ! (5 ∷ 7 ∷ 3 ∷ 0 ∷ 1 ∷ []) $
    joined E Z ! p n alloc.now row.names row.at (deed.alloc, deed.at, deed.count) asked.0 asked.1 (λ i. (asked.4 i, asked.2 i, asked.3 i)) (λ b o is_block small. let size_fits : n * type_size (R E) < 2 ^ 64 = omega (arith, small) in
    -- [the room; the right to free it; a `&` to the allocator; κ's token; the others]
    regoal ! Given told refl $ enter ! 𝓣.C 𝓣.Λ fn (vptr at.0 at.1 ∷ word p ∷ vint w64 n ∷ token_val ∷ token_val ∷ []) Post $
    alloc_all ! (λ l. pass_all ! refl ((tt, tt), (word-Good [] p, ((tt, record { fits = are.1.1.0.1 }), ((tt, (tt, tt)), ((tt, (tt, tt)), tt))))) $ let Ev = env fn.locals l in first ! $ blocks ! $
    sets ! (is ! (of_opd ! (get_in ! (fld ! refl (stop !)) (sub ! 0 refl (whole !)))) (ap ptr_val is_block)) refl (tt, tt) $ sets ! (bytes E ! n size_fits (get ! refl)) refl (tt, record { fits = size_fits }) $
    returned E Z 𝓜.mem 𝓡.returns κ q at alloc.now n ! (framed 𝓤 H 𝓜 𝓣) (met.deallocate drops) (Incl-trans y.0.2.0 lasting) small b o (and_then ! (get ! refl) (and_then ! (get ! refl) (and_then ! (get ! refl) (and_then ! (align_word !) (no_more !))))) $
    lands_last ! refl (tt, tt) $ exec ! 𝓣.C 𝓣.Λ Ev (after 1 fn.body) (at_ret Ev Post) $ sets ! (of_opd ! (unit_lit !)) refl (tt, tt) $
    returns ! (look_at ! 0 refl) $ free_all ! refl $ pure_i ! (unit.own_val tt (vunit ∷ [])) tt refl $ by ! (used_up 𝓛 En c y vunit tt (tt, (tt, (tt, (tt, (tt, tt))))) (id⊢ 𝓤 (emp 𝓤))))))))
