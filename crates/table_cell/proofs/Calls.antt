-- The two calls by which words are made, and what each leaves. Assumes `Logic`.
--     asks_low      who may free a block asks its allocator, and learns that it may be compared with null
--     makes_cell      a pointer cell is made at an address: with a marker, it is the fields of a word
use Rattle.std.proofs.Common.{◌≡◌, List, [], ◌∷◌, refl, ap}
use seplogic.Ra.Ura.{Ura}
use mir.Syntax.{Ty, Dict, Callee, Place, Opd as Operand, Body, seq, call}
use mir.Val.{Val, vunit}
use base.Logic.{emp, id⊢}
use base.Fml.{Lft, Share, ftrue, fsep, flft}
use prog.Model.{Model}
use prog.Wp.{Env}
use types.Logic.{Logic}
use types.Kit.{Item, Seq, Step, step, Post, runs, lands, settles, ‵, raw, ◌⊛◌, some, later, ◌$◌, move, drop, split, join, fsplit, fjoin, pick, use0, use1, await, rewrite, regoal, feq_i, feq_l}
use types.Run.{Opds}
use contract.Monad.{fact, fact_i}
use contract.BorrowLft.{◌⊑◌}
use contract.Running.{Running, MachineTables, tables}
use denote.Builtin.{unit}
use denote.Laws.{Is, shows}
use denote.Param.{param, layout}
use denote.Param.Laws.{Laws, param_laws}
use denote.RattleType.{RattleType}
use denote.RawPtr.{Ptr, ptr_val}
use denote.Steps.{nothing, only, heard, peeks}
use denote.Triple.Call.{calls_at, calls_at_last}
use denote.Triple.Clauses.{Lasts, lasts}
use denote.Triple.Spec.{triple_of}
use denote.Triple.Statement.{Contract, Triple}
use Rattle.core.specs.declared.alloc.Allocator.{Ghosts}
use Rattle.core.specs.contracts.atomic.ptr.AtomicPtr as atomic
use Rattle.core.specs.contracts.atomic.ptr.AtomicPtr.new as maker
use Rattle.core.proofs.atomic.ptr.AtomicPtr.TheLaws as atomic_laws
use Rattle.core.proofs.atomic.Steps.{fm}
use Rattle.core.proofs.cell.Inside.{Good, one}
use Rattle.std.specs.Sync.Atomic.Pointer.{atomic_ptr_value, atomic_ptr_holding}
use Rattle.table_cell.specs.Words.{testable}
use Rattle.table_cell.specs.declared.low.Low.{Ghosts as LowGhosts}
use Rattle.table_cell.specs.contracts.low.Low.show_low as shower
use Rattle.table_cell.proofs.Values.{marked, WithMark, word_in}

module _ {M : Type 1} {𝓤 : Ura M} (𝓛 : Logic 𝓤) (𝓜 : Model 𝓤 𝓛.H) (𝓡 : Running 𝓤 𝓛.H 𝓜) where
  open 𝓛 use {H}

  abbrev 𝓣 : MachineTables 𝓤 H 𝓜
  𝓣 = tables 𝓤 H 𝓜 𝓡 𝓡.env

  module _ (B : RattleType) (gl : LowGhosts B.Denot) (dl : Dict) (g : Ghosts B.Denot) (d dd : Dict) where
    abbrev Asks : Contract 𝓤
    Asks = triple_of 𝓛 (shower.signature B) (shower.spec B gl dl g d dd 𝓛 𝓜.mem 𝓡.returns)

    module _ (κ : Lft) (q : Share) (p : Ptr) (a : B.Denot) (τ : Ty) where
      abbrev Alive : Item 𝓤
      Alive = ‵ (flft κ q) ⊛ ‵ ftrue

      -- of the block at p, which the allocator a gave for a value of the type τ
      abbrev asked : Asks.Ghost
      asked = (((κ, tt), (q, tt), tt, (p, tt), (ptr_val p ∷ [], tt)), (a, τ))

      module _ {K : Type 0} {Γ : List (Item 𝓤)} {E : Env 𝓤 H} {f : Callee} {xs : List Operand} {at : Place} {then : Post 𝓤 H} where
        pub asks_low : K → Triple 𝓤 (𝓣.C f) Asks → κ ⊑ B.lives → Opds K 𝓛 (raw (Asks.pre asked) ∷ Γ) E xs (ptr_val p ∷ [])
            → Step K 𝓛 (‵ (testable p) ∷ ‵ (g.dealloc_token a τ p) ∷ Alive ∷ Γ) (settles E at vunit then) (Alive ∷ ‵ (g.dealloc_token a τ p) ∷ Γ) (runs 𝓣.C 𝓣.Λ E (call f xs at) then)
        asks_low t met within reads = step (λ next. let Ended = shower.ended B gl dl g d dd in
            nothing t $ feq_i t _ (ptr_val p ∷ []) _ refl $ fjoin t $ move t (1 ∷ 0 ∷ []) $ join t $ move t (1 ∷ []) $
            use0 𝓛 (raw (fact 𝓤 (κ ⊑ B.lives))) (fact_i 𝓤 (κ ⊑ B.lives) (emp 𝓤) within) $ join t $ move t (1 ∷ 0 ∷ []) $ join t $ use1 𝓛 (raw (Asks.pre asked)) (id⊢ 𝓤 _) $
            calls_at_last t (fm 𝓛 𝓜 𝓡) Asks met asked reads (λ u.
            use1 𝓛 (later (some (λ (r : Unit {0}). (Alive ⊛ ‵ (unit.own_val r (u ∷ []))) ⊛ some (λ (end : Lasts Ended (κ, tt) (p, tt)). ‵ (lasts Ended (κ, tt) (p, tt) end) ⊛ ‵ (fsep (testable p) (g.dealloc_token a τ p))))))
            (id⊢ 𝓤 (Asks.post asked u)) $ await t tt $ pick t (λ r. split t $ move t (1 ∷ []) $ pick t (λ end. split t $ drop t $ fsplit t $ move t (2 ∷ []) $ split t $ move t (1 ∷ []) $ feq_l t (λ is.
            regoal t (λ (v : Val). settles E at v then) (ap only is) refl $ move t (1 ∷ 2 ∷ 0 ∷ []) $ next)))))

  module _ (T : RattleType) (L : Laws T) where
    abbrev Cell : RattleType
    Cell = atomic.the_row (param 0 T)

    abbrev Makes : Contract 𝓤
    Makes = triple_of 𝓛 (maker.signature T) (maker.spec T 𝓛 𝓜.mem 𝓡.returns)

    module _ (κ : Lft) (q : Share) (p : Ptr) where
      abbrev made_at : Makes.Ghost
      made_at = (((κ, tt), (q, tt), tt, (p, tt), (ptr_val p ∷ [], tt)), tt)

      module _ (Y : RattleType) {K : Type 0} {Γ : List (Item 𝓤)} {E : Env 𝓤 H} {f : Callee} {xs : List Operand} {at : Place} {rest : Body} {then : Post 𝓤 H} where
        pub makes_cell : K → Triple 𝓤 (𝓣.C f) Makes → κ ⊑ T.lives → Opds K 𝓛 (raw (Makes.pre made_at) ∷ Γ) E xs (ptr_val p ∷ [])
            → ((v : Val) → Good (layout Cell) v
            → Seq K 𝓛 (‵ ((WithMark Cell Y).own_val (atomic_ptr_holding p, (record {}, tt)) (marked v ∷ [])) ∷ ‵ (flft κ q) ∷ Γ) (lands 𝓣.C 𝓣.Λ E at v rest then))
            → Seq K 𝓛 (‵ (flft κ q) ∷ Γ) (runs 𝓣.C 𝓣.Λ E (seq (call f xs at) rest) then)
        makes_cell t met within reads next = let Ended = maker.ended T in
            nothing t $ move t (1 ∷ 0 ∷ []) $ join t $ nothing t $ feq_i t _ (ptr_val p ∷ []) _ refl $ fjoin t $ move t (1 ∷ 0 ∷ []) $ join t $
            nothing t $ use0 𝓛 (raw (fact 𝓤 (κ ⊑ T.lives))) (fact_i 𝓤 (κ ⊑ T.lives) (emp 𝓤) within) $ join t $ move t (1 ∷ 0 ∷ []) $ join t $ use1 𝓛 (raw (Makes.pre made_at)) (id⊢ 𝓤 _) $
            calls_at t (fm 𝓛 𝓜 𝓡) Makes met made_at reads (λ u.
            use1 𝓛 (later (some (λ (r : Cell.Denot). ((‵ (flft κ q) ⊛ ‵ ftrue) ⊛ ‵ (Cell.own_val r (u ∷ []))) ⊛ some (λ (end : Lasts Ended (κ, tt) (p, tt)). ‵ (lasts Ended (κ, tt) (p, tt) end) ⊛ raw (fact 𝓤 (atomic_ptr_value r ≡ p))))))
            (id⊢ 𝓤 (Makes.post made_at u)) $ await t tt $ pick t (λ r. split t $ move t (1 ∷ []) $ pick t (λ end. split t $ drop t $ heard t (atomic_ptr_value r ≡ p) (λ holds. split t $ split t $ move t (1 ∷ []) $ drop t $ move t (1 ∷ []) $
            peeks t Cell (Is Cell) (shows 𝓛 Cell) r (u ∷ []) (λ is. let v = one (layout Cell) (u ∷ []) (((atomic_laws.the_row_laws (param 0 T) (param_laws 0 T L)).lawful 𝓛).typed r (u ∷ []) is) in
            rewrite t 0 (λ (us : List Val). ‵ (Cell.own_val r us)) v.1 refl $ rewrite t 0 (λ (s : Ptr). ‵ (Cell.own_val (atomic_ptr_holding s) (v.0 ∷ []))) holds refl $
            word_in Cell Y (atomic_ptr_holding p) t v.0 $ regoal t (λ (w : Val). lands 𝓣.C 𝓣.Λ E at w rest then) (ap only v.1) refl $ next v.0 v.2)))))
