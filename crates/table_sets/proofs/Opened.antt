-- A set's `&mut` is handed on to the lawful table in it. Assumes `Logic`.
--     hands      the loan of a set is the loan of its table, and the set ends as the entries of the table that this one ends with
use Rattle.std.proofs.Common.{◌≡◌, ◌+◌, List, [], ◌∷◌, ℕ, refl}
use Rattle.std.specs.declared.alloc.Allocator as allocator
use Rattle.table_generations.specs.declared.atomic_value.AtomicValue as atomic
use Rattle.table_held.specs.Table.{entries}
use Rattle.table_terms.specs.declared.law.Law as law
use Rattle.table_sets.specs.contracts.lawful.LawfulTable as lawful
use Rattle.table_sets.specs.contracts.set.HeldSet as set
use Rattle.table_sets.specs.contracts.set.HeldSet.TheInside as inside
use Rattle.table_sets.proofs.set.HeldSet.TheInside.TheLaws as inside-laws
use base.Fml.{Lft, GName, Share, flft, fobs, fbor}
use base.Fraction.{full_share}
use base.Logic.{SProp, ent, sep, ex, via}
use borrow.Struct.Lend.{kept_record, record_apart, record_fill}
use denote.Follow.{follows}
use denote.Memory.{lone, mem, part_at}
use denote.Model.Fields.{OwnsFields, view_owns, view_made, plain_out, Plain-in}
use denote.Param.Laws.{Laws}
use denote.RattleType.{RattleType}
use denote.Ref.{MutRef}
use mir.Syntax.{named}
use mir.Val.{Val, vptr}
use prog.Memory.{align, up}
use seplogic.Ra.Ura.{Ura}
use types.Follow.{takes_part}
use types.Kit.{Item, mean, ‵, ◌⊛◌, some, later, ◌$◌, ◌∵◌, !, qed, move, use1, split, split3, fjoin3, feq_i, group, pick, show, await, updating, now, done}
use types.Logic.{Logic, sem}
use types.Mut.{open_ref}
use types.SemTy.{Body}

module _ (T L C V : RattleType) (t : atomic.Ghosts T.Denot V.Denot) (l : law.Ghosts L.Denot V.Denot) (a : allocator.Ghosts C.Denot) where
  abbrev pub S : RattleType
  S = set.the_row T L C V t l a

  abbrev I : RattleType
  I = inside.the_row T L C V t l a

  abbrev pub W : RattleType
  W = lawful.the_row T L C V t l a

  -- where the table lies in the set
  abbrev pub at : ℕ
  at = up (align (lone W.mir)) 0

  -- the table in a set with these entries, and the name of its loan
  abbrev pub In : S.Denot → Type 0
  In d = ((y : W.Denot) × (entries y ≡ d)) × GName

  abbrev owns : OwnsFields S I
  owns = view_owns I S.Denot S.coded (set.the_view T L C V t l a) (set.the_invariant T L C V t l a)

  module _ (LT : Laws T) (LL : Laws L) (LC : Laws C) (LV : Laws V) {M : Type 1} {𝓤 : Ura M} (𝓛 : Logic 𝓤) where
    open 𝓛 use {H, A}

    abbrev Kept : I.Denot → ℕ → ℕ → Item 𝓤
    Kept x b o = kept_record (inside.the_type T L C V t l a) (inside-laws.the_loose T L C V t l a LT LL LC LV) 0 at (λ x. (x.lawful, tt)) (λ v. inside.the_ghost T.Denot L.Denot C.Denot V.Denot v) (λ v g. record { lawful = v.0 }) (λ v. tt) (λ x. refl) (λ v g. refl) (λ f. f) M 𝓤 𝓛 x b o

    apart : (x : I.Denot) (b o : ℕ) → ent 𝓤 (sem 𝓛 (part_at I full_share x b o)) (sep 𝓤 (sem 𝓛 (part_at W full_share x.lawful b (o + at))) (mean 𝓛 (Kept x b o)))
    apart x b o = record_apart (inside.the_type T L C V t l a) (inside-laws.the_loose T L C V t l a LT LL LC LV) 0 at (λ x. (x.lawful, tt)) (λ v. inside.the_ghost T.Denot L.Denot C.Denot V.Denot v) (λ v g. record { lawful = v.0 }) (λ v. tt) (λ x. refl) (λ v g. refl) (λ f. f) 𝓛 refl refl x b o

    fills : (x : I.Denot) (y : W.Denot) (b o : ℕ) → ent 𝓤 (sep 𝓤 (sem 𝓛 (part_at W full_share y b (o + at))) (mean 𝓛 (Kept x b o))) (sem 𝓛 (part_at S full_share (entries y) b o))
    fills x y b o = via 𝓤 (sem 𝓛 (part_at I full_share (record { lawful = y }) b o))
        (record_fill (inside.the_type T L C V t l a) (inside-laws.the_loose T L C V t l a LT LL LC LV) 0 at (λ x. (x.lawful, tt)) (λ v. inside.the_ghost T.Denot L.Denot C.Denot V.Denot v) (λ v g. record { lawful = v.0 }) (λ v. tt) (λ x. refl) (λ v g. refl) (λ f. f) refl (λ f. refl) M 𝓤 𝓛 x y b o)
        (Plain-in S I owns 𝓛 full_share (entries y) (record { lawful = y }) (view_made I S.Denot S.coded (set.the_view T L C V t l a) (set.the_invariant T L C V t l a) 𝓛 (entries y) (record { lawful = y }) (refl, tt)) b o)

    module _ (κ : Lft) (q : Share) (γ : GName) (b o : ℕ) (d : S.Denot) where
      abbrev pub Handed : In d → SProp 𝓤
      Handed h = sep 𝓤 (sem 𝓛 ((MutRef (named 0) κ W).own_val (record { ref_ptr = (b, o + at); ghost_name = h.1; now = h.0.0 }) (vptr b (o + at) ∷ []))) (sep 𝓤 (A.lft κ q) (sem 𝓛 (follows S W γ h.1 entries)))

      pub hands : ent 𝓤 (sep 𝓤 (A.obs γ (S.coded.code d)) (sep 𝓤 (A.bor κ (Body (mem S) b o γ)) (A.lft κ q))) (H.⇛ (ex 𝓤 Handed))
      hands = qed 𝓛 (‵ (fobs γ (S.coded.code d)) ∷ ‵ (fbor κ (Body (mem S) b o γ)) ∷ ‵ (flft κ q) ∷ []) ∵ updating ! $ open_ref ! tt (mem S) {b = b} {o = o} $
          use1 𝓛 (some (λ (x : (x : I.Denot) × owns.Known d x). ‵ (part_at I full_share x.0 b o))) (plain_out S I owns 𝓛 full_share d b o) $ pick ! (λ x.
          use1 𝓛 (‵ (part_at W full_share x.0.lawful b (o + at)) ⊛ Kept x.0 b o) (apart x.0 b o) $ split ! $ move ! (2 ∷ 3 ∷ 4 ∷ []) $ group ! 5 $
          use1 𝓛 (later (some (λ (γ' : GName). ‵ (fobs γ' (W.coded.code x.0.lawful)) ⊛ ‵ (fbor κ (Body (mem W) b (o + at) γ')) ⊛ ‵ (flft κ q) ⊛ ‵ (follows S W γ γ' entries))))
          (takes_part 𝓛 (mem S) (mem W) entries κ q b o b (o + at) γ (mean 𝓛 (Kept x.0 b o)) (λ w. fills x.0 w b o) (S.coded.code d) (S.coded.code d) x.0.lawful) $ await ! tt $ pick ! (λ γ'.
          -- [the name and the borrow of the table; the token; what follows]
          split3 ! $ feq_i ! (List Val) (vptr b (o + at) ∷ []) (vptr b (o + at) ∷ []) refl $ fjoin3 ! $
          now ! $ show ! Handed ((x.0.lawful, x.1.0), γ') $ done !))
