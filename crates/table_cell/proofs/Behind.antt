-- A `&` to a struct of a pointer and a marker is made of a borrow of it. Assumes `Logic`.
--     opens, in_place      the struct is laid open, and closes at any address with what is to stand beside that
--     in_two      a borrow of it, as two
--     lends      the `&`, of a borrow
--     behind_laws      what any two `&` to one struct say
use Rattle.std.proofs.Common.{◌≡◌, ℕ, ◌+◌, List, [], ◌∷◌, refl}
use seplogic.Ra.Ura.{Ura}
use mir.Val.{Val}
use base.Fraction.{full_share}
use base.Logic.{SProp, ent, sep, wand, ex, ex_i, all, all_e, upd_i, apply∗, id⊢, via, mono_r}
use base.Fml.{Lft, Share, Fml, ftrue, fsep, fseps, fex, fwand, fupd, fdead, fbor, flft, finv, Incl-refl}
use base.Before.{before}
use types.Logic.{Logic, sem}
use types.Kit.{‵, raw, ◌⊛◌, some, later, ◌$◌, ◌∵◌, !, qed, by, move, keep, drop, use0, use1, use2, use3, split, split3, fsplit, fsplit3, fjoin, fjoin3, fpick, fpack, pick, frame, each, assume, suffices, await, updating, now, done, rewrite}
use types.Tokens.{bor_open, obor_alter}
use types.Na.{before-Incl}
use denote.RattleType.{RattleType, Denots}
use denote.Memory.{part_of, part_at, cell_at, shared_of, lone}
use denote.RawPtr.{Ptr, block_ptr, null_ptr}
use denote.Steps.{nothing}
use denote.Sharing as lent
use denote.Sharing.{ShrLaws}
use denote.SharingLaws.{some_shr_laws, beside_shr_laws, ends_shr_laws, always_shr_laws}
use denote.Param.Laws.{Laws}
use denote.Struct.Struct.{Struct}
use denote.Struct.Members.{Member, rows_of, parts_at}
use denote.Struct.Parts.{shape_of, PartsBack, Struct-parts}
use Rattle.core.specs.Sync.Atomic.Pointer.{atomic_ptr_holding}
use Rattle.core.specs.Sync.RawAtomic.Pointer.{cell}
use Rattle.core.specs.contracts.atomic.ptr.AtomicPtr as atomic
use Rattle.core.proofs.atomic.ptr.AtomicPtr.TheLaws as atomic_laws
use Rattle.core.proofs.atomic.Lent as pointer
use Rattle.core.proofs.atomic.Lent.{rest, Way}
use Rattle.core.specs.contracts.marker.PhantomData as marker
use Rattle.core.proofs.marker.PhantomData.TheLaws as marker_laws
use Rattle.table_cell.specs.Beside.{addressed, in_cell, behind}

pub behind_laws : (R : RattleType) → Laws R → (stands : Ptr → Fml) (b o : ℕ) → ShrLaws (behind R stands (block_ptr b o))
behind_laws R L stands b o = let I : Lft → Lft → Fml = λ α. lent.beside (lent.ends α) (lent.always (fbor α (in_cell stands b (o + 0)))) in
    beside_shr_laws (lent.some Lft I) _ (some_shr_laws Lft I (λ α. beside_shr_laws _ _ (ends_shr_laws α) (always_shr_laws (fbor α (in_cell stands b (o + 0))))))
    ((atomic_laws.the_row_laws R L).shr_laws (atomic_ptr_holding null_ptr) b (o + 0))

module _ (R Y : RattleType) (L : Laws R) (LY : Laws Y) where
  abbrev members : List Member
  members = record { row = atomic.the_row R; ty = lone (atomic.the_row R).mir } ∷ record { row = marker.the_row Y; ty = lone (marker.the_row Y).mir } ∷ []

  abbrev pub Pair : RattleType
  Pair = Struct (shape_of [] members)

  abbrev pub holds : Ptr → Denots (rows_of members)
  holds p = (atomic_ptr_holding p, (record {}, tt))

  -- the struct in memory, with what stands beside its address
  abbrev pub InMemory : (Ptr → Fml) → ℕ → ℕ → Fml
  InMemory stands b o = fex (List Val) (λ us. fsep (cell_at full_share Pair.mir us b o) (addressed stands (λ p. Pair.own_val (holds p) us)))

  module _ {M : Type 1} {𝓤 : Ura M} (𝓛 : Logic 𝓤) (Beside : Ptr → Fml) (b o : ℕ) (κ : Lft) where
    open 𝓛 use {H, A}

    abbrev ⟦◌⟧ : Fml → SProp 𝓤
    ⟦ P ⟧ = sem 𝓛 P

    -- the two fields of a struct whose address is p, as one struct and each by itself
    abbrev Fields : Ptr → Fml
    Fields p = part_at Pair full_share (holds p) b o

    abbrev Apart : Ptr → Fml
    Apart p = parts_at full_share members 0 (holds p) b o

    abbrev Whole : Fml
    Whole = InMemory Beside b o

    -- what goes into the invariant, and what is lent beside it
    abbrev Inside : Fml
    Inside = in_cell Beside b (o + 0)

    abbrev Lent : List Fml
    Lent = Inside ∷ rest b (o + 0) ∷ []

    abbrev Open : Ptr → Fml
    Open p = fsep (cell b (o + 0) p) (fsep (Beside p) (rest b (o + 0)))

    abbrev Closes : SProp 𝓤
    Closes = all 𝓤 (λ (p : Ptr). wand 𝓤 ⟦ Open p ⟧ ⟦ Whole ⟧)

    joins : (p : Ptr) → ent 𝓤 (sep 𝓤 ⟦ Apart p ⟧ (PartsBack 𝓛 full_share [] members b o)) ⟦ Fields p ⟧
    joins p = via 𝓤 (sep 𝓤 ⟦ Apart p ⟧ (wand 𝓤 ⟦ Apart p ⟧ ⟦ Fields p ⟧))
        (mono_r 𝓤 ⟦ Apart p ⟧ (all_e 𝓤 (λ (a : Denots (rows_of members)). wand 𝓤 ⟦ parts_at full_share members 0 a b o ⟧ ⟦ part_at Pair full_share a b o ⟧) (holds p)))
        (apply∗ 𝓤 ⟦ Apart p ⟧ ⟦ Fields p ⟧)

    in_place : (p : Ptr) → ent 𝓤 (sep 𝓤 ⟦ Fields p ⟧ ⟦ Beside p ⟧) ⟦ Whole ⟧
    unfolding part_of
    in_place p = qed 𝓛 (‵ (Fields p) ∷ ‵ (Beside p) ∷ []) ∵ fpick ! (λ vs. fsplit ! $ move ! (1 ∷ 2 ∷ []) $ fjoin ! $
        fpack ! Ptr (λ r. fsep (Pair.own_val (holds r) vs) (Beside r)) p $ move ! (1 ∷ 0 ∷ []) $ fjoin ! $
        fpack ! (List Val) (λ us. fsep (cell_at full_share Pair.mir us b o) (addressed Beside (λ r. Pair.own_val (holds r) us))) vs $ done !)

    opens : ent 𝓤 ⟦ Whole ⟧ (sep 𝓤 (ex 𝓤 (λ (p : Ptr). ⟦ Open p ⟧)) Closes)
    unfolding part_of
    opens = qed 𝓛 (‵ Whole ∷ []) ∵ fpick ! (λ vs. fsplit ! $ move ! (1 ∷ []) $ fpick ! (λ p. fsplit ! $
        -- [the fields at vs; what stands beside p; where vs lies]
        move ! (2 ∷ 0 ∷ []) $ fjoin ! $ fpack ! (List Val) (λ us. fsep (cell_at full_share Pair.mir us b o) (Pair.own_val (holds p) us)) vs $
        use1 𝓛 (‵ (Apart p) ⊛ raw (PartsBack 𝓛 full_share [] members b o))
        (Struct-parts 𝓛 full_share [] members ((atomic_laws.the_row_laws R L).lawful 𝓛, ((marker_laws.the_row_laws Y LY).lawful 𝓛, tt)) (holds p) b o) $ split ! $ fsplit ! $
        use1 𝓛 (‵ (cell b (o + 0) p) ⊛ ‵ (rest b (o + 0)) ⊛ raw (Way 𝓛 R b (o + 0))) (pointer.opens 𝓛 R b (o + 0) p) $ split3 ! $
        -- [the cell; the rest of the pointer; its way; the mark; the way of the two; what stands beside p]
        move ! (5 ∷ 1 ∷ []) $ fjoin ! $ move ! (1 ∷ 0 ∷ []) $ fjoin ! $ use1 𝓛 (some (λ (s : Ptr). ‵ (Open s))) (ex_i 𝓤 (λ (s : Ptr). ⟦ Open s ⟧) p) $ frame ! $
        each ! (λ (s : Ptr). wand 𝓤 ⟦ Open s ⟧ ⟦ Whole ⟧) (λ s. assume ! (‵ (Open s)) $ fsplit3 ! $ move ! (0 ∷ 2 ∷ 3 ∷ []) $
        use3 𝓛 (‵ (part_at (atomic.the_row R) full_share (atomic_ptr_holding s) b (o + 0))) (pointer.shuts 𝓛 R b (o + 0) s) $
        -- [the pointer; what stands beside s; the mark; the way of the two]
        move ! (0 ∷ 2 ∷ []) $ fjoin ! $ move ! (0 ∷ 2 ∷ []) $ use2 𝓛 (‵ (Fields s)) (joins s) $ by ! (in_place s))))

    -- once the `&` is over
    closes_again : ent 𝓤 Closes ⟦ fwand (fsep (fdead κ) (fseps Lent)) (fupd Whole) ⟧
    unfolding fseps
    closes_again = qed 𝓛 (raw Closes ∷ []) ∵ assume ! (‵ (fsep (fdead κ) (fseps Lent))) $ suffices ! ⟦ Whole ⟧ (upd_i 𝓤 ⟦ Whole ⟧) $ fsplit ! $ drop ! $ fsplit3 ! $ fpick ! (λ p. fsplit ! $
        move ! (1 ∷ 2 ∷ []) $ fjoin ! $ move ! (1 ∷ 0 ∷ []) $ fjoin ! $ move ! (2 ∷ []) $ use1 𝓛 (raw (wand 𝓤 ⟦ Open p ⟧ ⟦ Whole ⟧)) (all_e 𝓤 (λ (s : Ptr). wand 𝓤 ⟦ Open s ⟧ ⟦ Whole ⟧) p) $
        keep ! (1 ∷ 0 ∷ []) $ by ! (apply∗ 𝓤 ⟦ Open p ⟧ ⟦ Whole ⟧))

    -- a borrow of the whole is one of what goes into the invariant, and one of the rest of the pointer
    pub in_two : (q : Share) → ent 𝓤 (sep 𝓤 (A.bor κ Whole) (A.lft κ q)) (H.⇛ (sep 𝓤 ⟦ fbor κ Inside ⟧ (sep 𝓤 ⟦ fbor κ (rest b (o + 0)) ⟧ (A.lft κ q))))
    unfolding fseps
    in_two q = qed 𝓛 (‵ (fbor κ Whole) ∷ ‵ (flft κ q) ∷ []) ∵ updating ! $ bor_open ! tt $ move ! (1 ∷ []) $ use1 𝓛 (some (λ (p : Ptr). ‵ (Open p)) ⊛ raw Closes) opens $ split ! $ pick ! (λ p. fsplit3 ! $
        -- [the cell; what stands beside p; the rest; how the struct closes; the open borrow]
        fjoin ! $ fpack ! Ptr (λ s. fsep (cell b (o + 0) s) (Beside s)) p $ nothing ! $ move ! (1 ∷ 2 ∷ 0 ∷ []) $ fjoin3 ! $ move ! (1 ∷ []) $
        use1 𝓛 (‵ (fwand (fsep (fdead κ) (fseps Lent)) (fupd Whole))) closes_again $ move ! (2 ∷ 1 ∷ 0 ∷ []) $ obor_alter ! tt Lent $
        use1 𝓛 (‵ (fbor κ Inside) ⊛ ‵ (fbor κ (rest b (o + 0))) ⊛ ‵ ftrue) (id⊢ 𝓤 _) $ split3 ! $ now ! $ keep ! (0 ∷ 1 ∷ 3 ∷ []) $ done !)

    pub lends : (q : Share) (W : Fml) → W ≡ Whole → ent 𝓤 (sep 𝓤 (A.bor κ W) (A.lft κ q)) (H.⇛ (sep 𝓤 ⟦ behind R Beside (block_ptr b o) κ ⟧ (A.lft κ q)))
    lends q W is = qed 𝓛 (‵ (fbor κ W) ∷ ‵ (flft κ q) ∷ []) ∵ updating ! $ rewrite ! 0 (λ (P : Fml). ‵ (fbor κ P)) is refl $
        use2 𝓛 (later (‵ (fbor κ Inside) ⊛ ‵ (fbor κ (rest b (o + 0))) ⊛ ‵ (flft κ q))) (in_two q) $ await ! tt $ split3 ! $
        use1 𝓛 (later (‵ (finv (fbor κ Inside)))) (𝓛.invs.inv_new (fbor κ Inside)) $ await ! tt $
        use0 𝓛 (‵ (before κ κ)) (before-Incl 𝓛 κ κ (Incl-refl κ)) $ fjoin ! $ fpack ! Lft (λ s. fsep (before κ s) (finv (fbor s Inside))) κ $ move ! (1 ∷ 2 ∷ []) $
        use2 𝓛 (later (‵ (shared_of (atomic.the_row R) (atomic_ptr_holding null_ptr) b (o + 0) κ) ⊛ ‵ (flft κ q))) (pointer.rest_shared 𝓛 R b (o + 0) null_ptr κ ((κ, q) ∷ []) (Incl-refl κ)) $ await ! tt $ split ! $
        move ! (2 ∷ 0 ∷ []) $ fjoin ! $ now ! $ keep ! (0 ∷ 1 ∷ []) $ done !
