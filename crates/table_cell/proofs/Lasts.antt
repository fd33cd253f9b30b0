-- The ghost steps of latest words. Assumes `Logic`.
--     becomes_nameable      what a load of a shared word shows, which a note has seen set, may stand beside its address in a latest word
--     reads, stores      a load and a store of a shared latest word: either leaves a note that a block was shown
use Rattle.std.specs.Prelude.{IsSome}
use Rattle.std.proofs.Common.{◌≡◌, ℕ, Bool, [], ◌∷◌, Option, Some, None, refl, sym}
use seplogic.Ra.Ura.{Ura}
use mir.Syntax.{Ty}
use base.Logic.{SProp, ent, sep, ex, upd, upd_i}
use base.Fml.{Lft, Share, Fml, ftrue, fsep, fex, fobs, fauth, fres, flft, fbor}
use base.Stored.{Gv}
use types.Logic.{Logic, sem}
use types.Kit.{‵, raw, given, ◌⊛◌, later, ◌$◌, ◌∵◌, !, qed, learn, settle, move, keep, drop, split, fsplit, fjoin, fpick, fpack, rewrite, show, frame, check, assume, suffices, done, use1, use2, updating, await, now}
use types.Tokens.{res_dup}
use denote.Builtin.{unit}
use denote.RattleType.{RattleType}
use denote.RawPtr.{Ptr, block_ptr, null_ptr, Testable}
use denote.Steps.{nothing}
use denote.Param.Laws.{Laws, of_field}
use denote.Param.Shared.{copy_shared}
use denote.Struct.Field.{unit-field}
use denote.Struct.Laws.{unit-laws, unit-copy}
use denote.Struct.Lending.{lent_at_shr_laws}
use Rattle.core.specs.Sync.RawAtomic.Pointer.{cell, asks_ptr}
use Rattle.core.proofs.raw_atomic.Asked.{borrowed_ptr, PtrLies}
use Rattle.table_cell.specs.Beside.{in_cell}
use Rattle.table_cell.specs.Notes.{code, learnt}
use Rattle.table_cell.specs.Words.{is_so, tested, named}
use Rattle.table_cell.specs.Latest.{named_so, nameable, unshown, was_shown, last}
use Rattle.table_cell.proofs.Moves as moves

abbrev of_unit : Laws unit
of_unit = of_field unit-field unit-laws refl (copy_shared unit-field unit-copy)

-- what a note knows once a block was shown
abbrev pub shown : Option unit.Denot
shown = Some tt

module _ {M : Type 1} {𝓤 : Ura M} (𝓛 : Logic 𝓤) (R : RattleType) (L : Laws R) (h : ℕ) where
  open 𝓛 use {H, A}

  abbrev Pr : Type 2
  Pr = SProp 𝓤

  abbrev ◌⊢◌ : Pr → Pr → Type 1
  P ⊢ Q = ent 𝓤 P Q

  abbrev ◌∗◌ : Pr → Pr → Pr
  P ∗ Q = sep 𝓤 P Q

  abbrev ⟦◌⟧ : Fml → Pr
  ⟦ P ⟧ = sem 𝓛 P

  infix 26 ◌⊢◌
  infixr 35 ◌∗◌
  module _ (Q : R.Denot → Type 0) where
    abbrev Nameable : Ptr → Fml
    Nameable = nameable R h Q

    twice : (p : Ptr) → ⟦ Nameable p ⟧ ⊢ ⟦ Nameable p ⟧ ∗ ⟦ Nameable p ⟧
    twice p = qed 𝓛 (‵ (Nameable p) ∷ []) ∵ fsplit ! $ fpick ! (λ low. move ! (1 ∷ []) $ fpick ! (λ x. let V : Fml = named R h p x in
        fsplit ! $ move ! (1 ∷ []) $ fpick ! (λ so. fpack ! (Q x) (λ _. ftrue) so $ move ! (1 ∷ []) $
        use1 𝓛 (‵ V ⊛ ‵ V) ((lent_at_shr_laws R L.shr_laws p x).contraction M 𝓤 𝓛 (h ∷ [])) $ split ! $
        -- [the name, twice; what is said of its value; that it may be compared]
        move ! (0 ∷ 2 ∷ []) $ fjoin ! $ fpack ! R.Denot (named_so R h Q p) x $ move ! (2 ∷ []) $ fpack ! (Testable p) (λ _. ftrue) low $ fjoin ! $ frame ! $
        nothing ! $ fpack ! (Q x) (λ _. ftrue) so $ move ! (1 ∷ []) $ fjoin ! $ fpack ! R.Denot (named_so R h Q p) x $ nothing ! $ fpack ! (Testable p) (λ _. ftrue) low $ fjoin ! $ done !)))

    module _ (i : ℕ) where
      abbrev Last : Ptr → Fml
      Last = last R h i Q

      abbrev knows : Option unit.Denot → Fml
      knows = learnt unit i

      -- what a load takes away with a note that knows j
      abbrev pub glance : Option unit.Denot → Ptr → Fml
      glance j null_ptr = is_so (j ≡ None)
      glance j (block_ptr b o) = fsep (knows shown) (Nameable (block_ptr b o))

      peek : (j : Option unit.Denot) (p : Ptr) → ⟦ Last p ⟧ ∗ ⟦ knows j ⟧ ⊢ ⟦ Last p ⟧ ∗ ⟦ glance j p ⟧
      peek j null_ptr = qed 𝓛 (‵ (unshown i) ∷ ‵ (knows j) ∷ []) ∵ use2 𝓛 (given (j ≡ None) (‵ (unshown i))) (moves.nothing_known 𝓛 unit of_unit (λ _ _. ftrue) h i j) $ learn ! (λ n.
          nothing ! $ fpack ! (j ≡ None) (λ _. ftrue) n $ move ! (1 ∷ 0 ∷ []) $ done !)
      peek j (block_ptr b o) = let p : Ptr = block_ptr b o in let Told : Fml = moves.told 𝓛 unit of_unit (λ _ _. ftrue) h i None j tt in
          qed 𝓛 (‵ (Last p) ∷ ‵ (knows j) ∷ []) ∵ fsplit ! $ move ! (0 ∷ 2 ∷ []) $ use2 𝓛 (‵ (was_shown i) ⊛ ‵ Told) (moves.learns 𝓛 unit of_unit (λ _ _. ftrue) h i None j tt) $ split ! $
          -- [that one was shown; what the note learns; the name]
          move ! (2 ∷ []) $ use1 𝓛 (‵ (Nameable p) ⊛ ‵ (Nameable p)) (twice p) $ split ! $ move ! (2 ∷ 0 ∷ []) $ fjoin ! $ frame ! $
          move ! (1 ∷ []) $ fsplit ! $ move ! (1 ∷ []) $ drop ! $ move ! (0 ∷ 1 ∷ []) $ fjoin ! $ done !

      -- whatever was there, a block is shown from now on
      marks : (p : Ptr) → ⟦ Last p ⟧ ⊢ upd 𝓤 (⟦ was_shown i ⟧ ∗ ⟦ knows shown ⟧)
      marks null_ptr = let G : Pr = ⟦ was_shown i ⟧ ∗ ⟦ knows shown ⟧ in let none : Gv = code unit None in let some : Gv = code unit shown in
          qed 𝓛 (‵ (unshown i) ∷ []) ∵ use1 𝓛 (raw (upd 𝓤 (A.obs i some ∗ A.auth i some))) (𝓛.names.name_set_upd i none none some) $ settle 𝓛 G (‵ (fobs i some) ⊛ ‵ (fauth i some)) $ suffices ! _ (upd_i 𝓤 G) $ split ! $
          use1 𝓛 (‵ (fres i some)) (𝓛.names.obs-res i some) $ res_dup ! $ move ! (0 ∷ 2 ∷ []) $ fjoin ! $ done !
      marks (block_ptr b o) = let G : Pr = ⟦ was_shown i ⟧ ∗ ⟦ knows shown ⟧ in
          qed 𝓛 (‵ (Last (block_ptr b o)) ∷ []) ∵ suffices ! _ (upd_i 𝓤 G) $ fsplit ! $ fsplit ! $ res_dup ! $ move ! (0 ∷ 2 ∷ []) $ fjoin ! $ keep ! (0 ∷ 1 ∷ []) $ done !

      module _ (α : Lft) (b o : ℕ) (s : Share) where
        abbrev J : Fml
        J = in_cell Last b o

        abbrev at_word : Ptr → Fml
        at_word p = fsep (cell b o p) (Last p)

        module _ (j : Option unit.Denot) where
          abbrev Load : Ptr → Pr
          Load = PtrLies 𝓛 α s J b o Ptr (λ p. p) (λ p. p) (λ _. ftrue) (glance j)

          loaded : ⟦ J ⟧ ∗ ⟦ knows j ⟧ ⊢ upd 𝓤 (ex 𝓤 Load)
          loaded = qed 𝓛 (‵ J ∷ ‵ (knows j) ∷ []) ∵ suffices ! _ (upd_i 𝓤 (ex 𝓤 Load)) $ fpick ! (λ p. fsplit ! $ show ! Load p $ frame ! $ nothing ! $ frame ! $
              assume ! (‵ (cell b o p)) $ suffices ! _ (upd_i 𝓤 (⟦ J ⟧ ∗ ⟦ glance j p ⟧)) $ move ! (1 ∷ 2 ∷ []) $
              use2 𝓛 (‵ (Last p) ⊛ ‵ (glance j p)) (peek j p) $ split ! $ move ! (2 ∷ 0 ∷ []) $ fjoin ! $ fpack ! Ptr at_word p $ done !)

          pub reads : A.inv (fbor α J) ∗ (A.lft α s ∗ ⟦ knows j ⟧) ⊢ asks_ptr 𝓛 (block_ptr b o) (λ p. p) (λ p. fsep (flft α s) (glance j p))
          reads = borrowed_ptr 𝓛 α s J b o Ptr (λ p. p) (λ p. p) (λ _. ftrue) (glance j) ⟦ knows j ⟧ loaded

        module _ (nb no : ℕ) where
          abbrev new : Ptr
          new = block_ptr nb no

          abbrev Store : Ptr → Pr
          Store = PtrLies 𝓛 α s J b o Ptr (λ p. p) (λ _. new) (λ _. ftrue) (λ _. knows shown)

          stored : ⟦ J ⟧ ∗ ⟦ Nameable new ⟧ ⊢ upd 𝓤 (ex 𝓤 Store)
          stored = let G : Pr = ⟦ J ⟧ ∗ ⟦ knows shown ⟧ in qed 𝓛 (‵ J ∷ ‵ (Nameable new) ∷ []) ∵ suffices ! _ (upd_i 𝓤 (ex 𝓤 Store)) $ fpick ! (λ p. fsplit ! $ show ! Store p $ frame ! $ nothing ! $ frame ! $
              assume ! (‵ (cell b o new)) $ move ! (1 ∷ []) $ use1 𝓛 (raw (upd 𝓤 (⟦ was_shown i ⟧ ∗ ⟦ knows shown ⟧))) (marks p) $ settle 𝓛 G (‵ (was_shown i) ⊛ ‵ (knows shown)) $ suffices ! _ (upd_i 𝓤 G) $ split ! $
              -- [that one was shown; the note; the cell; the name]
              move ! (0 ∷ 3 ∷ []) $ fjoin ! $ move ! (2 ∷ 0 ∷ []) $ fjoin ! $ fpack ! Ptr at_word new $ keep ! (0 ∷ 1 ∷ []) $ done !)

          pub stores : A.inv (fbor α J) ∗ (A.lft α s ∗ ⟦ Nameable new ⟧) ⊢ asks_ptr 𝓛 (block_ptr b o) (λ _. new) (λ _. fsep (flft α s) (knows shown))
          stores = borrowed_ptr 𝓛 α s J b o Ptr (λ p. p) (λ _. new) (λ _. ftrue) (λ _. knows shown) ⟦ Nameable new ⟧ stored

  module _ (k : Ty → Ptr → Fml) (i : ℕ) (y : Bool) (v j : Option R.Denot) (Q Q' : R.Denot → Type 0) (unset : v ≡ None) (so : (x : R.Denot) → Q x → Q' x) (b o : ℕ) where
    abbrev Glimpse : Fml
    Glimpse = moves.glimpse 𝓛 R L k h i y v Q j (moves.unknown 𝓛 R L k h i y v Q j) (block_ptr b o)

    pub becomes_nameable : ⟦ Glimpse ⟧ ⊢ H.⇛ ⟦ nameable R h Q' (block_ptr b o) ⟧
    becomes_nameable = let p : Ptr = block_ptr b o in qed 𝓛 (‵ Glimpse ∷ []) ∵ updating ! $ fsplit ! $
        rewrite ! 0 (λ (u : Option R.Denot). ‵ (tested u p)) unset refl $ move ! (1 ∷ []) $ fpick ! (λ t. fsplit ! $ move ! (1 ∷ []) $ fpick ! (λ q. drop ! $
        use1 𝓛 (later (‵ (named R h p t.0))) (moves.settles 𝓛 R L k h p t) $ await ! tt $
        -- [the name; that it may be compared]
        nothing ! $ fpack ! (Q' t.0) (λ _. ftrue) (so t.0 q) $ move ! (1 ∷ []) $ fjoin ! $ fpack ! R.Denot (named_so R h Q' p) t.0 $ move ! (1 ∷ []) $ fjoin ! $ now ! $ done !))
