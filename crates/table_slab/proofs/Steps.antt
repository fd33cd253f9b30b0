-- The ghost steps of a slot that is shared. Assumes `Logic`.
--     at_rest       what can be done while the slot's invariant lies open is done between two steps
--     takes_empty, leaves_full, takes_full, leaves_empty      the right goes to work, and is at rest again
--     shows         whoever knows that the value is there for good has a view of it
--     lends_out, takes_back, settles      a borrow of the value becomes a view, which can be taken back, or settled for good
use Rattle.std.proofs.Common.{◌≡◌, ℕ, [], ◌∷◌, ◌++◌, sym, refl, ap, arith}
use mathlib.Core.List.{not-mem-nil}
use seplogic.Ra.Ura.{Ura}
use base.Fraction.{full_share}
use base.Share
use base.Stored.{Gv, gnil, gnum, gcons, Coded}
use base.Logic.{SProp, ent, sep, wand, emp, guard, upd, upd_i, id⊢}
use base.Fml.{Lft, Incl, Incl-refl, Incl-trans, GName, Share, Fml, ftrue, fsep, fseps, fwand, fupd, fex, fobs, fauth, fres, fbor, flft, fdead, flent, finv, fnamed}
use base.Before.{before}
use contract.BorrowLft.{⊑_meet, meet_⊑_left, meet_⊑_right}
use ghost.Rules.{Toks, span}
use types.Logic.{Logic, sem, lfts}
use types.Kit.{mean, ‵, raw, ◌⊛◌, some, given, later, ◌$◌, ◌∵◌, !, qed, by, move, keep, drop, use0, use1, use2, split, join, fsplit, fsplit3, fjoin, fpick, fpack, pick, learn, check, frame, assume, suffices, await, updating, now, rewrite, settle, done}
use types.Tokens.{lft_new, lft_end, bor_new, lent_back, bor_fracture, bor_open, obor_alter}
use types.Na.{before-Incl, before_dup, before_lent}
use denote.RattleType.{RattleType, RowLaws}
use denote.Memory.{shared_of, part_at}
use denote.Shares.{Shares}
use denote.Steps.{nothing}
use denote.SharingLaws.{contraction}
use Rattle.core.proofs.cell.Borrows.{by_one}
use Rattle.core.specs.declared.option.Option.{Option}
use Rattle.core.specs.declared.option.Option.TheVariants.{None, Some}
use Rattle.std.specs.Coded.{coded_option}
use Rattle.table_slab.specs.Rights.{mark, content}
use Rattle.table_slab.specs.Kept.{Phase, idle, out, held, full, Stage, Turn, place, sign, codes, Value, view, mine, standing, Cell, kept}
use Rattle.table_slab.proofs.Tokens.{first, rest, number, kind}

module _ {M : Type 1} {𝓤 : Ura M} (𝓛 : Logic 𝓤) (R : RattleType) (γ : GName) (t : Turn) (b o : ℕ) where
  open 𝓛 use {H, A}

  abbrev Pr : Type 2
  Pr = SProp 𝓤

  abbrev ◌⊢◌ : Pr → Pr → Type 1
  P ⊢ Q = ent 𝓤 P Q

  abbrev ◌∗◌ : Pr → Pr → Pr
  P ∗ Q = sep 𝓤 P Q

  abbrev ◌-∗◌ : Pr → Pr → Pr
  P -∗ Q = wand 𝓤 P Q

  abbrev ⟦◌⟧ : Fml → Pr
  ⟦ P ⟧ = sem 𝓛 P

  infix 26 ◌⊢◌
  infixr 35 ◌∗◌
  infixr 30 ◌-∗◌
  abbrev α : Lft
  α = t.0

  abbrev η : GName
  η = t.1

  abbrev X : Type 0
  X = R.Denot

  abbrev coded : Coded (Option X)
  coded = coded_option R.coded

  abbrev code : Option X → Gv
  code = codes R

  abbrev I : Fml
  I = Cell R γ t b o

  abbrev V : Fml
  V = Value R γ t b o

  abbrev Standing : Stage X → Fml
  Standing = standing R γ t b o

  abbrev View : X → ℕ × Share → Fml
  View = view R γ t b o

  abbrev Mine : X → ℕ → Fml
  Mine = mine R γ t b o

  pub kept_dup : (κ : Lft) → ⟦ kept R γ t b o κ ⟧ ⊢ ⟦ kept R γ t b o κ ⟧ ∗ ⟦ kept R γ t b o κ ⟧
  kept_dup κ = qed 𝓛 (‵ (kept R γ t b o κ) ∷ []) ∵ fsplit ! $ use1 𝓛 (‵ (before κ α) ⊛ ‵ (before κ α)) (before_dup 𝓛 κ α) $ split ! $ move ! (2 ∷ []) $
      use1 𝓛 (‵ (finv (fbor α I)) ⊛ ‵ (finv (fbor α I))) (𝓛.invs.inv_dup (fbor α I)) $ split ! $ move ! (2 ∷ 0 ∷ []) $ fjoin ! $ move ! (2 ∷ 1 ∷ []) $ fjoin ! $ done !

  pub at_rest : (q : Share) (X' Z : Pr) → ⟦ I ⟧ ∗ X' ⊢ upd 𝓤 (⟦ I ⟧ ∗ Z) → A.inv (fbor α I) ∗ A.lft α q ∗ X' ⊢ H.⇛ (Z ∗ A.lft α q)
  at_rest q X' Z h = let G : Pr = ⟦ I ⟧ ∗ emp 𝓤 ∗ Z in qed 𝓛 (‵ (finv (fbor α I)) ∷ ‵ (flft α q) ∷ raw X' ∷ []) ∵ use1 𝓛 (some (λ (j : ℕ). ‵ (fnamed j (fbor α I)))) (𝓛.invs.inv_named (fbor α I)) $ pick ! (λ j.
      suffices ! _ (𝓛.invs.invs_bor_acc j α q I [] Z ((λ m. not-mem-nil m), tt)) $ nothing ! $ move ! (1 ∷ 0 ∷ []) $ fjoin ! $ frame ! $ frame ! $ assume ! (‵ I ⊛ ‵ ftrue) $ split ! $ move ! (0 ∷ 2 ∷ []) $
      use2 𝓛 (raw (upd 𝓤 (⟦ I ⟧ ∗ Z))) h $ settle 𝓛 G (‵ I ⊛ raw Z) $ suffices ! _ (upd_i 𝓤 G) $ split ! $ frame ! $ move ! (1 ∷ 0 ∷ []) $ join ! $ done !)

  -- ---- what stands is told by the right
  module _ (ε : GName) where
    abbrev at : Gv → Gv
    at m = gcons (gnum ε) m

    abbrev Told : Gv → Stage X → Type 0
    Told m s = at m ≡ gcons (gnum s.0) (sign R s.1)

    agrees : (m : Gv) (s : Stage X) → A.obs γ (at m) ∗ ⟦ Standing s ⟧ ⊢ guard 𝓤 (Told m s) (A.obs γ (at m) ∗ ⟦ Standing s ⟧)
    agrees m s = qed 𝓛 (‵ (fobs γ (at m)) ∷ ‵ (Standing s) ∷ []) ∵ move ! (1 ∷ []) $ fsplit ! $ fsplit ! $ fsplit ! $ move ! (4 ∷ 0 ∷ []) $
        use2 𝓛 (given (Told m s) (‵ (fobs γ (at m)) ⊛ ‵ (fauth γ (gcons (gnum s.0) (sign R s.1))))) (𝓛.names.name_agree γ (at m) (gcons (gnum s.0) (sign R s.1))) $ learn ! (λ e. check ! e $ split ! $ frame ! $
        move ! (0 ∷ 1 ∷ []) $ fjoin ! $ move ! (0 ∷ 1 ∷ []) $ fjoin ! $ move ! (0 ∷ 1 ∷ []) $ fjoin ! $ done !)

    -- the slot's invariant, and the right to it: what stands has the right's mark
    met : (m : Gv) (P : Fml) (Z : Pr) → ((s : Phase X) → m ≡ sign R s → ⟦ Standing (ε, s) ⟧ ∗ A.obs γ (at m) ∗ ⟦ P ⟧ ⊢ Z) → ⟦ I ⟧ ∗ A.obs γ (at m) ∗ ⟦ P ⟧ ⊢ Z
    met m P Z k = qed 𝓛 (‵ I ∷ ‵ (fobs γ (at m)) ∷ ‵ P ∷ []) ∵ fpick ! (λ s. move ! (1 ∷ 0 ∷ []) $ use2 𝓛 (given (Told m s) (‵ (fobs γ (at m)) ⊛ ‵ (Standing s))) (agrees m s) $ learn ! (λ e. split ! $ move ! (1 ∷ []) $
        rewrite ! 0 (λ (δ : GName). ‵ (Standing (δ, s.1))) (sym (ap (λ (g : Gv). number (first g)) e)) refl $ by ! (k s.1 (ap rest e))))

    abbrev pub Working : X → Fml
    Working x = fsep (fobs γ (at (gnum 1))) (fsep (fobs η (code (Some x))) (fex ℕ (Mine x)))

    abbrev pub Empty : Fml
    Empty = fsep (fobs γ (at (gnum 1))) (fsep (fobs η (code None)) (fbor α V))

    takes_empty_at : (s : Phase X) → gnil ≡ sign R s → ⟦ Standing (ε, s) ⟧ ∗ A.obs γ (at gnil) ∗ ⟦ ftrue ⟧ ⊢ upd 𝓤 (⟦ I ⟧ ∗ ⟦ Empty ⟧)
    takes_empty_at idle e = let Z : Pr = ⟦ I ⟧ ∗ ⟦ Empty ⟧ in qed 𝓛 (‵ (Standing (ε, idle)) ∷ ‵ (fobs γ (at gnil)) ∷ ‵ ftrue ∷ []) ∵ fsplit ! $ fsplit ! $ fsplit ! $
        -- [auth; nothing; tie; lent; obs; nothing]
        move ! (4 ∷ 0 ∷ []) $ use2 𝓛 (raw (upd 𝓤 (A.obs γ (at (gnum 1)) ∗ A.auth γ (at (gnum 1))))) (𝓛.names.name_set_upd γ (at gnil) (at gnil) (at (gnum 1))) $ settle 𝓛 Z (‵ (fobs γ (at (gnum 1))) ⊛ ‵ (fauth γ (at (gnum 1)))) $ suffices ! _ (upd_i 𝓤 Z) $ split ! $
        -- [obs; auth; nothing; tie; lent; nothing]
        move ! (1 ∷ 2 ∷ []) $ fjoin ! $ nothing ! $ move ! (1 ∷ 0 ∷ []) $ fjoin ! $ nothing ! $ move ! (1 ∷ 0 ∷ []) $ fjoin ! $ fpack ! (Stage X) Standing (ε, out) $ frame ! $ move ! (1 ∷ 2 ∷ []) $ fjoin ! $ move ! (1 ∷ 0 ∷ []) $ fjoin ! $ keep ! (0 ∷ []) $ done !
    takes_empty_at out e = absurd (let z : 0 ≡ 1 = ap kind e in omega arith)
    takes_empty_at (held x) e = absurd (let z : 0 ≡ 2 = ap kind e in omega arith)
    takes_empty_at (full x) e = absurd (let z : 0 ≡ 2 = ap kind e in omega arith)

    -- the right to an empty slot goes to work
    pub takes_empty : ⟦ I ⟧ ∗ A.obs γ (mark R ε None) ⊢ upd 𝓤 (⟦ I ⟧ ∗ ⟦ Empty ⟧)
    takes_empty = qed 𝓛 (‵ I ∷ ‵ (fobs γ (at gnil)) ∷ []) ∵ nothing ! $ move ! (1 ∷ 2 ∷ 0 ∷ []) $ by ! (met gnil ftrue (upd 𝓤 (⟦ I ⟧ ∗ ⟦ Empty ⟧)) takes_empty_at)

    abbrev Has : X → Fml
    Has x = fsep (fobs η (code (Some x))) (fex ℕ (Mine x))

    leaves_full_at : (x : X) (s : Phase X) → gnum 1 ≡ sign R s → ⟦ Standing (ε, s) ⟧ ∗ A.obs γ (at (gnum 1)) ∗ ⟦ Has x ⟧ ⊢ upd 𝓤 (⟦ I ⟧ ∗ A.obs γ (mark R ε (Some x)))
    leaves_full_at x idle e = absurd (let z : 1 ≡ 0 = ap kind e in omega arith)
    leaves_full_at x out e = let c : Gv = mark R ε (Some x) in let Z : Pr = ⟦ I ⟧ ∗ A.obs γ c in qed 𝓛 (‵ (Standing (ε, out)) ∷ ‵ (fobs γ (at (gnum 1))) ∷ ‵ (Has x) ∷ []) ∵ fsplit ! $ fsplit ! $ fsplit ! $
        -- [auth; nothing; nothing; nothing; obs; what the right has]
        move ! (5 ∷ []) $ fsplit ! $ move ! (6 ∷ 2 ∷ []) $ use2 𝓛 (raw (upd 𝓤 (A.obs γ c ∗ A.auth γ c))) (𝓛.names.name_set_upd γ (at (gnum 1)) (at (gnum 1)) c) $ settle 𝓛 Z (‵ (fobs γ c) ⊛ ‵ (fauth γ c)) $ suffices ! _ (upd_i 𝓤 Z) $ split ! $
        -- [obs; auth; tie; mine; ..]
        move ! (1 ∷ []) $ nothing ! $ move ! (1 ∷ 0 ∷ []) $ fjoin ! $ move ! (0 ∷ 2 ∷ []) $ fjoin ! $ move ! (0 ∷ 2 ∷ []) $ fjoin ! $ fpack ! (Stage X) Standing (ε, held x) $ keep ! (0 ∷ 1 ∷ []) $ done !
    leaves_full_at x (held z) e = absurd (let z : 1 ≡ 2 = ap kind e in omega arith)
    leaves_full_at x (full z) e = absurd (let z : 1 ≡ 2 = ap kind e in omega arith)

    pub leaves_full : (x : X) → ⟦ I ⟧ ∗ ⟦ Working x ⟧ ⊢ upd 𝓤 (⟦ I ⟧ ∗ A.obs γ (mark R ε (Some x)))
    leaves_full x = qed 𝓛 (‵ I ∷ ‵ (Working x) ∷ []) ∵ move ! (1 ∷ []) $ fsplit ! $ move ! (2 ∷ []) $ by ! (met (gnum 1) (Has x) (upd 𝓤 (⟦ I ⟧ ∗ A.obs γ (mark R ε (Some x)))) (leaves_full_at x))

    abbrev Lacks : Fml
    Lacks = fsep (fobs η (code None)) (fbor α V)

    leaves_empty_at : (s : Phase X) → gnum 1 ≡ sign R s → ⟦ Standing (ε, s) ⟧ ∗ A.obs γ (at (gnum 1)) ∗ ⟦ Lacks ⟧ ⊢ upd 𝓤 (⟦ I ⟧ ∗ A.obs γ (mark R ε None))
    leaves_empty_at idle e = absurd (let z : 1 ≡ 0 = ap kind e in omega arith)
    leaves_empty_at out e = let c : Gv = mark R ε None in let Z : Pr = ⟦ I ⟧ ∗ A.obs γ c in qed 𝓛 (‵ (Standing (ε, out)) ∷ ‵ (fobs γ (at (gnum 1))) ∷ ‵ Lacks ∷ []) ∵ fsplit ! $ fsplit ! $ fsplit ! $
        move ! (5 ∷ []) $ fsplit ! $ move ! (6 ∷ 2 ∷ []) $ use2 𝓛 (raw (upd 𝓤 (A.obs γ c ∗ A.auth γ c))) (𝓛.names.name_set_upd γ (at (gnum 1)) (at (gnum 1)) c) $ settle 𝓛 Z (‵ (fobs γ c) ⊛ ‵ (fauth γ c)) $ suffices ! _ (upd_i 𝓤 Z) $ split ! $
        move ! (1 ∷ []) $ nothing ! $ move ! (1 ∷ 0 ∷ []) $ fjoin ! $ move ! (0 ∷ 2 ∷ []) $ fjoin ! $ move ! (0 ∷ 2 ∷ []) $ fjoin ! $ fpack ! (Stage X) Standing (ε, idle) $ keep ! (0 ∷ 1 ∷ []) $ done !
    leaves_empty_at (held z) e = absurd (let z : 1 ≡ 2 = ap kind e in omega arith)
    leaves_empty_at (full z) e = absurd (let z : 1 ≡ 2 = ap kind e in omega arith)

    pub leaves_empty : ⟦ I ⟧ ∗ ⟦ Empty ⟧ ⊢ upd 𝓤 (⟦ I ⟧ ∗ A.obs γ (mark R ε None))
    leaves_empty = qed 𝓛 (‵ I ∷ ‵ Empty ∷ []) ∵ move ! (1 ∷ []) $ fsplit ! $ move ! (2 ∷ []) $ by ! (met (gnum 1) Lacks (upd 𝓤 (⟦ I ⟧ ∗ A.obs γ (mark R ε None))) leaves_empty_at)

    takes_full_at : (x : X) (s : Phase X) → gcons (R.coded.code x) gnil ≡ sign R s → ⟦ Standing (ε, s) ⟧ ∗ A.obs γ (mark R ε (Some x)) ∗ ⟦ ftrue ⟧ ⊢ upd 𝓤 (⟦ I ⟧ ∗ ⟦ Working x ⟧)
    takes_full_at x idle e = absurd (let z : 2 ≡ 0 = ap kind e in omega arith)
    takes_full_at x out e = absurd (let z : 2 ≡ 1 = ap kind e in omega arith)
    takes_full_at x (held z) e = let c : Gv = mark R ε (Some x) in let d : Gv = mark R ε (Some z) in let Z : Pr = ⟦ I ⟧ ∗ ⟦ Working x ⟧ in let same : z ≡ x = sym (R.coded.inj x z (ap first e)) in
        qed 𝓛 (‵ (Standing (ε, held z)) ∷ ‵ (fobs γ c) ∷ ‵ ftrue ∷ []) ∵ fsplit ! $ fsplit ! $ fsplit ! $ rewrite ! 2 (λ (u : X). ‵ (fobs η (code (Some u)))) same refl $ rewrite ! 3 (λ (u : X). ‵ (fex ℕ (Mine u))) same refl $
        move ! (4 ∷ 0 ∷ []) $ use2 𝓛 (raw (upd 𝓤 (A.obs γ (at (gnum 1)) ∗ A.auth γ (at (gnum 1))))) (𝓛.names.name_set_upd γ c d (at (gnum 1))) $ settle 𝓛 Z (‵ (fobs γ (at (gnum 1))) ⊛ ‵ (fauth γ (at (gnum 1)))) $ suffices ! _ (upd_i 𝓤 Z) $ split ! $
        move ! (1 ∷ 2 ∷ []) $ fjoin ! $ nothing ! $ move ! (1 ∷ 0 ∷ []) $ fjoin ! $ nothing ! $ move ! (1 ∷ 0 ∷ []) $ fjoin ! $ fpack ! (Stage X) Standing (ε, out) $ frame ! $ move ! (1 ∷ 2 ∷ []) $ fjoin ! $ move ! (1 ∷ 0 ∷ []) $ fjoin ! $ keep ! (0 ∷ []) $ done !
    takes_full_at x (full z) e = let c : Gv = mark R ε (Some x) in let d : Gv = mark R ε (Some z) in let n : Gv = at gnil in let Z : Pr = ⟦ I ⟧ ∗ ⟦ Working x ⟧ in
        -- the right is there still, so it could be used again, and no one can know the value for good
        qed 𝓛 (‵ (Standing (ε, full z)) ∷ ‵ (fobs γ c) ∷ ‵ ftrue ∷ []) ∵ fsplit ! $ fsplit ! $ fsplit ! $ move ! (4 ∷ 0 ∷ []) $ use2 𝓛 (raw (upd 𝓤 (A.obs γ n ∗ A.auth γ n))) (𝓛.names.name_set_upd γ c d n) $ settle 𝓛 Z (‵ (fobs γ n) ⊛ ‵ (fauth γ n)) $ split ! $
        move ! (2 ∷ 1 ∷ []) $ use2 𝓛 (given (d ≡ n) (‵ (fres γ d) ⊛ ‵ (fauth γ n))) (𝓛.names.res_agree γ d n) $ learn ! (λ f. absurd (let z : 2 ≡ 0 = ap (λ (g : Gv). kind (rest g)) f in omega arith))

    pub takes_full : (x : X) → ⟦ I ⟧ ∗ A.obs γ (mark R ε (Some x)) ⊢ upd 𝓤 (⟦ I ⟧ ∗ ⟦ Working x ⟧)
    takes_full x = qed 𝓛 (‵ I ∷ ‵ (fobs γ (mark R ε (Some x))) ∷ []) ∵ nothing ! $ move ! (1 ∷ 2 ∷ 0 ∷ []) $ by ! (met (content R (Some x)) ftrue (upd 𝓤 (⟦ I ⟧ ∗ ⟦ Working x ⟧)) (takes_full_at x))

  -- ---- the value for good
  module _ (K : RowLaws R) where
    halves : (x : X) (s : ℕ × Share) → ⟦ View x s ⟧ ⊢ ⟦ View x (s.0, Share.left s.1) ⟧ ∗ ⟦ View x (s.0, Share.right s.1) ⟧
    halves x s = let ν : Lft = s.0 ∷ [] in let both : Lft = s.0 ∷ α in let L : Lft → Fml = shared_of R x b o in
        qed 𝓛 (‵ (View x s) ∷ []) ∵ fsplit ! $ use1 𝓛 (‵ (flft ν (Share.left s.1)) ⊛ ‵ (flft ν (Share.right s.1))) (𝓛.lfts.lft_split ν s.1) $ split ! $ move ! (2 ∷ []) $
        use1 𝓛 (‵ (L both) ⊛ ‵ (L both)) (contraction 𝓛 L (K x b o) both) $ split ! $ move ! (2 ∷ 0 ∷ []) $ fjoin ! $ move ! (2 ∷ 1 ∷ []) $ fjoin ! $ move ! (1 ∷ 0 ∷ []) $ done !

    abbrev pub Shown : X → Fml
    Shown x = fex (ℕ × Share) (View x)

    abbrev Full : GName → X → Fml
    Full ε x = fsep (fauth γ (mark R ε (Some x))) (fsep (fres γ (mark R ε (Some x))) (fsep (fres η (code (Some x))) (Shown x)))

    stands_full : (ε : GName) (x : X) → ⟦ Full ε x ⟧ ⊢ ⟦ I ⟧ ∗ ⟦ Shown x ⟧
    stands_full ε x = qed 𝓛 (‵ (Full ε x) ∷ []) ∵ fsplit3 ! $ move ! (2 ∷ []) $ fsplit ! $ move ! (1 ∷ []) $ fpick ! (λ s. use1 𝓛 (‵ (View x (s.0, Share.left s.1)) ⊛ ‵ (View x (s.0, Share.right s.1))) (halves x s) $ split ! $
        -- [the one; the other; tie; auth; what is known]
        fpack ! (ℕ × Share) (View x) (s.0, Share.left s.1) $ move ! (3 ∷ 4 ∷ []) $ fjoin ! $ move ! (0 ∷ 3 ∷ []) $ fjoin ! $ fjoin ! $ fpack ! (Stage X) Standing (ε, full x) $ frame ! $ fpack ! (ℕ × Share) (View x) (s.0, Share.right s.1) $ done !)

    shows_at : (ε : GName) (x : X) (s : Phase X) → gcons (R.coded.code x) gnil ≡ sign R s → ⟦ Standing (ε, s) ⟧ ∗ A.res γ (mark R ε (Some x)) ⊢ upd 𝓤 (⟦ I ⟧ ∗ ⟦ Shown x ⟧)
    shows_at ε x idle e = absurd (let z : 2 ≡ 0 = ap kind e in omega arith)
    shows_at ε x out e = absurd (let z : 2 ≡ 1 = ap kind e in omega arith)
    shows_at ε x (held z) e = let same : z ≡ x = sym (R.coded.inj x z (ap first e)) in let c = code (Some x) in
        qed 𝓛 (‵ (Standing (ε, held z)) ∷ ‵ (fres γ (mark R ε (Some x))) ∷ []) ∵ rewrite ! 0 (λ (u : X). ‵ (Standing (ε, held u))) same refl $ suffices ! _ (upd_i 𝓤 (⟦ I ⟧ ∗ ⟦ Shown x ⟧)) $ fsplit ! $ fsplit ! $ fsplit ! $
        -- [auth; nothing; tie; mine; what is known]
        move ! (2 ∷ []) $ use1 𝓛 (‵ (fres η c)) (𝓛.names.obs-res η c) $ move ! (3 ∷ []) $ fpick ! (λ ν. fsplit ! $ fpack ! (ℕ × Share) (View x) (ν, full_share) $ move ! (2 ∷ 0 ∷ []) $ fjoin ! $ move ! (4 ∷ 0 ∷ []) $ fjoin ! $ move ! (2 ∷ 0 ∷ []) $ fjoin ! $ keep ! (0 ∷ []) $ by ! (stands_full ε x))
    shows_at ε x (full z) e = let same : z ≡ x = sym (R.coded.inj x z (ap first e)) in
        qed 𝓛 (‵ (Standing (ε, full z)) ∷ ‵ (fres γ (mark R ε (Some x))) ∷ []) ∵ rewrite ! 0 (λ (u : X). ‵ (Standing (ε, full u))) same refl $ suffices ! _ (upd_i 𝓤 (⟦ I ⟧ ∗ ⟦ Shown x ⟧)) $ fsplit ! $ fsplit ! $ fsplit ! $
        move ! (2 ∷ 3 ∷ []) $ fjoin ! $ move ! (2 ∷ 0 ∷ []) $ fjoin ! $ move ! (1 ∷ 0 ∷ []) $ fjoin ! $ keep ! (0 ∷ []) $ by ! (stands_full ε x)

    pub shows : (ε : GName) (x : X) → ⟦ I ⟧ ∗ A.res γ (mark R ε (Some x)) ⊢ upd 𝓤 (⟦ I ⟧ ∗ ⟦ Shown x ⟧)
    shows ε x = let c : Gv = mark R ε (Some x) in qed 𝓛 (‵ I ∷ ‵ (fres γ c) ∷ []) ∵ fpick ! (λ s. fsplit ! $ fsplit ! $ fsplit ! $ move ! (4 ∷ 0 ∷ []) $ let d : Gv = gcons (gnum s.0) (sign R s.1) in
        use2 𝓛 (given (c ≡ d) (‵ (fres γ c) ⊛ ‵ (fauth γ d))) (𝓛.names.res_agree γ c d) $ learn ! (λ e. split ! $ move ! (1 ∷ 2 ∷ []) $ fjoin ! $ move ! (0 ∷ 2 ∷ []) $ fjoin ! $ move ! (0 ∷ 2 ∷ []) $ fjoin ! $
        rewrite ! 0 (λ (δ : GName). ‵ (Standing (δ, s.1))) (sym (ap (λ (g : Gv). number (first g)) e)) refl $ by ! (shows_at ε x s.1 (ap rest e))))

    -- a view is settled for the turn
    pub settles : (x : X) → ⟦ Shown x ⟧ ⊢ H.⇛ ⟦ shared_of R x b o α ⟧
    settles x = let L : Lft → Fml = shared_of R x b o in qed 𝓛 (‵ (Shown x) ∷ []) ∵ updating ! $ fpick ! (λ s. let ν : Lft = s.0 ∷ [] in let both : Lft = s.0 ∷ α in fsplit ! $ bor_new ! tt α $ bor_fracture ! tt (λ q. flft ν q) s.1 $ move ! (1 ∷ []) $ drop ! $
        use0 𝓛 (‵ (before both both)) (before-Incl 𝓛 both both (Incl-refl both)) $ move ! (1 ∷ 0 ∷ []) $ use2 𝓛 (‵ (before α both)) (before_lent 𝓛 α ν both) $
        use2 𝓛 (‵ (L α)) ((K x b o).mono M 𝓤 𝓛 α both) $ now ! $ done !)

  -- ---- a borrow at a value that is known is a borrow of that value
  module _ (κ : Lft) (x : X) where
    abbrev Part : Fml
    Part = part_at R full_share x b o

    value_back : A.auth η (code (Some x)) ⊢ ⟦ fwand (fsep (fdead κ) (fseps (Part ∷ []))) (fupd V) ⟧
    unfolding fseps
    value_back = qed 𝓛 (‵ (fauth η (code (Some x))) ∷ []) ∵ assume ! (‵ (fsep (fdead κ) (fsep Part ftrue))) $ suffices ! ⟦ V ⟧ (upd_i 𝓤 ⟦ V ⟧) $ fsplit3 ! $ keep ! (1 ∷ 3 ∷ []) $ fjoin ! $
        fpack ! (Option X) (λ u. fsep (place R b o u) (fauth η (code u))) (Some x) $ done !

    -- P says which value it is
    pub pins : (P : Fml) → ((v : Option X) → ⟦ P ⟧ ∗ A.auth η (code v) ⊢ guard 𝓤 (code (Some x) ≡ code v) (⟦ P ⟧ ∗ A.auth η (code v))) → (q : Share)
        → (⟦ P ⟧ ∗ A.bor κ V) ∗ A.lft κ q ⊢ H.⇛ ((⟦ P ⟧ ∗ A.bor κ Part) ∗ A.lft κ q)
    unfolding fseps
    pins P says q = qed 𝓛 ((‵ P ⊛ ‵ (fbor κ V)) ∷ ‵ (flft κ q) ∷ []) ∵ updating ! $ split ! $ move ! (1 ∷ 2 ∷ []) $ bor_open ! tt $ move ! (1 ∷ []) $ fpick ! (λ v. fsplit ! $ move ! (3 ∷ 1 ∷ []) $
        use2 𝓛 (given (code (Some x) ≡ code v) (‵ P ⊛ ‵ (fauth η (code v)))) (says v) $ learn ! (λ e. let z : v ≡ Some x = sym (coded.inj (Some x) v e) in split ! $
        rewrite ! 1 (λ (u : Option X). ‵ (fauth η (code u))) z refl $ rewrite ! 2 (λ (u : Option X). ‵ (place R b o u)) z refl $ move ! (1 ∷ []) $
        use1 𝓛 (‵ (fwand (fsep (fdead κ) (fseps (Part ∷ []))) (fupd V))) value_back $ nothing ! $ move ! (3 ∷ 0 ∷ []) $ fjoin ! $ move ! (3 ∷ 0 ∷ 1 ∷ []) $ obor_alter ! tt (Part ∷ []) $
        use1 𝓛 (‵ (fbor κ Part) ⊛ ‵ ftrue) (id⊢ 𝓤 _) $ split ! $ now ! $ move ! (3 ∷ 0 ∷ []) $ join ! $ keep ! (0 ∷ 2 ∷ []) $ done !))

  -- ---- a borrow becomes a view
  module _ (u : Lft × Share) (us : Toks) where
    abbrev ts : Toks
    ts = u ∷ us

    abbrev Out : X → Pr
    Out x = mean 𝓛 (‵ (fobs η (code (Some x))) ⊛ ‵ (fex ℕ (Mine x)) ⊛ raw (lfts 𝓛 ts))

    within : (ν : ℕ) → Incl (span ts) α → Incl ((ν ∷ []) ++ span ts) (ν ∷ α)
    within ν sp = ⊑_meet ((ν ∷ []) ++ span ts) (ν ∷ []) α (meet_⊑_left (ν ∷ []) (span ts)) (Incl-trans (meet_⊑_right (ν ∷ []) (span ts)) sp)

    pub lends_out : (l : Lft) → Shares 𝓛 R l → Incl (span ts) l → Incl (span ts) α → (x : X)
        → A.obs η (code (Some x)) ∗ A.bor α V ∗ lfts 𝓛 ts ⊢ H.⇛ (Out x)
    lends_out l shares inc sp x = let c : Gv = code (Some x) in let P : Fml = fobs η c in
        qed 𝓛 (‵ (fobs η c) ∷ ‵ (fbor α V) ∷ raw (lfts 𝓛 ts) ∷ []) ∵ updating ! $ lft_new ! tt (λ ν. let both : Lft = ν ∷ α in let vs : Toks = (ν ∷ [], full_share) ∷ ts in
        -- [ν's token; obs; the borrow; the tokens]
        move ! (2 ∷ []) $ use1 𝓛 (later (‵ (fbor both V) ⊛ ‵ (flent both (fbor α V)))) (𝓛.more.bor_reborrow α both V (meet_⊑_right (ν ∷ []) α)) $ await ! tt $ split ! $
        -- [the reborrow; the way back; ν's token; obs; the tokens]
        move ! (2 ∷ 4 ∷ []) $ join ! $ use1 𝓛 (raw (lfts 𝓛 vs)) (id⊢ 𝓤 _) $ move ! (3 ∷ 1 ∷ []) $ join ! $ move ! (0 ∷ 1 ∷ []) $
        use2 𝓛 (later ((‵ P ⊛ ‵ (fbor both (Part both x))) ⊛ raw (lfts 𝓛 vs))) (by_one 𝓛 both vs (within ν sp) (A.obs η c ∗ A.bor both V) (A.obs η c ∗ A.bor both (Part both x)) (pins both x P (λ v. 𝓛.names.name_agree η c (code v)))) $ await ! tt $ split ! $ split ! $
        -- [obs; the borrow; the tokens; the way back]
        move ! (1 ∷ 2 ∷ []) $ use2 𝓛 (later (‵ (shared_of R x b o both) ⊛ raw (lfts 𝓛 vs))) (shares x both vs b o (Incl-trans (meet_⊑_right (ν ∷ []) (span ts)) inc) (within ν sp)) $ await ! tt $ split ! $
        move ! (1 ∷ []) $ use1 𝓛 (‵ (flft (ν ∷ []) full_share) ⊛ raw (lfts 𝓛 ts)) (id⊢ 𝓤 _) $ split ! $
        -- [ν's token; the tokens; the view; obs; the way back]
        move ! (0 ∷ 2 ∷ []) $ fjoin ! $ move ! (0 ∷ 3 ∷ []) $ fjoin ! $ fpack ! ℕ (Mine x) ν $ now ! $ move ! (2 ∷ 0 ∷ 1 ∷ []) $ done !)

  pub takes_back : (x : X) → ⟦ fex ℕ (Mine x) ⟧ ⊢ H.⇛ (A.bor α V)
  takes_back x = qed 𝓛 (‵ (fex ℕ (Mine x)) ∷ []) ∵ updating ! $ fpick ! (λ ν. fsplit ! $ fsplit ! $ lft_end ! tt $
      use1 𝓛 (‵ (fdead (ν ∷ α))) (𝓛.lfts.dead-incl (ν ∷ α) (ν ∷ []) (meet_⊑_left (ν ∷ []) α)) $ keep ! (0 ∷ 2 ∷ []) $ lent_back ! tt $ now ! $ done !)
