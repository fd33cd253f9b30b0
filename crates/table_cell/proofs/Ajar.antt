-- A mark behind a `&mut` that owns what its ghost fields say: it lies open while a step is taken, and is shut again. Assumes `Logic`.
use Rattle.std.proofs.Common.{◌≡◌, List, [], ◌∷◌, refl, sym}
use seplogic.Ra.Ura.{Ura}
use mir.Syntax.{named}
use mir.Val.{Val, vptr}
use base.Fraction.{full_share}
use base.Logic.{ent, sep}
use base.Fml.{Lft, Share, Fml, fsep, fex, fobs, fauth, fobor, flft}
use types.Logic.{Logic, sem}
use types.SemTy.{Body}
use types.Kit.{‵, ◌$◌, ◌∵◌, !, qed, move, drop, fsplit, fsplit3, fjoin, fpick, fpack, feq_i, rewrite, updating, now, done}
use denote.RattleType.{RattleType}
use denote.Memory.{mem, cell_at}
use denote.Ref.{MutRef, MutBor}
use denote.Steps.{opens, closes}

-- mark is what it owns in memory, and owns what its ghost fields say
pub record Marked : Type 2 where
  pub row : RattleType
  pub mark : List Val → Fml
  pub owns : row.Denot → Fml
  pub is : (n : row.Denot) (vs : List Val) → row.own_val n vs ≡ fsep (mark vs) (owns n)

module _ (X : Marked) (κ : Lft) (q : Share) (m : MutBor X.row.Denot) where
  -- a `&mut` to it, whose last value is n
  abbrev pub lent : X.row.Denot → List Val → Fml
  lent n = (MutRef (named 0) κ X.row).own_val (record m { now = n })

  abbrev in_parts : List Val → Fml
  in_parts vs = fsep (cell_at full_share X.row.mir vs m.ref_ptr.0 m.ref_ptr.1) (fsep (X.mark vs) (fsep (fobor κ q (Body (mem X.row) m.ref_ptr.0 m.ref_ptr.1 m.ghost_name))
      (fsep (fobs m.ghost_name (X.row.coded.code m.now)) (fauth m.ghost_name (X.row.coded.code m.now)))))

  -- all that makes the `&mut` but what its ghost fields say
  abbrev pub ajar : Fml
  ajar = fex (List Val) in_parts

  module _ {M : Type 1} {𝓤 : Ura M} (𝓛 : Logic 𝓤) (at : List Val) where
    open 𝓛 use {H, A}

    pub opens_up : ent 𝓤 (sep 𝓤 (sem 𝓛 (lent m.now at)) (A.lft κ q)) (H.⇛ (sep 𝓤 (sem 𝓛 (X.owns m.now)) (sem 𝓛 ajar)))
    opens_up = qed 𝓛 (‵ (lent m.now at) ∷ ‵ (flft κ q) ∷ []) ∵ updating ! $ fsplit3 ! $ drop ! $ opens ! tt X.row m.ref_ptr.0 m.ref_ptr.1 (λ vs.
        move ! (1 ∷ []) $ rewrite ! 0 (λ (P : Fml). ‵ P) (X.is m.now vs) refl $ fsplit ! $
        -- [in memory; what it owns; the cell; the open borrow; the name's two halves]
        move ! (4 ∷ 5 ∷ []) $ fjoin ! $ move ! (4 ∷ 0 ∷ []) $ fjoin ! $ move ! (1 ∷ 0 ∷ []) $ fjoin ! $ move ! (2 ∷ 0 ∷ []) $ fjoin ! $
        fpack ! (List Val) in_parts vs $ move ! (1 ∷ 0 ∷ []) $ now ! $ done !)

    pub shuts : (n : X.row.Denot) → at ≡ vptr m.ref_ptr.0 m.ref_ptr.1 ∷ []
        → ent 𝓤 (sep 𝓤 (sem 𝓛 (X.owns n)) (sem 𝓛 ajar)) (H.⇛ (sep 𝓤 (sem 𝓛 (lent n at)) (A.lft κ q)))
    shuts n there = qed 𝓛 (‵ (X.owns n) ∷ ‵ ajar ∷ []) ∵ updating ! $ move ! (1 ∷ []) $ fpick ! (λ vs. fsplit3 ! $ move ! (2 ∷ []) $ fsplit3 ! $
        -- [the open borrow; the name's two halves; the cell; in memory; what it owns]
        move ! (4 ∷ 5 ∷ []) $ fjoin ! $ rewrite ! 0 (λ (P : Fml). ‵ P) (sym (X.is n vs)) refl $ move ! (4 ∷ 0 ∷ []) $ closes ! tt X.row n vs m.ref_ptr.0 m.ref_ptr.1 $
        fjoin ! $ feq_i ! _ at _ there $ fjoin ! $ now ! $ done !)
