-- The laws of the rights to slots. Assumes `Logic`.
--     rooms_differ      nobody has the right to a slot twice
--     room_publishes    the right to a full slot, given up, shows the value for good
--     written_twice, written_agree, room_agrees      what is known for good can be had twice, and is one value, which the right has too
use Rattle.std.proofs.Common.{◌≡◌, ℕ, List, [], ◌∷◌, ◌++◌, sym, refl, ap, arith}
use seplogic.Ra.Ura.{Ura}
use seplogic.Ra.Instances.Excl as Excl
use base.Stored.{Gv, gnil, gnum, gcons}
use base.Logic.{SProp, guard, guard_i, ent, sep, never, via, fst∗, snd∗}
use native.Mathlib.Decide.{ℕ_discrete}
use base.Fml.{GName, Fml, fres, fown}
use contract.Monad.{fact, fact_mono, conj_i}
use types.Logic.{Logic, sem}
use types.Owned.{own_glued}
use types.Kit.{‵, raw, ◌⊛◌, ◌$◌, ◌∵◌, !, qed, by, move, keep, use1, use2, split, fsplit, fpick, fpack, rewrite, done}
use denote.RattleType.{RattleType}
use denote.Steps.{heard}
use Rattle.core.specs.declared.option.Option.{Option}
use Rattle.core.specs.declared.option.Option.TheVariants.{None, Some}
use Rattle.table_slab.specs.Rights.{once, content, mark, room, rooms, written}
use Rattle.table_slab.proofs.Listed.{list_split, list_join}

abbrev pub first : Gv → Gv
first (gcons a b) = a
first gnil = gnil
first (gnum n) = gnil

abbrev pub rest : Gv → Gv
rest (gcons a b) = b
rest gnil = gnil
rest (gnum n) = gnil

abbrev pub number : Gv → ℕ
number (gnum n) = n
number gnil = 0
number (gcons a b) = 0

-- nothing, a number or a pair
abbrev pub kind : Gv → ℕ
kind gnil = 0
kind (gnum n) = 1
kind (gcons a b) = 2

module _ {M : Type 1} {𝓤 : Ura M} (𝓛 : Logic 𝓤) where
  open 𝓛 use {A}

  pub res_same : (γ : GName) (m n : Gv) → ent 𝓤 (sep 𝓤 (A.res γ m) (A.res γ n)) (fact 𝓤 (m ≡ n))
  res_same γ m n = let P = A.res γ m in let Q = A.res γ n in via 𝓤 _ (conj_i 𝓤 P Q (fst∗ 𝓤 P Q) (snd∗ 𝓤 P Q)) (𝓛.names.res_one γ m n)

  pub once_once : (ε : GName) → ent 𝓤 (sep 𝓤 (A.own once ε tt) (A.own once ε tt)) (never 𝓤)
  once_once ε = own_glued 𝓛 once ε tt tt (never 𝓤) (λ c m. absurd (Excl.not-OpDef tt tt m.0))

  module _ (R : RattleType) (γ : GName) where
    pub rooms_differ : (v w : Option R.Denot) → ent 𝓤 (sep 𝓤 (sem 𝓛 (room R γ v)) (sem 𝓛 (room R γ w))) (never 𝓤)
    rooms_differ v w = qed 𝓛 (‵ (room R γ v) ∷ ‵ (room R γ w) ∷ []) ∵ fpick ! (λ ε. fsplit ! $ move ! (2 ∷ []) $ fpick ! (λ δ. fsplit ! $
        use1 𝓛 (‵ (fres γ (mark R δ w))) (𝓛.names.obs-res γ _) $ move ! (2 ∷ []) $ use1 𝓛 (‵ (fres γ (mark R ε v))) (𝓛.names.obs-res γ _) $ move ! (0 ∷ 1 ∷ []) $
        use2 𝓛 (raw (fact 𝓤 (mark R ε v ≡ mark R δ w))) (res_same γ (mark R ε v) (mark R δ w)) $ heard ! (mark R ε v ≡ mark R δ w) (λ e.
        rewrite ! 0 (λ (k : GName). ‵ (fown once k tt)) (sym (ap (λ (g : Gv). number (first g)) e)) refl $ by ! (once_once ε))))

    pub room_publishes : (x : R.Denot) → ent 𝓤 (sem 𝓛 (room R γ (Some x))) (sem 𝓛 (written R γ x))
    room_publishes x = qed 𝓛 (‵ (room R γ (Some x)) ∷ []) ∵ fpick ! (λ ε. fsplit ! $ use1 𝓛 (‵ (fres γ (mark R ε (Some x)))) (𝓛.names.obs-res γ _) $
        fpack ! GName (λ δ. fres γ (mark R δ (Some x))) ε $ keep ! (0 ∷ []) $ done !)

    pub written_twice : (x : R.Denot) → ent 𝓤 (sem 𝓛 (written R γ x)) (sep 𝓤 (sem 𝓛 (written R γ x)) (sem 𝓛 (written R γ x)))
    written_twice x = let F : GName → Fml = λ δ. fres γ (mark R δ (Some x)) in qed 𝓛 (‵ (written R γ x) ∷ []) ∵ fpick ! (λ ε. use1 𝓛 (‵ (F ε) ⊛ ‵ (F ε)) (𝓛.names.res_dup γ _) $ split ! $
        fpack ! GName F ε $ move ! (1 ∷ []) $ fpack ! GName F ε $ done !)

    same_value : (ε δ : GName) (x y : R.Denot) → mark R ε (Some x) ≡ mark R δ (Some y) → x ≡ y
    same_value ε δ x y e = R.coded.inj x y (ap (λ (g : Gv). first (rest g)) e)

    pub written_agree : (x y : R.Denot) → ent 𝓤 (sep 𝓤 (sem 𝓛 (written R γ x)) (sem 𝓛 (written R γ y))) (fact 𝓤 (x ≡ y))
    written_agree x y = qed 𝓛 (‵ (written R γ x) ∷ ‵ (written R γ y) ∷ []) ∵ fpick ! (λ ε. move ! (1 ∷ []) $ fpick ! (λ δ. move ! (1 ∷ 0 ∷ []) $
        by ! (via 𝓤 _ (res_same γ (mark R ε (Some x)) (mark R δ (Some y))) (fact_mono 𝓤 _ (x ≡ y) (same_value ε δ x y)))))

    same_content : (v : Option R.Denot) (x : R.Denot) → content R v ≡ content R (Some x) → v ≡ Some x
    same_content None x e = absurd (let z : 0 ≡ 2 = ap kind e in omega arith)
    same_content (Some y) x e = ap (λ (u : R.Denot). Some u) (R.coded.inj y x (ap first e))

    pub room_agrees : (v : Option R.Denot) (x : R.Denot) → ent 𝓤 (sep 𝓤 (sem 𝓛 (room R γ v)) (sem 𝓛 (written R γ x))) (fact 𝓤 (v ≡ Some x))
    room_agrees v x = qed 𝓛 (‵ (room R γ v) ∷ ‵ (written R γ x) ∷ []) ∵ fpick ! (λ ε. fsplit ! $ use1 𝓛 (‵ (fres γ (mark R ε v))) (𝓛.names.obs-res γ _) $ move ! (2 ∷ []) $ fpick ! (λ δ. move ! (1 ∷ 0 ∷ []) $
        use2 𝓛 (raw (fact 𝓤 (mark R ε v ≡ mark R δ (Some x)))) (res_same γ (mark R ε v) (mark R δ (Some x))) $ keep ! (0 ∷ []) $
        by ! (fact_mono 𝓤 _ (v ≡ Some x) (λ e. same_content v x (ap rest e)))))

    -- a slot to which somebody has the right, while it is empty, is another one
    pub room_beside : (δ : GName) (x : R.Denot) → ent 𝓤 (sep 𝓤 (sem 𝓛 (room R δ None)) (sem 𝓛 (written R γ x))) (guard 𝓤 (δ ≡ γ → ⊥) (sep 𝓤 (sem 𝓛 (room R δ None)) (sem 𝓛 (written R γ x))))
    room_beside δ x = told (ℕ_discrete δ γ)
      where
        Both : SProp 𝓤
        Both = sep 𝓤 (sem 𝓛 (room R δ None)) (sem 𝓛 (written R γ x))

        told : Dec (δ ≡ γ) → ent 𝓤 Both (guard 𝓤 (δ ≡ γ → ⊥) Both)
        told (no apart) = guard_i 𝓤 (δ ≡ γ → ⊥) Both apart
        told (yes e) = qed 𝓛 (‵ (room R δ None) ∷ ‵ (written R γ x) ∷ []) ∵ rewrite ! 0 (λ (k : GName). ‵ (room R k None)) e refl $
            use2 𝓛 (raw (fact 𝓤 (None ≡ Some x))) (room_agrees None x) $ heard ! (None ≡ Some x) (λ z. absurd (let d : 0 ≡ 2 = ap (λ (u : Option R.Denot). kind (content R u)) z in omega arith))

  module _ (R : RattleType) where
    pub rooms_split : (γs δs : List GName) → ent 𝓤 (sem 𝓛 (rooms R (γs ++ δs))) (sep 𝓤 (sem 𝓛 (rooms R γs)) (sem 𝓛 (rooms R δs)))
    rooms_split = list_split (rooms R) (λ γ. room R γ None) refl (λ γ γs. refl) 𝓛

    pub rooms_join : (γs δs : List GName) → ent 𝓤 (sep 𝓤 (sem 𝓛 (rooms R γs)) (sem 𝓛 (rooms R δs))) (sem 𝓛 (rooms R (γs ++ δs)))
    rooms_join = list_join (rooms R) (λ γ. room R γ None) refl (λ γ γs. refl) 𝓛
