-- What a list owns, each element a part, is cut where the list is cut, and is put together with the list. Assumes `Logic`.
use Rattle.std.proofs.Common.{◌≡◌, List, [], ◌∷◌, ◌++◌, refl, sym}
use seplogic.Ra.Ura.{Ura}
use base.Logic.{ent, sep}
use base.Fml.{Fml, ftrue, fsep}
use types.Logic.{Logic, sem}
use types.Kit.{‵, ◌⊛◌, ◌$◌, ◌∵◌, !, qed, move, keep, split, fsplit, fjoin, use1, use2, rewrite, done}
use denote.Steps.{nothing}

-- S is what a list owns, and F what an element owns
module _ {X : Type 0} (S : List X → Fml) (F : X → Fml) (none : S [] ≡ ftrue) (more : (x : X) (xs : List X) → S (x ∷ xs) ≡ fsep (F x) (S xs))
    {M : Type 1} {𝓤 : Ura M} (𝓛 : Logic 𝓤) where
  pub list_split : (xs ys : List X) → ent 𝓤 (sem 𝓛 (S (xs ++ ys))) (sep 𝓤 (sem 𝓛 (S xs)) (sem 𝓛 (S ys)))
  list_split [] ys = qed 𝓛 (‵ (S ys) ∷ []) ∵ nothing ! $ rewrite ! 0 (λ (P : Fml). ‵ P) (sym none) refl $ done !
  list_split (x ∷ xs) ys = qed 𝓛 (‵ (S (x ∷ xs ++ ys)) ∷ []) ∵ rewrite ! 0 (λ (P : Fml). ‵ P) (more x (xs ++ ys)) refl $ fsplit ! $ move ! (1 ∷ []) $
      use1 𝓛 (‵ (S xs) ⊛ ‵ (S ys)) (list_split xs ys) $ split ! $ move ! (2 ∷ 0 ∷ []) $ fjoin ! $ rewrite ! 0 (λ (P : Fml). ‵ P) (sym (more x xs)) refl $ done !

  pub list_join : (xs ys : List X) → ent 𝓤 (sep 𝓤 (sem 𝓛 (S xs)) (sem 𝓛 (S ys))) (sem 𝓛 (S (xs ++ ys)))
  list_join [] ys = qed 𝓛 (‵ (S []) ∷ ‵ (S ys) ∷ []) ∵ keep ! (1 ∷ []) $ done !
  list_join (x ∷ xs) ys = qed 𝓛 (‵ (S (x ∷ xs)) ∷ ‵ (S ys) ∷ []) ∵ rewrite ! 0 (λ (P : Fml). ‵ P) (more x xs) refl $ fsplit ! $ move ! (1 ∷ 2 ∷ []) $
      use2 𝓛 (‵ (S (xs ++ ys))) (list_join xs ys) $ move ! (1 ∷ 0 ∷ []) $ fjoin ! $ rewrite ! 0 (λ (P : Fml). ‵ P) (sym (more x (xs ++ ys))) refl $ done !
