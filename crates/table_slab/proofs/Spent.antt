-- The laws of rights that were given up. Assumes `Logic`.
--     right_spends     the right to a value can be given up, and kept so
--     spent_stands     what it is kept for stands for good
--     spents_differ    nobody has it twice
--     spents_split, spents_join     what is kept for a list of numbers is cut, and put together
use Rattle.std.proofs.Common.{◌≡◌, ℕ, List, [], ◌∷◌, ◌++◌, refl, sym, ap}
use Rattle.std.specs.Prelude.{Some}
use seplogic.Ra.Ura.{Ura}
use base.Logic.{SProp, ent, sep, never}
use base.Fml.{GName, Fml, ftrue, fres, fown}
use contract.Monad.{fact}
use types.Logic.{Logic, sem}
use types.Kit.{‵, raw, ◌⊛◌, ◌$◌, ◌∵◌, !, qed, by, move, drop, use1, use2, split, fsplit, fsplit3, fjoin, fpick, fpack, rewrite, done}
use denote.RattleType.{RattleType}
use denote.Steps.{nothing, heard}
use Rattle.table_slab.specs.Rights.{once, mark, room, written}
use Rattle.table_slab.specs.Slabs.{SlabView}
use Rattle.table_slab.specs.Shelved.{Spot, IsSpot, chunk, right, standing}
use Rattle.table_slab.specs.Spent.{spent_as, spent_room, spent_at, spent, spents}
use Rattle.table_slab.proofs.Listed.{list_split, list_join}
use Rattle.table_slab.proofs.Seats.{same_cell, same_name}
use Rattle.table_slab.proofs.Shelved.{standing_kept, code, one_code}
use Rattle.table_slab.proofs.Tokens.{first, number, res_same, once_once}

module _ {M : Type 1} {𝓤 : Ura M} (𝓛 : Logic 𝓤) (R : RattleType) (γ : GName) where
  pub room_spends : (x : R.Denot) → ent 𝓤 (sem 𝓛 (room R γ (Some x))) (sem 𝓛 (spent_room R γ x))
  room_spends x = qed 𝓛 (‵ (room R γ (Some x)) ∷ []) ∵ fpick ! (λ ε. fsplit ! $ use1 𝓛 (‵ (fres γ (mark R ε (Some x)))) (𝓛.names.obs-res γ _) $ fjoin ! $
      fpack ! GName (spent_as R γ x) ε $ done !)

  pub room_stays : (x : R.Denot) → ent 𝓤 (sem 𝓛 (spent_room R γ x)) (sep 𝓤 (sem 𝓛 (spent_room R γ x)) (sem 𝓛 (written R γ x)))
  room_stays x = qed 𝓛 (‵ (spent_room R γ x) ∷ []) ∵ fpick ! (λ ε. let F : Fml = fres γ (mark R ε (Some x)) in fsplit ! $ use1 𝓛 (‵ F ⊛ ‵ F) (𝓛.names.res_dup γ _) $ split ! $
      fpack ! GName (λ δ. fres γ (mark R δ (Some x))) ε $ move ! (1 ∷ 2 ∷ []) $ fjoin ! $ fpack ! GName (spent_as R γ x) ε $ done !)

  pub rooms_spent_differ : (x y : R.Denot) → ent 𝓤 (sep 𝓤 (sem 𝓛 (spent_room R γ x)) (sem 𝓛 (spent_room R γ y))) (never 𝓤)
  rooms_spent_differ x y = qed 𝓛 (‵ (spent_room R γ x) ∷ ‵ (spent_room R γ y) ∷ []) ∵ fpick ! (λ ε. fsplit ! $ move ! (2 ∷ []) $ fpick ! (λ δ. fsplit ! $
      -- [the other mark; its element; one mark; its element]
      move ! (2 ∷ 0 ∷ []) $ use2 𝓛 (raw (fact 𝓤 (mark R ε (Some x) ≡ mark R δ (Some y)))) (res_same 𝓛 γ (mark R ε (Some x)) (mark R δ (Some y))) $ heard ! (mark R ε (Some x) ≡ mark R δ (Some y)) (λ e.
      rewrite ! 0 (λ (k : GName). ‵ (fown once k tt)) (sym (ap (λ (g : base.Stored.Gv). number (first g)) e)) refl $ by ! (once_once 𝓛 ε))))

module _ {M : Type 1} {𝓤 : Ura M} (𝓛 : Logic 𝓤) (R : RattleType) (s : SlabView) (number : ℕ) where
  abbrev Has : Fml → SProp 𝓤
  Has P = sem 𝓛 P

  spent_kept : (z : Spot) → IsSpot s number z → (x : R.Denot) → ent 𝓤 (sep 𝓤 (Has (chunk z.cell z.names)) (Has (spent_room R z.of x))) (Has (spent R s number x))
  spent_kept z is x = qed 𝓛 (‵ (chunk z.cell z.names) ∷ ‵ (spent_room R z.of x) ∷ []) ∵ nothing ! $ fpack ! (IsSpot s number z) (λ _. ftrue) is $
      move ! (2 ∷ 0 ∷ []) $ fjoin ! $ move ! (1 ∷ 0 ∷ []) $ fjoin ! $ fpack ! Spot (spent_at R s number x) z $ done !

  pub right_spends : (x : R.Denot) → ent 𝓤 (Has (right R s number (Some x))) (Has (spent R s number x))
  right_spends x = qed 𝓛 (‵ (right R s number (Some x)) ∷ []) ∵ fpick ! (λ z. fsplit3 ! $ move ! (2 ∷ []) $ fpick ! (λ is. drop ! $ move ! (1 ∷ []) $
      use1 𝓛 (‵ (spent_room R z.of x)) (room_spends 𝓛 R z.of x) $ move ! (1 ∷ 0 ∷ []) $ by ! (spent_kept z is x)))

  pub spent_stands : (x : R.Denot) → ent 𝓤 (Has (spent R s number x)) (sep 𝓤 (Has (spent R s number x)) (Has (standing R s number x)))
  spent_stands x = qed 𝓛 (‵ (spent R s number x) ∷ []) ∵ fpick ! (λ z. let C : Fml = chunk z.cell z.names in let S : Fml = spent_room R z.of x in
      fsplit3 ! $ move ! (2 ∷ []) $ fpick ! (λ is. drop ! $ use1 𝓛 (‵ C ⊛ ‵ C) (𝓛.names.res_dup z.cell (code z.names)) $ split ! $ move ! (2 ∷ []) $ use1 𝓛 (‵ S ⊛ ‵ (written R z.of x)) (room_stays 𝓛 R z.of x) $ split ! $
      -- [the spent right; what is written; the cell, twice]
      move ! (2 ∷ 0 ∷ []) $ use2 𝓛 (‵ (spent R s number x)) (spent_kept z is x) $ move ! (2 ∷ 1 ∷ []) $ use2 𝓛 (‵ (standing R s number x)) (standing_kept 𝓛 R s number z is x) $ move ! (1 ∷ 0 ∷ []) $ done !))

  pub spents_differ : (x y : R.Denot) → ent 𝓤 (sep 𝓤 (Has (spent R s number x)) (Has (spent R s number y))) (never 𝓤)
  spents_differ x y = qed 𝓛 (‵ (spent R s number x) ∷ ‵ (spent R s number y) ∷ []) ∵ fpick ! (λ z. fsplit3 ! $ move ! (2 ∷ []) $ fpick ! (λ a. drop ! $ move ! (2 ∷ []) $
      fpick ! (λ w. fsplit3 ! $ move ! (2 ∷ []) $ fpick ! (λ b. drop ! $
      -- [the other cell; its slot; one cell; its slot]
      move ! (2 ∷ 0 ∷ []) $ rewrite ! 1 (λ (k : ℕ). ‵ (chunk k w.names)) (sym (same_cell a b)) refl $
      use2 𝓛 (raw (fact 𝓤 (code z.names ≡ code w.names))) (res_same 𝓛 z.cell (code z.names) (code w.names)) $ heard ! (code z.names ≡ code w.names) (λ e.
      rewrite ! 0 (λ (k : ℕ). ‵ (spent_room R k y)) (sym (same_name a b (one_code z.names w.names e))) refl $ move ! (1 ∷ 0 ∷ []) $ by ! (rooms_spent_differ 𝓛 R z.of x y))))))

module _ {M : Type 1} {𝓤 : Ura M} (𝓛 : Logic 𝓤) (R : RattleType) (s : SlabView) where
  abbrev Of : ℕ × R.Denot → Fml
  Of e = spent R s e.0 e.1

  pub spents_split : (es fs : List (ℕ × R.Denot)) → ent 𝓤 (sem 𝓛 (spents R s (es ++ fs))) (sep 𝓤 (sem 𝓛 (spents R s es)) (sem 𝓛 (spents R s fs)))
  spents_split = list_split (spents R s) Of refl (λ e es. refl) 𝓛

  pub spents_join : (es fs : List (ℕ × R.Denot)) → ent 𝓤 (sep 𝓤 (sem 𝓛 (spents R s es)) (sem 𝓛 (spents R s fs))) (sem 𝓛 (spents R s (es ++ fs)))
  spents_join = list_join (spents R s) Of refl (λ e es. refl) 𝓛
