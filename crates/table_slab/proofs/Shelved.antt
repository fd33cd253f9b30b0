-- The laws of what a history keeps of numbers. Assumes `Logic`.
--     right_kept, standing_kept    what is known of a slot is known of its number
--     standing_twice, standings_agree    what a number holds for good can be had twice, and is one value
use Rattle.std.proofs.Common.{◌≡◌, ℕ, List, [], ◌∷◌, refl, sym, ap}
use Rattle.std.specs.Prelude.{Option, Some, unwrap_or}
use Rattle.std.specs.Coded.{coded_option, coded_list, coded_ℕ}
use seplogic.Ra.Ura.{Ura}
use base.Stored.{Gv}
use base.Logic.{SProp, ent, sep}
use base.Fml.{Fml, ftrue}
use contract.Monad.{fact}
use types.Logic.{Logic, sem}
use types.Kit.{‵, raw, ◌⊛◌, ◌$◌, ◌∵◌, !, qed, by, move, drop, use1, use2, split, fsplit3, fjoin, fpick, fpack, rewrite, done}
use denote.RattleType.{RattleType}
use denote.Steps.{nothing, heard}
use Rattle.table_slab.specs.Rights.{room, written}
use Rattle.table_slab.specs.Slabs.{SlabView}
use Rattle.table_slab.specs.Shelved.{Spot, IsSpot, chunk, right, right_at, standing, standing_at}
use Rattle.table_slab.proofs.Seats.{same_cell, same_name}
use Rattle.table_slab.proofs.Tokens.{res_same, written_twice, written_agree}

abbrev pub code : List ℕ → Gv
code names = (coded_option (coded_list coded_ℕ)).code (Some names)

pub one_code : (ms ns : List ℕ) → code ms ≡ code ns → ms ≡ ns
one_code ms ns e = ap (λ (v : Option (List ℕ)). unwrap_or v []) ((coded_option (coded_list coded_ℕ)).inj (Some ms) (Some ns) e)

module _ {M : Type 1} {𝓤 : Ura M} (𝓛 : Logic 𝓤) (R : RattleType) (s : SlabView) (number : ℕ) where
  abbrev Has : Fml → SProp 𝓤
  Has P = sem 𝓛 P

  module _ (z : Spot) (is : IsSpot s number z) where
    pub right_kept : (v : Option R.Denot) → ent 𝓤 (sep 𝓤 (Has (chunk z.cell z.names)) (Has (room R z.of v))) (Has (right R s number v))
    right_kept v = qed 𝓛 (‵ (chunk z.cell z.names) ∷ ‵ (room R z.of v) ∷ []) ∵ nothing ! $ fpack ! (IsSpot s number z) (λ _. ftrue) is $
        move ! (2 ∷ 0 ∷ []) $ fjoin ! $ move ! (1 ∷ 0 ∷ []) $ fjoin ! $ fpack ! Spot (right_at R s number v) z $ done !

    pub standing_kept : (x : R.Denot) → ent 𝓤 (sep 𝓤 (Has (chunk z.cell z.names)) (Has (written R z.of x))) (Has (standing R s number x))
    standing_kept x = qed 𝓛 (‵ (chunk z.cell z.names) ∷ ‵ (written R z.of x) ∷ []) ∵ nothing ! $ fpack ! (IsSpot s number z) (λ _. ftrue) is $
        move ! (2 ∷ 0 ∷ []) $ fjoin ! $ move ! (1 ∷ 0 ∷ []) $ fjoin ! $ fpack ! Spot (standing_at R s number x) z $ done !

  pub standing_twice : (x : R.Denot) → ent 𝓤 (Has (standing R s number x)) (sep 𝓤 (Has (standing R s number x)) (Has (standing R s number x)))
  standing_twice x = let S : Fml = standing R s number x in qed 𝓛 (‵ S ∷ []) ∵ fpick ! (λ z. let C : Fml = chunk z.cell z.names in let W : Fml = written R z.of x in
      fsplit3 ! $ move ! (2 ∷ []) $ fpick ! (λ is. drop ! $ use1 𝓛 (‵ C ⊛ ‵ C) (𝓛.names.res_dup z.cell (code z.names)) $ split ! $ move ! (2 ∷ []) $ use1 𝓛 (‵ W ⊛ ‵ W) (written_twice 𝓛 R z.of x) $ split ! $
      -- [the slot, twice; the cell, twice]
      move ! (2 ∷ 0 ∷ []) $ use2 𝓛 (‵ S) (standing_kept z is x) $ move ! (2 ∷ 1 ∷ []) $ use2 𝓛 (‵ S) (standing_kept z is x) $ done !))

  pub standings_agree : (x y : R.Denot) → ent 𝓤 (sep 𝓤 (Has (standing R s number x)) (Has (standing R s number y))) (fact 𝓤 (x ≡ y))
  standings_agree x y = qed 𝓛 (‵ (standing R s number x) ∷ ‵ (standing R s number y) ∷ []) ∵ fpick ! (λ z. fsplit3 ! $ move ! (2 ∷ []) $ fpick ! (λ a. drop ! $ move ! (2 ∷ []) $
      fpick ! (λ w. fsplit3 ! $ move ! (2 ∷ []) $ fpick ! (λ b. drop ! $
      -- [one cell; its slot; the other cell; its slot]
      move ! (2 ∷ 0 ∷ []) $ rewrite ! 1 (λ (k : ℕ). ‵ (chunk k w.names)) (sym (same_cell a b)) refl $
      use2 𝓛 (raw (fact 𝓤 (code z.names ≡ code w.names))) (res_same 𝓛 z.cell (code z.names) (code w.names)) $ heard ! (code z.names ≡ code w.names) (λ e.
      rewrite ! 0 (λ (k : ℕ). ‵ (written R k y)) (sym (same_name a b (one_code z.names w.names e))) refl $ move ! (1 ∷ 0 ∷ []) $ by ! (written_agree 𝓛 R z.of x y))))))
