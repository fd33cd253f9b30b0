-- Which word for later generations is that of a number.
use Rattle.std.proofs.Common.{◌≡◌, ◌∙◌, ℕ, ◌<◌, List, HoldsAt, length, ap}
use Rattle.std.specs.Prelude.{Option}
use Rattle.std.proofs.lemmas.List.{get_or-map, length-map}
use Rattle.table_cell.specs.Words.{WordView}
use Rattle.table_cell.specs.declared.bucket.Entry.{Entry}
use Rattle.table_shared.specs.Lineages.{HasPlace, IsWordFor, names_of}

module _ {A X : Type 0} (ws : List (WordView A X)) (place : ℕ) (w : WordView A X) where
  -- the name of the word at a place is the name at that place
  named_at : place < length ws → HoldsAt (λ v. v ≡ w) ws place → HoldsAt (λ n. n ≡ w.id) (names_of ws) place
  named_at less there d = get_or-map (λ (v : WordView A X). v.id) ws place w d less ∙ ap (λ (v : WordView A X). v.id) (there w)

  pub word_for : {T : Type 0} (shown : List (List (Option (Entry T)))) (number : ℕ) → HasPlace shown number place → place < length ws → HoldsAt (λ v. v ≡ w) ws place
      → IsWordFor shown number (names_of ws) w.id
  word_for shown number has less there = record { place = place; has_place = has; within = rw length-map less; there = named_at less there }
