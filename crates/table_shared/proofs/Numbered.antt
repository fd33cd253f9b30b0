-- Which number a generation of a shared table has.
use Rattle.std.proofs.Common.{◌≡◌, ℕ, ◌+◌, ◌*◌, ◌^◌, ◌<◌, ◌≤◌, List, ◌++◌, [], ◌∷◌, length, map, refl, ◌∙◌, arith}
use Rattle.std.specs.Prelude.{Option}
use Rattle.std.proofs.lemmas.List.{length-map, map-append}
use Rattle.table_cell.specs.declared.bucket.Entry.{Entry}
use Rattle.table_generations.specs.Buckets.{shown, shown_all}
use Rattle.table_generations.specs.Generations.{GenerationView}
use Rattle.table_shared.specs.Lineages.{HasPlace, IsNumber, shown_in}

module _ {A T : Type 0} (es : List (GenerationView A T)) (base : GenerationView A T) where
  abbrev before : List (List (Option (Entry T)))
  before = map (λ g. shown_all g.contents) es

  as_wide : length (shown_all base.contents) ≡ length base.contents
  as_wide = length-map base.contents shown

  all_shown : shown_in es base ≡ before ++ shown_all base.contents ∷ []
  all_shown = map-append (λ g. shown_all g.contents) es (base ∷ [])

  module _ (first n k number : ℕ) where
    -- the base has no bucket: the first capacity was doubled k times
    pub of_first : (0 < length base.contents → ⊥) → (first ≤ n → n ≡ first * 2 ^ k) → number ≡ k → IsNumber first (shown_in es base) n number
    of_first bare doubled is = record {
      earlier = before;
      last = shown_all base.contents;
      are = all_shown;
      from_first = λ _ less. doubled less ∙ rw is refl;
      from_last = λ some _. absurd (bare (omega (arith, some, as_wide)));
    }

    -- the base was doubled k times
    pub of_last : 0 < length base.contents → (length base.contents ≤ n → n ≡ length base.contents * 2 ^ k) → number ≡ length es + k → IsNumber first (shown_in es base) n number
    of_last full doubled is = record {
      earlier = before;
      last = shown_all base.contents;
      are = all_shown;
      from_first = λ none. omega (arith, none, as_wide, full);
      from_last = λ _ less. (k, doubled (omega (arith, less, as_wide)) ∙ rw as_wide refl, is ∙ rw (length-map es (λ g. shown_all g.contents)) refl);
    }

  module _ (number place : ℕ) where
    -- the base has no bucket: the words for later ones begin with that for number 0
    pub first_place : (0 < length base.contents → ⊥) → number ≡ place → HasPlace (shown_in es base) number place
    first_place bare is = record {
      earlier = before;
      last = shown_all base.contents;
      are = all_shown;
      from_first = λ _. is;
      from_last = λ some. absurd (bare (omega (arith, some, as_wide)));
    }

    -- they begin with the word for the number after the base's
    pub last_place : 0 < length base.contents → number ≡ length es + 1 + place → HasPlace (shown_in es base) number place
    last_place full is = record {
      earlier = before;
      last = shown_all base.contents;
      are = all_shown;
      from_first = λ none. omega (arith, none, as_wide, full);
      from_last = λ _. is ∙ rw (length-map es (λ g. shown_all g.contents)) refl;
    }
