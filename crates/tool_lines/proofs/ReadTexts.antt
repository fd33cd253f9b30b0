-- How the parts of texts follow from those of the texts that were read.
use Rattle.std.proofs.Common.{◌≡◌, ℕ, ◌++◌, List, [], Option, Some, None, refl, sym, ap, ◌∙◌, append_assoc, append-nil}
use Rattle.std.specs.Prelude.{IfSome}
use Rattle.std.specs.List.{flat_map}
use Rattle.tool_lines.specs.Texts.{GivesText, ArePartsOf, HasReadTexts}

module _ (parts_of : List ℕ → List (List ℕ)) where
  -- no text is read yet
  pub start_texts : (a : Option (List (List ℕ))) → HasReadTexts parts_of a a []
  start_texts None = tt
  start_texts (Some all) = refl

  -- one text more is read
  pub one_text_more : (a b c : Option (List (List ℕ))) (known : Option (List ℕ)) (parts more : List (List ℕ)) → HasReadTexts parts_of a b parts → GivesText b c (Some known) → ArePartsOf parts_of known more
      → HasReadTexts parts_of a c (parts ++ more)
  one_text_more None b c known parts more has gives is = tt
  one_text_more (Some all) None c known parts more has gives is = absurd has
  one_text_more (Some all) (Some left) None known parts more has gives is = absurd gives
  one_text_more (Some all) (Some left) (Some rest) None parts more has gives is = absurd gives
  one_text_more (Some all) (Some left) (Some rest) (Some text) parts more has gives is =
      has ∙ ap (λ ts. parts ++ flat_map parts_of ts) gives ∙ ap (λ ps. parts ++ (ps ++ flat_map parts_of rest)) is ∙ sym (append_assoc parts more (flat_map parts_of rest))

  -- all are read
  pub all_texts : (a b c : Option (List (List ℕ))) (parts : List (List ℕ)) → HasReadTexts parts_of a b parts → GivesText b c None → IfSome a (λ all. flat_map parts_of all ≡ parts)
  all_texts None b c parts has gives = tt
  all_texts (Some all) None c parts has gives = absurd has
  all_texts (Some all) (Some left) None parts has gives = absurd gives
  all_texts (Some all) (Some left) (Some rest) parts has gives = has ∙ ap (λ ts. parts ++ flat_map parts_of ts) gives ∙ append-nil parts
