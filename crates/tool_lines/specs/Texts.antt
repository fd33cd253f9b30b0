-- The texts that a tool reads, where their bytes are known.
use Rattle.std.specs.Prelude.{◌≡◌, ℕ, ◌++◌, List, [], ◌∷◌, Option, Some, None, option_map, IfSome, ⊤}
use Rattle.std.specs.List.{flat_map}

-- where the texts that are left are known: the first of them is given, or none is left
abbrev pub GivesText : Option (List (List ℕ)) → Option (List (List ℕ)) → Option (Option (List ℕ)) → Type 0
GivesText None new given = ⊤
GivesText (Some all) None given = ⊥
GivesText (Some all) (Some rest) None = all ≡ []
GivesText (Some all) (Some rest) (Some None) = ⊥
GivesText (Some all) (Some rest) (Some (Some text)) = all ≡ text ∷ rest

-- the text that is left of one, where its bytes are known
abbrev pub one_left : {I : Type 0} → (I → Option (List ℕ)) → Option I → Option (List (List ℕ))
one_left remaining None = Some []
one_left remaining (Some input) = option_map (λ text. text ∷ []) (remaining input)

-- these are the parts of a text, where its bytes are known
abbrev pub ArePartsOf : (List ℕ → List (List ℕ)) → Option (List ℕ) → List (List ℕ) → Type 0
ArePartsOf parts_of known parts = IfSome known (λ text. parts_of text ≡ parts)

-- where the texts are known: these are the parts of those that were read
abbrev pub HasReadTexts : (List ℕ → List (List ℕ)) → Option (List (List ℕ)) → Option (List (List ℕ)) → List (List ℕ) → Type 0
HasReadTexts parts_of None new parts = ⊤
HasReadTexts parts_of (Some all) None parts = ⊥
HasReadTexts parts_of (Some all) (Some rest) parts = flat_map parts_of all ≡ parts ++ flat_map parts_of rest
