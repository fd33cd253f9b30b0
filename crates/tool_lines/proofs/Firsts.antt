-- What one text more at the end does to the first appearances.
use Rattle.std.proofs.Common.{◌≡◌, ℕ, zero, suc, ◌++◌, Bool, true, false, List, [], ◌∷◌, refl, sym, ap, ◌∙◌, arith, append-nil}
use Rattle.std.specs.Prelude.{not, ◌||◌, Contains}
use Rattle.std.specs.List.{flat_map}
use Rattle.std.specs.Str.{bytes_eq}
use Rattle.std.proofs.lemmas.Bool.{false≢true}
use Rattle.std.proofs.lemmas.List.{flat_map_more}
use Rattle.std.proofs.lemmas.List.Elements.{filter-append}
use Rattle.std.proofs.lemmas.Slice.Eq.{bytes_eq-Decides}
use Rattle.tool_lines.specs.Firsts.{without, firsts, with_break, deduped}

-- whether a text is among these
abbrev is_among : List ℕ → List (List ℕ) → Bool
is_among text [] = false
is_among text (other ∷ texts) = bytes_eq other text || is_among text texts

among_from_Contains : (texts : List (List ℕ)) (text : List ℕ) → Contains texts text → is_among text texts ≡ true
among_from_Contains [] text (k, below, is) = absurd (omega (arith, below))
among_from_Contains (other ∷ texts) text (zero, below, is) = rw ((bytes_eq-Decides other text).1 is) refl
among_from_Contains (other ∷ texts) text (suc k, below, is) =
    let rest : is_among text texts ≡ true = among_from_Contains texts text (k, omega arith, is) in
    elim (bytes_eq other text) as (λ b. (b || is_among text texts) ≡ true) [ true ↦ refl | false ↦ rest ]

Contains_from_among : (texts : List (List ℕ)) (text : List ℕ) → is_among text texts ≡ true → Contains texts text
Contains_from_among [] text is = absurd (false≢true is)
Contains_from_among (other ∷ texts) text is = elim (bytes_eq other text) as (λ b. bytes_eq other text ≡ b → Contains (other ∷ texts) text) [
  | true ↦ λ same. (0, omega arith, (bytes_eq-Decides other text).0 same)
  | false ↦ λ apart. let at : is_among text texts ≡ true = rw apart at is in let found = Contains_from_among texts text at in (suc found.0, omega (arith, found.1), found.2)
] refl

-- what is not this text was not taken away with its equals
among_others : (first text : List ℕ) (texts : List (List ℕ)) → bytes_eq first text ≡ false → is_among text (without first texts) ≡ is_among text texts
among_others first text [] apart = refl
among_others first text (other ∷ texts) apart = elim (bytes_eq first other) as (λ b. bytes_eq first other ≡ b → is_among text (without first (other ∷ texts)) ≡ is_among text (other ∷ texts)) [
  | true ↦ λ same.
      let other_is : first ≡ other = (bytes_eq-Decides first other).0 same in
      let other_apart : bytes_eq other text ≡ false = rw (← other_is) apart in
      rw (same, other_apart) (among_others first text texts apart)
  | false ↦ λ differs. rw (differs, among_others first text texts apart) refl
] refl

among_firsts : (texts : List (List ℕ)) (text : List ℕ) → is_among text (firsts texts) ≡ is_among text texts
among_firsts [] text = refl
among_firsts (first ∷ texts) text = elim (bytes_eq first text) as (λ b. bytes_eq first text ≡ b → is_among text (firsts (first ∷ texts)) ≡ is_among text (first ∷ texts)) [
  | true ↦ λ same. rw same refl
  | false ↦ λ apart. rw apart (among_others first text (firsts texts) apart ∙ among_firsts texts text)
] refl

-- the first appearances are of the same texts
pub Contains_from_firsts : (texts : List (List ℕ)) (text : List ℕ) → Contains (firsts texts) text → Contains texts text
Contains_from_firsts texts text is = Contains_from_among texts text (sym (among_firsts texts text) ∙ among_from_Contains (firsts texts) text is)

pub Contains_in_firsts : (texts : List (List ℕ)) (text : List ℕ) → Contains texts text → Contains (firsts texts) text
Contains_in_firsts texts text is = Contains_from_among (firsts texts) text (among_firsts texts text ∙ among_from_Contains texts text is)

without_same : (first text : List ℕ) (texts : List (List ℕ)) → bytes_eq first text ≡ true → without first (texts ++ text ∷ []) ≡ without first texts
without_same first text texts same =
    filter-append (λ other. not (bytes_eq first other)) texts (text ∷ []) ∙ (rw same (append-nil (without first texts)))

without_other : (first text : List ℕ) (texts : List (List ℕ)) → bytes_eq first text ≡ false → without first (texts ++ text ∷ []) ≡ without first texts ++ text ∷ []
without_other first text texts apart =
    filter-append (λ other. not (bytes_eq first other)) texts (text ∷ []) ∙ (rw apart refl)

-- what one text more does, by whether it is among those before
one_more : (texts : List (List ℕ)) (text : List ℕ)
    → (is_among text texts ≡ true → firsts (texts ++ text ∷ []) ≡ firsts texts) × (is_among text texts ≡ false → firsts (texts ++ text ∷ []) ≡ firsts texts ++ text ∷ [])
one_more [] text = (λ is. absurd (false≢true is), λ is. refl)
one_more (first ∷ texts) text =
    let more = one_more texts text in
    let rest : List (List ℕ) = firsts (texts ++ text ∷ []) in
    elim (bytes_eq first text) as (λ b. bytes_eq first text ≡ b
    → (is_among text (first ∷ texts) ≡ true → first ∷ without first rest ≡ firsts (first ∷ texts))
    × (is_among text (first ∷ texts) ≡ false → first ∷ without first rest ≡ firsts (first ∷ texts) ++ text ∷ [])) [
      | true ↦ λ same. (
        λ is. ap (λ ts. first ∷ ts) (elim (is_among text texts) as (λ b. is_among text texts ≡ b → without first rest ≡ without first (firsts texts)) [
          | true ↦ λ known. ap (without first) (more.0 known)
          | false ↦ λ new. ap (without first) (more.1 new) ∙ without_same first text (firsts texts) same
        ] refl),
        λ is. let no : true ≡ false = rw same at is in absurd (false≢true (sym no)),
      )
      | false ↦ λ apart. (
        λ is. let known : is_among text texts ≡ true = rw apart at is in ap (λ ts. first ∷ without first ts) (more.0 known),
        λ is. let new : is_among text texts ≡ false = rw apart at is in
            ap (λ ts. first ∷ without first ts) (more.1 new) ∙ ap (λ ts. first ∷ ts) (without_other first text (firsts texts) apart),
      )
    ] refl

pub firsts_known : (texts : List (List ℕ)) (text : List ℕ) → Contains texts text → firsts (texts ++ text ∷ []) ≡ firsts texts
firsts_known texts text known = (one_more texts text).0 (among_from_Contains texts text known)

pub firsts_new : (texts : List (List ℕ)) (text : List ℕ) → ¬ Contains texts text → firsts (texts ++ text ∷ []) ≡ firsts texts ++ text ∷ []
firsts_new texts text new = (one_more texts text).1 (elim (is_among text texts) as (λ b. is_among text texts ≡ b → is_among text texts ≡ false) [
  | true ↦ λ is. absurd (new (Contains_from_among texts text is))
  | false ↦ λ is. is
] refl)

-- what is written of one line more
pub deduped_known : (lines : List (List ℕ)) (line : List ℕ) → Contains lines line → deduped (lines ++ line ∷ []) ≡ deduped lines
deduped_known lines line known = ap (flat_map with_break) (firsts_known lines line known)

pub deduped_new : (lines : List (List ℕ)) (line : List ℕ) → ¬ Contains lines line → deduped (lines ++ line ∷ []) ≡ deduped lines ++ with_break line
deduped_new lines line new = ap (flat_map with_break) (firsts_new lines line new) ∙ sym (flat_map_more with_break [] (firsts lines) line)
