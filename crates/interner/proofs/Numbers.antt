-- What texts and their numbers say of one another.
use Rattle.std.proofs.Common.{◌≡◌, ◌⊎◌, ℕ, ◌+◌, ◌-◌, ◌++◌, List, [], ◌∷◌, Option, Some, None, Result, Ok, Err, length, ap, arith, inl, inr}
use Rattle.std.specs.Prelude.{slice_get, Contains, option_map}
use Rattle.std.specs.Int.NonZero.{non_zero_u32_get}
use Rattle.std.specs.declared.num.NonZeroU32.{NonZeroU32}
use Rattle.std.proofs.lemmas.Grind.{common_steps}
use Rattle.std.proofs.lemmas.Option.{slice_get_within, get_or_from_slice_get, gets}
use Rattle.interner.specs.Texts.{HasNumber, AllDifferent, FindsNumber, greatest_number}
use Rattle.interner.specs.Interns.{Interns, InternsUpTo}
use Rattle.interner.specs.Again.{IsLater, FindsAgain}
use Rattle.interner.specs.declared.refused.Refused.{Refused}
use Rattle.interner.specs.declared.refused.Refused.TheVariants.{Numbers, NoMemory}

-- a text with a number is one of the texts
pub among_texts : (texts : List (List ℕ)) (text : List ℕ) (n : ℕ) → HasNumber texts text n → Contains texts text
among_texts texts text n (given, is) = (n - 1, slice_get_within texts (n - 1) text is, get_or_from_slice_get texts (n - 1) text text is)

-- a text in front of the list keeps its place
stays_at : (texts more : List (List ℕ)) (k : ℕ) (text : List ℕ) → slice_get texts k ≡ Some text → slice_get (texts ++ more) k ≡ Some text
stays_at texts more k text is = grind (arith, common_steps, gets)

pub stays : (old new : List (List ℕ)) (text : List ℕ) (n : ℕ) → IsLater old new → HasNumber old text n → HasNumber new text n
stays old new text n (more, later) (given, is) = (given, rw later (stays_at old more (n - 1) text is))

-- the place behind the list is that of one text more
at_end : (texts : List (List ℕ)) (text : List ℕ) → slice_get (texts ++ text ∷ []) (length texts) ≡ Some text
at_end texts text = grind (arith, common_steps, gets)

-- one text more has the next number
pub next_number : (texts : List (List ℕ)) (text : List ℕ) (n : ℕ) → n ≡ length texts + 1 → HasNumber (texts ++ text ∷ []) text n
next_number texts text n is = let before : n - 1 ≡ length texts = omega arith in (omega arith, rw before (at_end texts text))

-- what was interned has its number
pub interned : (old new : List (List ℕ)) (text : List ℕ) (number : NonZeroU32) → Interns old text (Ok number) new → HasNumber new text (non_zero_u32_get number)
interned old new text number (inl (has, same)) = rw same has
interned old new text number (inr (none, is, added)) = rw added (next_number old text (non_zero_u32_get number) is)

-- to intern up to the greatest number of all is to intern
pub up_to_all : (old new : List (List ℕ)) (text : List ℕ) (answer : Result NonZeroU32 Refused) → InternsUpTo greatest_number old text answer new → Interns old text answer new
up_to_all old new text (Ok number) (inl known) = inl known
up_to_all old new text (Ok number) (inr (few, next)) = inr next
up_to_all old new text (Err Numbers) (none, given, same) = (none, omega (arith, given.0, given.1), same)
up_to_all old new text (Err NoMemory) refused = refused

-- a look-up of a text with a number finds it
finds : (texts : List (List ℕ)) (text : List ℕ) (n : ℕ) (found : Option NonZeroU32) → AllDifferent texts → HasNumber texts text n → FindsNumber texts text found → option_map non_zero_u32_get found ≡ Some n
finds texts text n None different has none = absurd (none (among_texts texts text n has))
finds texts text n (Some m) different has found = ap Some (different text (non_zero_u32_get m) n found has)

pub found_again : FindsAgain
found_again old new later text number found interns is_later different finding =
    let has : HasNumber later text (non_zero_u32_get number) = stays new later text _ is_later (interned old new text number interns) in
    (finds later text (non_zero_u32_get number) found different has finding, has.1)

-- with one element more, what stands at a place stood there, or is the new one at the end
pub push_cases : {X : Type 0} (xs : List X) (x : X) (k : ℕ) (y : X) → slice_get (xs ++ x ∷ []) k ≡ Some y → (slice_get xs k ≡ Some y) ⊎ ((k ≡ length xs) × (y ≡ x))
push_cases xs x k y is = grind (arith, common_steps, gets)

-- where the text is new, a list with it at its end still holds no text twice
pub different_push : (texts : List (List ℕ)) (text : List ℕ) → AllDifferent texts → ¬ Contains texts text → AllDifferent (texts ++ text ∷ [])
different_push texts text different none t m n (given_m, at_m) (given_n, at_n) =
    elim (push_cases texts text (m - 1) t at_m) [
      | inl m_old ↦ elim (push_cases texts text (n - 1) t at_n) [
        | inl n_old ↦ different t m n (given_m, m_old) (given_n, n_old)
        | inr n_new ↦ absurd (none (among_texts texts text m (given_m, rw (← n_new.1) m_old)))
      ]
      | inr m_new ↦ elim (push_cases texts text (n - 1) t at_n) [
        | inl n_old ↦ absurd (none (among_texts texts text n (given_n, rw (← m_new.1) n_old)))
        | inr n_new ↦ omega arith
      ]
    ]
