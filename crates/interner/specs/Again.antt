-- That a number stays with its text.
use Rattle.std.specs.Prelude.{◌≡◌, ℕ, ◌-◌, ◌++◌, List, Option, Some, Result, Ok, slice_get, option_map}
use Rattle.std.specs.Int.NonZero.{non_zero_u32_get}
use Rattle.std.specs.declared.num.NonZeroU32.{NonZeroU32}
use Rattle.interner.specs.Texts.{HasNumber, AllDifferent, FindsNumber}
use Rattle.interner.specs.Interns.{Interns}
use Rattle.interner.specs.declared.refused.Refused.{Refused}

-- the texts of a later interner begin with those of an earlier one
abbrev pub IsLater : List (List ℕ) → List (List ℕ) → Type 0
IsLater old new = (more : List (List ℕ)) × (new ≡ old ++ more)

abbrev pub LaterIsReflexive : Type 0
LaterIsReflexive = (texts : List (List ℕ)) → IsLater texts texts

abbrev pub LaterIsTransitive : Type 0
LaterIsTransitive = (a b c : List (List ℕ)) → IsLater a b → IsLater b c → IsLater a c

-- every call leaves a later interner, whatever it answers
abbrev pub InternsLater : Type 0
InternsLater =
    (old new : List (List ℕ)) (text : List ℕ) (answer : Result NonZeroU32 Refused) →
    Interns old text answer new → IsLater old new

-- a text has its number in every later interner too
abbrev pub NumbersStay : Type 0
NumbersStay =
    (old new : List (List ℕ)) (text : List ℕ) (number : ℕ) →
    IsLater old new → HasNumber old text number → HasNumber new text number

-- after a text was interned, a look-up in a later interner finds its number, and the number its text
abbrev pub FindsAgain : Type 0
FindsAgain =
    (old new later : List (List ℕ)) (text : List ℕ) (number : NonZeroU32) (found : Option NonZeroU32) →
    Interns old text (Ok number) new → IsLater new later →
    AllDifferent later → FindsNumber later text found →
    (option_map non_zero_u32_get found ≡ Some (non_zero_u32_get number)) ×
    (slice_get later (non_zero_u32_get number - 1) ≡ Some text)

-- two texts with one number are equal
abbrev pub OneText : Type 0
OneText =
    (texts : List (List ℕ)) (a b : List ℕ) (number : ℕ) →
    HasNumber texts a number → HasNumber texts b number → a ≡ b

-- equal texts have one number
abbrev pub OneNumber : Type 0
OneNumber =
    (texts : List (List ℕ)) (a b : List ℕ) (m n : ℕ) → AllDifferent texts →
    HasNumber texts a m → HasNumber texts b n → a ≡ b → m ≡ n
