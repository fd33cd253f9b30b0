-- What it means to intern a text.
use Rattle.std.specs.Prelude.{◌≡◌, ◌⊎◌, ℕ, ◌+◌, ◌<◌, ◌≤◌, ◌++◌, List, [], ◌∷◌, Result, Ok, Err, length, Contains}
use Rattle.std.specs.Int.NonZero.{non_zero_u32_get}
use Rattle.std.specs.declared.num.NonZeroU32.{NonZeroU32}
use Rattle.interner.specs.Texts.{HasNumber, greatest_number}
use Rattle.interner.specs.declared.refused.Refused.{Refused}
use Rattle.interner.specs.declared.refused.Refused.TheVariants.{Numbers, NoMemory}

-- a known text answers its number, and nothing changes
abbrev pub Knows : List (List ℕ) → List ℕ → ℕ → List (List ℕ) → Type 0
Knows old text number new = HasNumber old text number × (new ≡ old)

-- a new text gets the next number
abbrev pub GetsNext : List (List ℕ) → List ℕ → ℕ → List (List ℕ) → Type 0
GetsNext old text number new =
    ¬ Contains old text × (number ≡ length old + 1) × (new ≡ old ++ text ∷ [])

-- only a new text is refused, Numbers only where all are given, and nothing changes
abbrev pub Interns : List (List ℕ) → List ℕ → Result NonZeroU32 Refused → List (List ℕ) → Type 0
Interns old text (Ok number) new =
    Knows old text (non_zero_u32_get number) new ⊎ GetsNext old text (non_zero_u32_get number) new
Interns old text (Err Numbers) new =
    ¬ Contains old text × (length old ≡ greatest_number) × (new ≡ old)
Interns old text (Err NoMemory) new =
    ¬ Contains old text × (length old < greatest_number) × (new ≡ old)

-- so many numbers are given, or more; more than all are never given
abbrev pub AreGiven : ℕ → List (List ℕ) → Type 0
AreGiven greatest texts = (greatest ≤ length texts) × (length texts ≤ greatest_number)

-- the same, where no number above this one is given: Numbers only where so many are given
abbrev pub InternsUpTo : ℕ → List (List ℕ) → List ℕ → Result NonZeroU32 Refused → List (List ℕ) → Type 0
InternsUpTo greatest old text (Ok number) new =
    Knows old text (non_zero_u32_get number) new
    ⊎ (length old < greatest) × GetsNext old text (non_zero_u32_get number) new
InternsUpTo greatest old text (Err Numbers) new =
    ¬ Contains old text × AreGiven greatest old × (new ≡ old)
InternsUpTo greatest old text (Err NoMemory) new =
    ¬ Contains old text × (length old < greatest) × (new ≡ old)

-- the number that follows those of these texts, up to the greatest one, or Numbers where so many are given
abbrev pub GivesNext : ℕ → List (List ℕ) → Result NonZeroU32 Refused → Type 0
GivesNext greatest texts (Ok number) =
    (length texts < greatest) × (non_zero_u32_get number ≡ length texts + 1)
GivesNext greatest texts (Err Numbers) = AreGiven greatest texts
GivesNext greatest texts (Err NoMemory) = ⊥
