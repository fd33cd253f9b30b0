-- What is true of the table and the texts of every interner.
use Rattle.std.specs.Prelude.{◌≡◌, ℕ, ◌+◌, ◌<◌, ◌≤◌, Bool, List, Some, length, map, slice_get}
use Rattle.std.specs.Str.{bytes_eq}
use Rattle.table_held.specs.Table.{HeldTable, Stands, IsLawful}
use Rattle.interner.specs.Texts.{same_by_text, hash_by_text, greatest_number, HasNumber, AllDifferent}

-- asked for a number, the answer is whether its text is this one, if the number has a text
abbrev pub TellsText : List (List ℕ) → ℕ → List ℕ → Bool → Type 0
TellsText texts number text answer =
    (kept : List ℕ) → HasNumber texts kept number → answer ≡ bytes_eq kept text

-- the answer is the hash of the text of this number, and `new` for a number that follows those of all texts
pub record HashesText (hash : List ℕ → ℕ) (texts : List (List ℕ)) (number new answer : ℕ) : Type 0 where
  pub given : (kept : List ℕ) → HasNumber texts kept number → answer ≡ hash kept
  pub next : length texts < number → answer ≡ new

module _ {T V : Type 0} (target : T → V) (text : V → List ℕ) (number : V → ℕ) where
  -- entries in the order of their numbers, from 1 on, with these texts
  pub record AreNumbered (texts : List (List ℕ)) (M : List T) : Type 0 where
    pub numbered : (k : ℕ) (e : T) → slice_get M k ≡ Some e → number (target e) ≡ k + 1
    pub texts_are : map (λ e. text (target e)) M ≡ texts

  -- the table stands for the numbers of these texts, and no text stands twice
  pub record IsKept (hash : List ℕ → ℕ) (texts : List (List ℕ)) (t : HeldTable T) : Type 0 where
    pub different : AllDifferent texts
    pub few : length texts ≤ greatest_number
    pub held : (M : List T) × Stands t M × AreNumbered texts M
    pub lawful : IsLawful target (same_by_text text) (hash_by_text text hash) t
