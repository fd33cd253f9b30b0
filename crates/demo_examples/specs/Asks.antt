-- What is asked of tables of words, and that two tables tell the same.
use Rattle.std.specs.Prelude.{◌≡◌, ℕ}
use Rattle.std.specs.List.Sorted.{IsPermutation}
use Rattle.table_generations.specs.declared.atomic_value.InPlace.{InPlace}
use Rattle.table_held.specs.Shown.{Shows, entries_of}
use Rattle.table_held.specs.Settled.{NoneRefuses}
use Rattle.table_held.specs.declared.runs.Call.{Call}
use Rattle.table_held.specs.declared.runs.Call.TheVariants as call
use Rattle.demo_examples.specs.Words.{word_hash}
use Rattle.demo_examples.specs.declared.alike.Ask.{Ask}
use Rattle.demo_examples.specs.declared.alike.Ask.TheVariants as ask
use Rattle.demo_examples.specs.declared.alike.ToldTwice.{ToldTwice}

abbrev pub in_place : ℕ → InPlace ℕ
in_place word = record { 0 = word }

-- the call that asks this, with the word's own hash
abbrev pub asked_of_words : Ask → Call (InPlace ℕ) ℕ
asked_of_words (ask.Insert word) = call.Insert (word_hash word) (in_place word)
asked_of_words (ask.Find word) = call.Lookup (word_hash word) word
asked_of_words ask.Count = call.Len

module _ {X Y P Q : Type 0} (s : Shows X (InPlace ℕ) P) (r : Shows Y (InPlace ℕ) Q) where
  -- where neither table refused a word, both told the same, and have the same entries
  abbrev pub AreAlike : X → Y → ToldTwice → Type 0
  AreAlike x y told = NoneRefuses told.one.items → NoneRefuses told.other.items →
      (told.one.items ≡ told.other.items) × IsPermutation (entries_of s x) (entries_of r y)
