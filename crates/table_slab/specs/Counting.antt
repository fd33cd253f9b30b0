-- A counter's first word is how many slots were handed out, and its second one names the returned slots that it keeps. The rights to those, and to the slots that were not handed out, are kept beside its log.
use Rattle.std.specs.Prelude.{◌≡◌, ℕ, zero, suc, ◌+◌, ◌/◌, ◌%◌, ◌^◌, ◌⊎◌, ◌++◌, ◌==◌, true, List, [], ◌∷◌, take, drop, Some, MatchBool}
use base.Fml.{Fml, ftrue}
use denote.RattleType.{RattleType}
use Rattle.logbook.specs.Pages.{Cell, Step, View, Book, Named}
use Rattle.table_slab.specs.Rights.{rooms}
use Rattle.table_slab.specs.declared.counter.rule.Event.{Event}
use Rattle.table_slab.specs.declared.counter.rule.Event.TheVariants.{Taken, Left}

-- how many slots these steps handed out
abbrev pub total : List Event → ℕ
total [] = 0
total (Taken n ∷ es) = n + total es
total (Left w ∷ es) = total es

-- the second word after these steps, where it was w before
abbrev pub lying : ℕ → List Event → ℕ
lying w [] = w
lying w (Taken n ∷ es) = lying w es
lying w (Left v ∷ es) = lying v es

-- the words are the number of slots that were handed out, and the name of the returned slots
pub record IsKept (cells : List Cell) (log : List Event) : Type 0 where
  pub words : cells ≡ (total log, true) ∷ (lying 0 log, true) ∷ []

-- what the word is before such a step that the step changes
abbrev pub before : Event → List Event → ℕ
before (Taken n) log = total log
before (Left w) log = lying 0 log

-- the step was made, and its answer says what the word was; or it was not
abbrev pub Moved : Event → List Event → List Event → ℕ → Type 0
Moved ask old new answer = ((answer ≡ suc (before ask old)) × (new ≡ old ++ ask ∷ [])) ⊎ ((answer ≡ 0) × (new ≡ old))

-- so many names, from the one at the offset on
abbrev pub part : List ℕ → ℕ → ℕ → List ℕ
part names offset count = take count (drop offset names)

-- the slots that a second word names: it is 2 ^ 32 times the offset of the first one, plus how many they are
abbrev pub said_by : List ℕ → ℕ → List ℕ
said_by names word = part names (word / 2 ^ 32) (word % 2 ^ 32)

-- the slots that such a step took out of a counter, where it found this word
abbrev pub slots_of : List ℕ → List Event → ℕ → List ℕ
slots_of names [] word = []
slots_of names (Taken n ∷ es) word = part names word n
slots_of names (Left w ∷ es) word = said_by names word

module _ (R : RattleType) where
  -- the rights to the returned slots, and to those that were not handed out
  abbrev pub left : List ℕ → List Event → Fml
  left names log = rooms R (said_by names (lying 0 log) ++ drop (total log) names)

  -- what a step gains: the rights to the slots that it took out
  abbrev pub gained : List ℕ → List Event → ℕ → Fml
  gained names about zero = ftrue
  gained names about (suc word) = rooms R (slots_of names about word)

-- the book's word with this key
abbrev pub word_of : Book → ℕ → Named
word_of b key = record { tracked = true; key = key; book = b }

abbrev pub Looks : Step Event → View Event ℕ → ℕ → View Event ℕ → Type 0
Looks s v found w = Unit {0}

-- the step is made where the word is the old one
abbrev pub Swaps : Step Event → View Event ℕ → ℕ → View Event ℕ → Type 0
Swaps s v found w = MatchBool (found == s.old) (w.1.1 ≡ Some (suc s.old)) (w.1.1 ≡ Some 0)
