-- The entries of a full generation, and the next one that they are carried into.
use Rattle.std.specs.Prelude.{◌≡◌, ℕ, ◌<◌, Bool, true, false, List, map, length, Contains}
use mathlib.Core.List.{IsPrefix}
use Rattle.table_slab.specs.Held.{StandsAt}
use Rattle.table_slab.specs.Slabs.{SlabView}
use Rattle.table_numbered.specs.Words.{IsNumber, numbered, marked, word_of}
use Rattle.table_numbered.specs.declared.event.Numbered.{Numbered}
use Rattle.table_numbered.specs.declared.event.Stored.{Stored}
use Rattle.table_numbered.specs.declared.event.Stored.TheVariants.{Entry}
use Rattle.table_numbered.specs.declared.carrying.OldEntry.{OldEntry}
use Rattle.table_numbered.specs.History.{History, Stands, IsEntry, entries}

module _ {V : Type 0} where
  -- what is due in the history that follows this one: its entries
  abbrev pub due_after : History (Numbered V) → List (Stored (Numbered V))
  due_after log = map Entry (entries log)

  -- the entry of the old bucket p is one of the new history, with the number that it had
  abbrev pub IsCarried : History (Numbered V) → ℕ → History (Numbered V) → Type 0
  IsCarried old p new = (e : Numbered V) → Stands old p e → (q : ℕ) × Stands new q e

  -- each entry of the old history is one of the new, with the number that it had
  abbrev pub Carries : History (Numbered V) → History (Numbered V) → Type 0
  Carries old new = (p : ℕ) → IsCarried old p new

  -- the new history began with the entries of the old one, and with nothing else
  pub record BeginsAs (old new : History (Numbered V)) : Type 0 where
    pub born : History (Numbered V)
    pub known : IsPrefix born new
    pub carried : Carries old born
    pub back : (q : ℕ) (e : Numbered V) → Stands born q e → IsEntry old e

  -- the entry that growth names
  abbrev pub entry_of : {A : Type 0} → OldEntry V A → Numbered V
  entry_of l = numbered l.number l.standing.written.value

  -- it lies in its slot for good, and the word is its own
  pub record IsOldEntry {A : Type 0} (hash : V → ℕ) (s : SlabView) (l : OldEntry V A) : Type 0 where
    pub number : IsNumber l.number
    pub standing : StandsAt s l.number l.standing
    pub word : l.word ≡ word_of (marked hash) (Entry (entry_of l))

  -- e is due in n buckets, which are more than all that is due, and nothing else that is due is the same
  pub record IsOwed (same : V → V → Bool) (n : ℕ) (due : List (Stored (Numbered V))) (e : Numbered V) : Type 0 where
    pub among : Contains due (Entry e)
    pub few : length due < n
    pub one : (f : Numbered V) → Contains due (Entry f) → same e.value f.value ≡ true → f ≡ e

  -- each entry of a history is due in n buckets
  abbrev pub AreOwed : (V → V → Bool) → ℕ → History (Numbered V) → List (Stored (Numbered V)) → Type 0
  AreOwed same n log due = (p : ℕ) (e : Numbered V) → Stands log p e → IsOwed same n due e

  -- whether the entry stands in the bucket p now; if not, another one does
  abbrev pub TakesBucket : {A : Type 0} → (V → V → Bool) → OldEntry V A → ℕ → History (Numbered V) → Bool → Type 0
  TakesBucket same l p log true = Stands log p (entry_of l)
  TakesBucket same l p log false = (e : Numbered V) × Stands log p e
      × (same l.standing.written.value e.value ≡ false)
