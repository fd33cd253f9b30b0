-- What growth and the steps of an insert do to a table.
use Rattle.std.specs.Prelude.{◌≡◌, ℕ, ◌-◌, ◌+◌, ◌*◌, ◌<◌, ◌≤◌, ◌++◌, ◌⊎◌, Bool, [], ◌∷◌, Option, Some, None, Result, Ok, Err, length, slice_index_or, slice_set, replicate}
use Rattle.table_generations.specs.Buckets.{value_at}
use Rattle.table_generations.specs.Growth.{IsRehashed, TryEnds, entry_of}
use Rattle.table_generations.specs.Probe.{IsPassed}
use Rattle.table_held.specs.Shown as shown
use Rattle.table_held.specs.Table.{HeldTable, empty_table, held, marked_at}
use Rattle.table_cell.specs.declared.bucket.Entry.{Entry}
use Rattle.table_held.specs.declared.place.Place.{Place}
use Rattle.table_generations.specs.declared.fixed.Refusal.{Refusal}
use Rattle.table_generations.specs.declared.fixed.Refusal.TheVariants.{NoMemory}

module _ {T U : Type 0} (target : T → U) (rehash : U → ℕ → Type 0) where
  -- a generation of twice the capacity shows the same entries, and the others stay as they are
  pub record IsGrown (old new : HeldTable T) : Type 0 where
    pub rehashed : IsRehashed target rehash old.buckets new.buckets
    pub doubled : length new.buckets ≡ 2 * length old.buckets
    pub generations : new.generations ≡ old.generations ++ new.buckets ∷ []
    pub size : new.size ≡ old.size
    pub first_capacity : new.first_capacity ≡ old.first_capacity

  -- a table with at least half of its buckets set grew, and another one stayed as it was
  abbrev pub GrowsIfWanted : HeldTable T → HeldTable T → Type 0
  GrowsIfWanted old new =
      ((length old.buckets ≤ 2 * old.size) × IsGrown old new)
      ⊎ ((2 * old.size < length old.buckets) × (new ≡ old))

module _ {T : Type 0} where
  -- a first generation was made, or one was there
  abbrev pub IsOpened : HeldTable T → HeldTable T → Type 0
  IsOpened old new =
      ((old ≡ empty_table old.first_capacity)
      × (new ≡ record {
        first_capacity =
            old.first_capacity;
        buckets =
            replicate old.first_capacity None;
        generations =
            replicate old.first_capacity None ∷ [];
        size = 0;
      }))
      ⊎ ((new ≡ old) × (0 < length old.buckets))

  -- each place keeps what it shows
  abbrev pub KeepsPlaces : HeldTable T → HeldTable T → Type 0
  KeepsPlaces old new = shown.KeepsPlaces held old new

  -- bucket i of the current generation, which was empty, now shows the entry
  abbrev pub with_entry : HeldTable T → ℕ → Entry T → HeldTable T
  with_entry t i e =
      let last = length t.generations - 1 in
      record t {
        buckets = slice_set t.buckets i (Some e);
        generations = slice_set t.generations last
            (slice_set (slice_index_or t.generations last []) i (Some e));
        size = t.size + 1;
      }

module _ {T U : Type 0} (target : T → U) (answers : U → Bool → Type 0) where
  -- what one try to place a value in the current generation does
  abbrev pub TriesToPlace : HeldTable T → ℕ → T → Result (Place × Option T) (Refusal T)
      → HeldTable T → Type 0
  TriesToPlace old hash value r new =
      TryEnds target answers old.buckets hash value
      (λ p i. (new ≡ with_entry old i (entry_of value hash))
      × (marked_at new p ≡ Some (entry_of value hash)) × KeepsPlaces old new)
      (λ p i. marked_at old p ≡ value_at old.buckets i)
      (old.size ≡ length old.buckets)
      (new ≡ old)
      r

module _ {T U : Type 0} (target : T → U) (accepts : U → Bool → Type 0)
    (rehash : U → ℕ → Type 0) where
  -- what a placed value leaves, in the words of one try: an Err is a refused block
  abbrev pub TriesWell : HeldTable T → ℕ → T → Result (Place × Option T) T → HeldTable T → Type 0
  TriesWell old hash value (Ok placed) new =
      TriesToPlace target accepts old hash value (Ok placed) new
  TriesWell old hash value (Err back) new =
      TriesToPlace target accepts old hash value (Err (NoMemory back)) new

  -- a value is placed in the current generation, or it was full for the value, and then growth
  -- was refused, or the value is placed after growth
  abbrev pub PlacesOrGrows : HeldTable T → ℕ → T → Result (Place × Option T) T → HeldTable T
      → Type 0
  PlacesOrGrows old hash value r new =
      TriesWell old hash value r new
      ⊎ (IsPassed target accepts old.buckets hash (length old.buckets)
      × (((r ≡ Err value) × (new ≡ old))
      ⊎ ((mid : HeldTable T) × IsGrown target rehash old mid
      × TriesWell mid hash value r new)))
