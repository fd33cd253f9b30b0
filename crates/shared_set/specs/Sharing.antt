-- What becomes of the values of a set of one owner that is shared.
use Rattle.std.specs.Prelude.{◌≡◌, ℕ, ◌++◌, List, [], ◌∷◌, Option, Some, None, Contains}
use Rattle.std.specs.List.Sorted.{IsPermutation}
use Rattle.table_numbered.specs.Words.{numbered}
use Rattle.table_numbered.specs.History.{History, IsEntry}
use Rattle.table_numbered.specs.declared.event.Numbered.{Numbered}
use Rattle.shared_set.specs.declared.share.Shared.{Shared}
use Rattle.shared_set.specs.declared.share.Partly.{Partly}
use Rattle.shared_set.specs.declared.share.Unshared.{Unshared}
use Rattle.shared_set.specs.declared.share.Unshared.TheVariants as unshared

module _ {V : Type 0} where
  -- the value is an entry, with some number
  abbrev pub HasValue : History (Numbered V) → V → Type 0
  HasValue log v = (k : ℕ) × IsEntry log (numbered k v)

  -- each of the values is an entry
  abbrev pub HasEach : History (Numbered V) → List V → Type 0
  HasEach log values = (v : V) → Contains values v → HasValue log v

  -- the first of the values are entries, and the others are left
  pub record Moves (values : List V) (log : History (Numbered V)) (left : List V) : Type 0 where
    pub moved : List V
    pub all : values ≡ moved ++ left
    pub entries : HasEach log moved

  -- no value is left; or the value that was returned and those after it are
  abbrev pub Leaves : List V → History (Numbered V) → Option V → List V → Type 0
  Leaves values log None rest = Moves values log []
  Leaves values log (Some v) rest = Moves values log (v ∷ rest)

  -- what is known is of this set, and each of the values is an entry of it; each new handle of the set knows the same
  pub record KnowsEach {L A : Type 0} (values : List V) (s : Shared V L A) : Type 0 where
    pub of : s.known.of ≡ s.set.of
    pub entries : HasEach s.known.history values
    pub handles : s.set.known ≡ s.known.history

  -- each of the values once: some are known entries of the set, one was refused, and the others are left
  pub record HasPart {L A U : Type 0} (values : List V) (p : Partly V L A U) : Type 0 where
    pub moved : List V
    pub all : IsPermutation values (moved ++ p.refused ∷ p.rest)
    pub knows : KnowsEach moved p.shared

  -- the set of one owner has these values still; or some are known entries of the shared set, and the others are left
  abbrev pub KeepsEach : {L M A U : Type 0} → List V → Unshared V L M A U → Type 0
  KeepsEach values (unshared.Held held) = held ≡ values
  KeepsEach values (unshared.Partly p) = HasPart values p
