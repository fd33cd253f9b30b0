-- What is true of all entries of a history.
use Rattle.std.specs.Prelude.{◌≡◌, Bool, true}
use Rattle.table_numbered.specs.Words.{IsNumber}
use Rattle.table_numbered.specs.History.{History, IsEntry, OneValue}
use Rattle.table_numbered.specs.declared.event.Numbered.{Numbered}

module _ {V : Type 0} where
  -- two entries that are the same are one
  abbrev pub AreApart : (V → V → Bool) → History (Numbered V) → Type 0
  AreApart same log = (d e : Numbered V) → IsEntry log d → IsEntry log e → same d.value e.value ≡ true → d ≡ e

  -- a word has room for the number of each entry
  abbrev pub AreNumbers : History (Numbered V) → Type 0
  AreNumbers log = (e : Numbered V) → IsEntry log e → IsNumber e.number

  -- no two entries are the same or have one number, and a word has room for each number
  pub record IsApart (same : V → V → Bool) (log : History (Numbered V)) : Type 0 where
    pub entries : AreApart same log
    pub values : OneValue log
    pub numbers : AreNumbers log
