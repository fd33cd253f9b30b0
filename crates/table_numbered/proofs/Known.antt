-- What a thread knew of a generation it knows of a longer history too.
use Rattle.std.proofs.Common.{◌≡◌, ℕ, Bool, List, ap, sym, ◌∙◌}
use mathlib.Core.List.{IsPrefix}
use Rattle.logbook.specs.Pages.{Book, Named}
use Rattle.table_slab.specs.Shelved.{slab_of}
use Rattle.table_numbered.specs.declared.event.Numbered.{Numbered}
use Rattle.table_numbered.specs.Words.{alike, marked}
use Rattle.table_numbered.specs.History.{History, IsReached, IsWhole}
use Rattle.table_numbered.specs.Generations.{SetView, IsWord, IsKnown, IsOf}
use Rattle.table_numbered.proofs.Histories.{size_on, whole_on}

-- a word of the book that is known
pub word_of_book : (t : SetView) (b : Book) (w : Named) → b ≡ t.book → IsWord t.book w → IsWord b w
word_of_book t b w is word = (word.0, word.1 ∙ sym is)

module _ {V : Type 0} (same : V → V → Bool) (hash : V → ℕ) where
  pub known_of : (t : SetView) (b : Book) (names : List ℕ) (log : History (Numbered V)) → IsOf same hash t b names log → IsKnown same hash t b names log
  known_of t b names log of = (of.0, of.1, of.2, of.3)

  pub of_known : (t : SetView) (b : Book) (names : List ℕ) (log : History (Numbered V)) → IsKnown same hash t b names log → IsWhole log → IsOf same hash t b names log
  of_known t b names log k whole = (k.0, k.1, k.2, k.3, whole)

  module _ (t : SetView) (b c : Book) (names others : List ℕ) (log new : History (Numbered V)) (is : (c ≡ b) × (others ≡ names)) (on : IsPrefix log new) (r : IsReached (alike same) (marked hash) new) where
    pub known_on : IsKnown same hash t b names log → IsKnown same hash t c others new
    known_on k = (is.0 ∙ k.0, ap slab_of is.1 ∙ k.1, size_on t.size log new k.2 on, r)

    pub of_on : IsOf same hash t b names log → IsOf same hash t c others new
    of_on k = (is.0 ∙ k.0, ap slab_of is.1 ∙ k.1, size_on t.size log new k.2 on, r, whole_on t.size log new k.2 on k.4)
