-- No two entries of a history that was reached are the same.
use Rattle.std.proofs.Common.{◌∙◌, ℕ, Bool, sym}
use Rattle.std.proofs.lemmas.Option.{same_Some}
use Rattle.table_terms.specs.Laws.{IsLaw}
use Rattle.table_numbered.specs.Words.{alike, marked}
use Rattle.table_numbered.specs.History.{History, IsReached, entries}
use Rattle.table_numbered.specs.declared.event.Numbered.{Numbered}
use Rattle.table_numbered.proofs.Apart.{one_is_found}
use Rattle.table_numbered.proofs.Histories.{stands_among}
use Rattle.shared_set.specs.Apart.{AreApart, AreNumbers}

module _ {V : Type 0} (same : V → V → Bool) (hash : V → ℕ) where
  pub reached_numbers : (log : History (Numbered V)) → IsReached (alike same) (marked hash) log → AreNumbers log
  reached_numbers log r e there = r.1.number there.0 e there.1

  -- each of the two is what is found in the list of the entries
  pub reached_apart : IsLaw same hash → (log : History (Numbered V)) → IsReached (alike same) (marked hash) log → AreApart same log
  reached_apart law log r d e one other is =
      let few = r.1.apart d in
      same_Some d e (sym (one_is_found (alike same d) (entries log) d few (stands_among log one.0 d one.1) (law.reflexive d.value))
      ∙ one_is_found (alike same d) (entries log) e few (stands_among log other.0 e other.1) is)
