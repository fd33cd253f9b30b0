-- What a walk over the buckets of a generation has met.
use Rattle.std.proofs.Common.{◌≡◌, ◌≢◌, ℕ, ◌+◌, ◌<◌, Bool, true, ap, subst, arith}
use mathlib.Core.List.{IsPrefix}
use mathlib.Core.Logic.{dite}
use native.Mathlib.Decide.{ℕ_discrete}
use Rattle.table_terms.specs.Laws.{IsLaw}
use Rattle.table_numbered.specs.declared.event.Numbered.{Numbered}
use Rattle.table_numbered.specs.declared.event.Stored.TheVariants.{Entry}
use Rattle.table_numbered.specs.Words.{numbered, alike, marked}
use Rattle.table_numbered.specs.History.{History, IsFree, HasSize, Says, IsReached, OneValue}
use Rattle.table_numbered.specs.Walking.{IsTaken, HasAt, IsOnlyAt}
use Rattle.table_numbered.proofs.Histories.{stands_on, untouched_free, closed_free, same_value, has_inside, one_bucket}
use Rattle.table_numbered.proofs.Marks.{alike_lawful}
use Rattle.table_numbered.proofs.Steps.{closed_says}

module _ {V : Type 0} (same : V → V → Bool) (hash : V → ℕ) where
  -- a word below 2 names no entry
  pub free_below : (p word : ℕ) (log : History (Numbered V)) → IsReached (alike same) (marked hash) log → Says (alike same) (marked hash) p word log → word < 2 → IsFree log p
  free_below p word log r says less = dite (ℕ_discrete word 0)
      (λ (is : word ≡ 0). untouched_free log p (says.0 is))
      (λ (ne : word ≢ 0). closed_free (alike same) (marked hash) log p r (closed_says (alike same) (marked hash) p word log says (omega (arith, less, ne))))

  -- a bucket has one number for good
  pub same_number_at : (log : History (Numbered V)) (p j k : ℕ) → IsReached (alike same) (marked hash) log → HasAt log p j → HasAt log p k → j ≡ k
  same_number_at log p j k r one other = ap (λ (e : Numbered V). e.number) (same_value (alike same) (marked hash) log p (numbered j one.0) (numbered k other.0) r one.1 other.1)

  -- a number stands in one bucket, since it has one value, and a value stands in one bucket
  pub only_at : IsLaw same hash → (log : History (Numbered V)) (p k : ℕ) → IsReached (alike same) (marked hash) log → OneValue log → HasAt log p k → IsOnlyAt log p k
  only_at law log p k r one here q there =
      let like : same there.0 here.0 ≡ true = subst (λ (x : V). same there.0 x ≡ true) (one q p k there.0 here.0 there.1 here.1) (law.reflexive there.0) in
      one_bucket (alike same) (marked hash) (alike_lawful law) log q p (numbered k there.0) (numbered k here.0) r there.1 here.1 like

  -- none of the first i buckets has the number k
  abbrev pub HasPassedAll : ℕ → History (Numbered V) → ℕ → Type 0
  HasPassedAll k log i = (p : ℕ) → p < i → HasAt log p k → ⊥

  -- nor has the next one
  pub passed_next : (k i : ℕ) (start new : History (Numbered V)) → IsPrefix start new → HasPassedAll k start i → (HasAt new i k → ⊥) → HasPassedAll k start (i + 1)
  passed_next k i start new on passed other p lt there = dite (ℕ_discrete p i)
      (λ (is : p ≡ i). other (subst (λ (q : ℕ). HasAt new q k) is (there.0, stands_on start new p (numbered k there.0) on there.1)))
      (λ (ne : p ≢ i). passed p (omega (arith, lt, ne)) there)

  -- no bucket has it
  pub not_taken : (n k : ℕ) (log : History (Numbered V)) → HasSize n log → IsReached (alike same) (marked hash) log → HasPassedAll k log n → IsTaken log k → ⊥
  not_taken n k log size r passed taken = passed taken.1.0 (has_inside (alike same) (marked hash) n taken.1.0 (Entry (numbered k taken.0)) log size r taken.1.1) (taken.0, taken.1.1)
