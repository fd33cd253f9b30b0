-- How the entries of a generation are carried into the next one.
use Rattle.std.proofs.Common.{◌≡◌, ◌≢◌, ℕ, suc, ◌*◌, ◌<◌, Bool, subst, arith}
use Rattle.std.specs.Int.{IsPowerOfTwo}
use Rattle.std.proofs.lemmas.Nat.{pow_pos}
use mathlib.Core.List.{IsPrefix}
use mathlib.Core.Logic.{dite}
use native.Mathlib.Decide.{ℕ_discrete}
use Rattle.table_numbered.specs.declared.event.Stored.{Stored}
use Rattle.table_numbered.specs.declared.event.Stored.TheVariants.{Entry, Closed}
use Rattle.table_numbered.specs.declared.event.Numbered.{Numbered}
use Rattle.table_numbered.specs.History.{History, Has, Stands, HasSize, IsFull, IsReached, Says}
use Rattle.table_numbered.specs.Carrying.{IsCarried, Carries}
use Rattle.table_numbered.proofs.Histories.{has_on, stands_on, has_inside, closed_free, same_value}
use Rattle.table_numbered.proofs.Steps.{closed_says}

module _ {U : Type 0} (same : Numbered U → Numbered U → Bool) (mark : Numbered U → ℕ) where
  abbrev Log : Type 0
  Log = History (Numbered U)

  -- a closed bucket has no entry to carry
  pub carries_closed : (log new : Log) (p : ℕ) → IsReached same mark log → Has log p Closed → IsCarried log p new
  carries_closed log new p r closed e there = absurd (closed_free same mark log p r closed e there)

  -- a bucket that is closed, or was set before and is not an entry's, is closed
  pub is_closed : (log : Log) (p word : ℕ) → (word ≡ 0 → Has log p Closed) → (word ≢ 0 → Says same mark p word log) → word < 2 → Has log p Closed
  is_closed log p word zero says less = dite (ℕ_discrete word 0)
      (λ (is : word ≡ 0). zero is)
      (λ (ne : word ≢ 0). closed_says same mark p word log (says ne) (omega (arith, less, ne)))

  -- the one entry of a bucket was carried
  pub carries_one : (log new : Log) (p q : ℕ) (e : Numbered U) → IsReached same mark log → Stands log p e → Stands new q e → IsCarried log p new
  carries_one log new p q e r there here f other = (q, subst (Stands new q) (same_value same mark log p e f r there other) here)

  -- what was carried out of an earlier history, of a bucket that was set by then
  pub carried_on : (old log new fresh : Log) (n p : ℕ) → p < n → IsFull n old → IsPrefix old log → IsReached same mark log → IsPrefix new fresh → IsCarried old p new → IsCarried log p fresh
  carried_on old log new fresh n p lt full on r under carried e there = let x = full p lt in
      let is : x.0 ≡ Entry e = r.1.row.once p x.0 (Entry e) (has_on old log p x.0 on x.1) there in
      let c = carried e (subst (Has old p) is x.1) in (c.0, stands_on new fresh c.0 e under c.1)

  -- no bucket behind the last one has anything
  pub carries_all : (n : ℕ) (log new : Log) → HasSize n log → IsReached same mark log → ((p : ℕ) → p < n → IsCarried log p new) → Carries log new
  carries_all n log new size r carried p e there = carried p (has_inside same mark n p (Entry e) log size r there) e there

  -- whatever word a bucket had when it was closed, it has something now
  pub set_then : (log : Log) (p word : ℕ) → (word ≡ 0 → Has log p Closed) → (word ≢ 0 → Says same mark p word log) → (s : Stored (Numbered U)) × Has log p s
  set_then log p word zero says = dite (ℕ_discrete word 0)
      (λ (is : word ≡ 0). (Closed, zero is))
      (λ (ne : word ≢ 0). let x = (says ne).1 ne in (x.0, x.1))

-- twice a power of two
pub doubled_power : (n : ℕ) → IsPowerOfTwo n → IsPowerOfTwo (2 * n)
doubled_power n (k, is) = (suc k, omega (arith, is))

-- a power of two is more than 0
pub power_some : (n : ℕ) → IsPowerOfTwo n → 0 < n
power_some n (k, is) = let some = pow_pos k in omega (arith, is, some)
