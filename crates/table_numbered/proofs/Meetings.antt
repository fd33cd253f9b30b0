-- What a bucket's word tells of its entry.
use Rattle.std.proofs.Common.{◌≡◌, ◌≢◌, ℕ, ◌+◌, ◌/◌, ◌%◌, ◌^◌, ◌≤◌, Bool, true, false, Some, ap, sym, subst, ◌∙◌, arith}
use Rattle.std.specs.Prelude.{Option, None}
use mathlib.Core.List.{IsPrefix}
use Rattle.std.specs.Borrow.{Bor}
use Rattle.table_slab.specs.Held.{IsReceiptFor}
use Rattle.table_slab.specs.Slabs.{SlabView}
use Rattle.table_slab.specs.declared.rights.Receipt.{Receipt}
use Rattle.table_numbered.specs.declared.event.Numbered.{Numbered}
use Rattle.table_numbered.specs.declared.event.Stored.TheVariants.{Entry}
use Rattle.table_numbered.specs.declared.place.Claim.{Claim}
use Rattle.table_numbered.specs.declared.place.Claim.TheVariants as claim
use Rattle.table_numbered.specs.declared.place.Coming.{Coming}
use Rattle.table_numbered.specs.Words.{mark_of, numbered, alike, marked, word_of}
use Rattle.table_numbered.specs.History.{event, History, Stands, Says, IsReached, Adds}
use Rattle.table_numbered.specs.Generations.{IsComing, Claims}
use Rattle.table_numbered.proofs.Histories.{false_unless, same_value}
use Rattle.table_numbered.proofs.Steps.{entry_says, number_says, adds_after}

abbrev or_value : {X : Type 0} → X → Option X → X
or_value d (Some x) = x
or_value d None = d

pub some_is : {X : Type 0} (x y : X) → Some x ≡ Some y → x ≡ y
some_is x y is = ap (or_value x) is

module _ {V : Type 0} (same : V → V → Bool) (hash : V → ℕ) where
  module _ (p word : ℕ) (log : History (Numbered V)) (r : IsReached (alike same) (marked hash) log) (says : Says (alike same) (marked hash) p word log) (more : 2 ≤ word) where
    abbrev e : Numbered V
    e = (entry_says (alike same) (marked hash) p word log says more).0

    stood : Stands log p e
    stood = (entry_says (alike same) (marked hash) p word log says more).1

    parts : (word % 2 ^ 32 ≡ e.number + 2) × (word / 2 ^ 32 ≡ marked hash e)
    parts = number_says (alike same) (marked hash) p word e log r stood (entry_says (alike same) (marked hash) p word log says more).2

    pub low : 2 ≤ word % 2 ^ 32
    low = omega (arith, parts.0)

    -- it names an entry by its number
    pub named : (k : ℕ) → k + 2 ≡ word % 2 ^ 32 → (x : V) × Stands log p (numbered k x)
    named k is = let number : e.number ≡ k = omega (arith, is, parts.0) in (e.value, subst (λ (j : ℕ). Stands log p (numbered j e.value)) number stood)

    -- where the mark is another one, the entry does not pass
    pub differs : (test : V → Bool) (m : ℕ) → ((v : V) → test v ≡ true → mark_of (hash v) ≡ m) → (word / 2 ^ 32 ≡ m → ⊥) → (x : Numbered V) × Stands log p x × (test x.value ≡ false)
    differs test m agrees other = (e, stood, false_unless (λ passes. other (parts.1 ∙ agrees e.value passes)))

  -- a word that is neither 0 nor 1 is that of an entry
  pub more_than_1 : (word : ℕ) → word ≢ 0 → word ≢ 1 → 2 ≤ word
  more_than_1 word full open_ = omega (arith, full, open_)

  -- what a claim tells does not depend on when its caller looked last
  pub claims_after : {A : Type 0} (s : SlabView) (v : V) (k p : ℕ) (old mid new : History (Numbered V)) (r : Claim V A) → IsPrefix old mid → Claims same hash s v k p mid new r → Claims same hash s v k p old new r
  claims_after s v k p old mid new (claim.Placed e r) on told = (told.0, adds_after (alike same) (marked hash) p (event p (Some (Entry (numbered k v)))) old mid new on told.1, told.2)
  claims_after s v k p old mid new (claim.Found j e back) on told = told
  claims_after s v k p old mid new (claim.Differs back) on told = told
  claims_after s v k p old mid new (claim.Closed back) on told = told

  -- the same of a value that was met under another name
  pub claims_of : {A : Type 0} (s : SlabView) (u v : V) (j k p : ℕ) (old new : History (Numbered V)) (r : Claim V A) → u ≡ v → j ≡ k → Claims same hash s u j p old new r → Claims same hash s v k p old new r
  claims_of s u v j k p old new r is number told = subst (λ (z : V × ℕ). Claims same hash s z.0 z.1 p old new r) (λ i. (is i, number i)) told

  pub coming_as : {A : Type 0} (s : SlabView) (v : V) (k : ℕ) (c : Coming V A) → IsComing same hash s v k c → IsComing same hash s c.value c.number c
  coming_as s v k c t = subst (λ (z : V × ℕ). IsComing same hash s z.0 z.1 c) (λ i. (sym t.value i, sym t.number i)) t

  -- what is shown of an entry that was placed just now is what was placed, and its receipt is of it
  pub placed : (A : Type 0) (s : SlabView) (p k : ℕ) (shown : Bor V) (r : Receipt V) (x v : V) (old new : History (Numbered V)) → shown.now ≡ r.value → x ≡ v → Adds (alike same) (marked hash) (Entry (numbered k x)) p old new → IsReceiptFor s k x r
      → Claims same hash s v k {A = A} p old new (claim.Placed shown r)
  placed A s p k shown r x v old new reads is a for = (reads ∙ (for.2 ∙ is), subst (λ (u : V). Adds (alike same) (marked hash) (Entry (numbered k u)) p old new) is a, (for.0, for.1, for.2 ∙ is))

  -- a word is that of the entry which the bucket has
  pub word_is : (p word : ℕ) (log : History (Numbered V)) (r : IsReached (alike same) (marked hash) log) (says : Says (alike same) (marked hash) p word log) (more : 2 ≤ word) (k : ℕ) (x : V) → Stands log p (numbered k x) → word ≡ word_of (marked hash) (Entry (numbered k x))
  word_is p word log r says more k x there = (entry_says (alike same) (marked hash) p word log says more).2
      ∙ ap (λ (f : Numbered V). word_of (marked hash) (Entry f)) (same_value (alike same) (marked hash) log p (e p word log r says more) (numbered k x) r (stood p word log r says more) there)
