-- What holds of each history of a chain that was reached.
--     value_shown, end_shown      what a slot's word says
--     below      each slot below one with a value has one
--     differ_before    no two slots of an earlier history have one number
--     final      no value comes any more behind a chain that has ended
use Rattle.std.proofs.Common.{◌≡◌, ◌≢◌, ℕ, zero, suc, ◌+◌, ◌-◌, ◌<◌, ◌≤◌, List, [], length, refl, ap, sym, subst, ◌∙◌, arith, inl, inr}
use Rattle.std.specs.Prelude.{slice_index_or}
use Rattle.std.proofs.lemmas.List.{append-nil}
use mathlib.Core.List.{IsPrefix}
use mathlib.Core.Logic.{dite}
use native.Mathlib.Decide.{ℕ_discrete, dec_lt}
use Rattle.table_chain.specs.declared.event.Stored.{Stored}
use Rattle.table_chain.specs.declared.event.Stored.TheVariants.{Shown, End}
use Rattle.table_chain.specs.History.{History, Has, Stands, HasSize, word_of, NumbersDiffer, IsReached, Told}
use Rattle.table_chain.specs.Chains.{IsEnd, IsWhole, IsFinal, AreValues}
use Rattle.table_chain.proofs.Trades.{later}
use Rattle.table_chain.proofs.Steps.{slots_is, size_on, shown_is}

module _ {G : Type 0} (Begins : G → Type 0) (Follows : G → G → Type 0) where
  abbrev Reached : History G → Type 0
  Reached = IsReached Begins Follows

  abbrev Says : ℕ → ℕ → History G → Type 0
  Says = Told Begins Follows

  number_out : (s : Stored G) (k n : ℕ) → n ≡ word_of s k → n ≢ 1 → (g : G) × (s ≡ Shown g) × (n ≡ k + 2)
  number_out (Shown g) k n is open_ = (g, refl, is)
  number_out End k n is open_ = absurd (open_ is)

  pub value_shown : (log : History G) (p n : ℕ) → Reached log → Says p n log → n ≢ 0 → n ≢ 1 → (g : G) × Has log p (n - 2) (Shown g) × (2 ≤ n)
  value_shown log p n r t full open_ = let x = t.1 full in let o = number_out x.1 x.0 n x.3 open_ in let is : x.0 ≡ n - 2 = omega (arith, o.2) in
      (o.0, subst (λ (z : ℕ × Stored G). Has log p z.0 z.1) (λ i. (is i, o.1 i)) x.2, omega (arith, o.2))

  end_is : (s : Stored G) (k n : ℕ) → n ≡ word_of s k → n ≡ 1 → s ≡ End
  end_is (Shown g) k n is one = absurd (omega (arith, is, one))
  end_is End k n is one = refl

  pub end_shown : (log : History G) (p n : ℕ) → Says p n log → n ≡ 1 → IsEnd log p
  end_shown log p n t one = let x = t.1 (λ zero. omega (arith, zero, one)) in (x.0, subst (Has log p x.0) (end_is x.1 x.0 n x.3 one) x.2)

  -- a slot with a value says its number
  pub word_says : (log : History G) (p n k : ℕ) (g : G) → Reached log → Says p n log → Has log p k (Shown g) → n ≡ k + 2
  word_says log p zero k g r t there = absurd (t.0 refl k (Shown g) there)
  word_says log p (suc n) k g r t there = let x = t.1 (λ e. omega (arith, e)) in let same = r.1.once p x.0 k x.1 (Shown g) x.2 there in
      x.3 ∙ ap (λ (z : ℕ × Stored G). word_of z.1 z.0) (λ i. (same.0 i, same.1 i))

  -- what a later history says of a slot whose value is known
  pub known_shown : (log after : History G) (p n k : ℕ) (g : G) → IsPrefix log after → Reached after → Says p n after → Has log p k (Shown g)
      → Has after p (n - 2) (Shown g) × (2 ≤ n) × (k ≡ n - 2)
  known_shown log after p n k g on r t there = let has : Has after p k (Shown g) = later log after p k (Shown g) on there in let says : n ≡ k + 2 = word_says after p n k g r t has in
      let is : k ≡ n - 2 = omega (arith, says) in
      (subst (λ (i : ℕ). Has after p i (Shown g)) is has, omega (arith, says), is)

  pub stands_on : (l m : History G) (p : ℕ) (g : G) → IsPrefix l m → Stands l p g → Stands m p g
  stands_on l m p g on there = (there.0, later l m p there.0 (Shown g) on there.1)

  -- one more slot with a value
  pub values_push : (l m : History G) (n : ℕ) → IsPrefix l m → ((p : ℕ) → p < n → (g : G) × Stands l p g) → ((g : G) × Stands m n g) → (p : ℕ) → p < n + 1 → (g : G) × Stands m p g
  values_push l m n on before here p lt = dite (ℕ_discrete p n) (λ (is : p ≡ n). subst (λ (i : ℕ). (g : G) × Stands m i g) (sym is) here)
      (λ (ne : p ≢ n). let v = before p (omega (arith, lt, ne)) in (v.0, stands_on l m p v.0 on v.1))

  pub slot_within : (slots : ℕ) (log : History G) → HasSize slots log → Reached log → (p k : ℕ) (s : Stored G) → Has log p k s → p < slots
  slot_within slots log size r p k s there = omega (arith, r.1.inside p k s there, slots_is (length r.0) log r.1.size, slots_is slots log size)

  -- a value that stands in a slot is the one that does
  pub one_value : (log : History G) (p k j : ℕ) (g h : G) → Reached log → Has log p k (Shown g) → Has log p j (Shown h) → g ≡ h
  one_value log p k j g h r one other = shown_is g h (r.1.once p k j (Shown g) (Shown h) one other).1

  pub below : (log : History G) → Reached log → (p q k : ℕ) (g : G) → q ≤ p → Has log p k (Shown g) → (j : ℕ) × (h : G) × Has log q j (Shown h)
  below log r zero q k g le there = let is : 0 ≡ q = omega (arith, le) in (k, g, subst (λ (i : ℕ). Has log i k (Shown g)) is there)
  below log r (suc p) q k g le there = dite (ℕ_discrete q (suc p))
      (λ (is : q ≡ suc p). (k, g, subst (λ (i : ℕ). Has log i k (Shown g)) (sym is) there))
      (λ (ne : q ≢ suc p). let b = (r.1.joined (suc p) g (k, there)).behind p refl in below log r p q b.1.0 b.0 (omega (arith, le, ne)) b.1.1)

  pub ends : (n slots : ℕ) (log : History G) → HasSize slots log → IsWhole slots n log → (after : History G) → IsPrefix log after → Reached after → (p : ℕ) (g : G) → Stands after p g → p < n
  ends n slots log size whole after on r p g there = dite (dec_lt p n) (λ (lt : p < n). lt) (λ (no : p < n → ⊥). absurd (let at = below after r p n there.0 g (omega (arith, no)) there.1 in elim whole.last [
    | inl all ↦ let here = r.1.inside n at.0 (Shown at.1) at.2 in omega (arith, all, here, slots_is (length r.0) after r.1.size, slots_is slots after (size_on slots log after size on))
    | inr last ↦ let no : Shown at.1 ≡ End = (r.1.once n at.0 last.0 (Shown at.1) End at.2 (later log after n last.0 End on last.1)).1 in cc
  ]))

  pub final : (n slots : ℕ) (log : History G) → HasSize slots log → IsWhole slots n log → IsFinal Begins Follows log
  final n slots log size whole after on r p g there = let lt : p < n = ends n slots log size whole after on r p g there in let v = whole.values p lt in
      let is : v.0 ≡ g = one_value after p v.1.0 there.0 v.0 g r (later log after p v.1.0 (Shown v.0) on v.1.1) there.1 in (v.1.0, subst (λ (x : G). Has log p v.1.0 (Shown x)) is v.1.1)

  -- the values of a chain that has ended
  pub are_values : (n slots : ℕ) (log : History G) (gs : List G) → HasSize slots log → Reached log → IsWhole slots n log → length gs ≡ n
      → ((p : ℕ) (d : G) → p < length gs → Stands log p (slice_index_or gs p d)) → AreValues log gs
  are_values n slots log gs size r whole long each = record {
    each = each;
    none = λ p g there. omega (arith, long, ends n slots log size whole log ([], append-nil log) r p g there);
  }

  -- what any other history says of a slot is what is handed out there
  pub all_handed_out : (log other both : History G) (gs : List G) → AreValues log gs → IsFinal Begins Follows log → IsPrefix log both → IsPrefix other both → Reached both → (p : ℕ) (g : G) → Stands other p g
      → (p < length gs) × (slice_index_or gs p g ≡ g)
  all_handed_out log other both gs values ended on too r p g there = let after = stands_on other both p g too there in let lt : p < length gs = values.none p g (ended both on r p g after) in
      let here = stands_on log both p (slice_index_or gs p g) on (values.each p g lt) in (lt, one_value both p here.0 after.0 (slice_index_or gs p g) g r here.1 after.1)

pub differ_before : {G : Type 0} (l m : History G) → IsPrefix l m → NumbersDiffer m → NumbersDiffer l
differ_before l m on differ p q k f g one other = differ p q k f g (later l m p k (Shown f) on one) (later l m q k (Shown g) on other)
