-- What the receipts of an account are of, how many they are, and what that says of the values that come out.
use Rattle.std.proofs.Common.{◌≡◌, ℕ, zero, suc, ◌+◌, ◌-◌, ◌<◌, ◌≤◌, ◌^◌, Bool, List, [], ◌∷◌, ◌++◌, length, length-append, map, refl, sym, subst, ap, ◌∙◌, arith, inl, inr}
use Rattle.std.specs.Prelude.{Contains, ◌==◌}
use Rattle.std.specs.List.Sorted.{IsPermutation}
use Rattle.std.proofs.lemmas.List.{length-map, map-append}
use Rattle.std.proofs.lemmas.List.Elements.{Contains-append_cases, Contains-append_left, Contains-append_right}
use Rattle.std.proofs.lemmas.List.Sorted.{IsPermutation-map, IsPermutation-trans, Contains-permutation}
use Rattle.table_slab.specs.Held.{AreDistinct}
use Rattle.table_slab.specs.Slabs.{SlabView}
use Rattle.table_numbered.specs.Words.{IsNumber, numbered}
use Rattle.table_numbered.specs.declared.event.Numbered.{Numbered}
use Rattle.table_numbered.specs.History.{History, entries, IsEntry}
use Rattle.table_numbered.specs.Ending.{values_of}
use Rattle.table_numbered.proofs.Histories.{stands_among}
use Rattle.shared_set.specs.declared.cursor.Cursor.{Cursor}
use Rattle.shared_set.specs.Known.{SharedView, Keeps, IsCursor, set_of}
use Rattle.shared_set.specs.Accounts.{entries_of, ComeOut, IsAccount}
use Rattle.shared_set.proofs.Covered.{Differ, covered, counts_of_images, image_among, few_below, no_others, some_others}

module _ {V : Type 0} where
  -- these are entries that are known
  abbrev pub AreKnown : List (ℕ × V) → History (Numbered V) → Type 0
  AreKnown es log = (e : Numbered V) → Contains (entries_of es) e → IsEntry log e

  -- receipts of different numbers are of different entries
  pub differ_by_number : (es : List (ℕ × V)) → AreDistinct es → Differ (λ (e : Numbered V). e.number) (entries_of es)
  differ_by_number es apart n = rw (counts_of_images (λ (e : ℕ × V). numbered e.0 e.1) (λ (e : Numbered V). n == e.number) es) (apart n)

  -- what two know is known to who knows both
  pub both_known : (es fs : List (ℕ × V)) (one other both : History (Numbered V)) → Keeps one both → Keeps other both → AreKnown es one → AreKnown fs other → AreKnown (es ++ fs) both
  both_known es fs one other both kept kept' known known' e among = elim (Contains-append_cases (entries_of es) (entries_of fs) e (subst (λ (l : List (Numbered V)). Contains l e) (map-append (λ (p : ℕ × V). numbered p.0 p.1) es fs) among)) [
    | inl mine ↦ kept e (known e mine)
    | inr theirs ↦ kept' e (known' e theirs)
  ]

  pub one_known : (k : ℕ) (v : V) (log : History (Numbered V)) → IsEntry log (numbered k v) → AreKnown ((k, v) ∷ []) log
  one_known k v log there e (zero, within, is) = subst (IsEntry log) is there
  one_known k v log there e (suc i, within, is) = absurd (omega (arith, within))

  module _ (log : History (Numbered V)) (out : List V) (each : IsPermutation (values_of log) out) where
    -- each entry of the history comes out
    pub known_comes_out : ComeOut log out
    known_comes_out e there = Contains-permutation (values_of log) out e.value each (image_among (λ (x : Numbered V). x.value) (entries log) e (stands_among log there.0 e there.1))

    module _ (es : List (ℕ × V)) (apart : AreDistinct es) (known : AreKnown es log) where
      abbrev values : List V
      values = map (λ (e : Numbered V). e.value) (entries_of es)

      as_many_values : length values ≡ length es
      as_many_values = length-map (entries_of es) (λ (e : Numbered V). e.value) ∙ length-map es (λ (p : ℕ × V). numbered p.0 p.1)

      -- the values of different entries of the history come out, each once, and others
      with_others : (others : List V) × IsPermutation (values ++ others) out
      with_others =
          let value : Numbered V → V = λ e. e.value in let placed = entries_of es in
          let r = covered (λ (e : Numbered V). e.number) placed (entries log) (differ_by_number es apart) (λ e among. let there = known e among in stands_among log there.0 e there.1) in
          (map value r.0, subst (λ (vs : List V). IsPermutation vs out) (map-append value placed r.0) (IsPermutation-trans (map value (placed ++ r.0)) (values_of log) out (IsPermutation-map value (placed ++ r.0) (entries log) r.1) each))

      -- where as many come out, there are no others
      pub all_come_out : length out ≡ length es → IsPermutation values out
      all_come_out as_many = no_others values with_others.0 out with_others.1 (as_many ∙ sym as_many_values)

      -- where not as many come out, there are others
      pub more_come_out : (length out ≡ length es → ⊥) → (others : List V) × (0 < length others) × IsPermutation (values ++ others) out
      more_come_out other = (with_others.0, some_others values with_others.0 out with_others.1 (λ as_many. other (as_many ∙ as_many_values)), with_others.1)

module _ {V L A : Type 0} (same : V → V → Bool) (hash : V → ℕ) where
  -- numbers have 32 bits, so there are at most as many receipts
  pub few_receipts : (c : Cursor V L A) (es : List (ℕ × V)) → IsCursor same hash (set_of c) c → AreDistinct es → AreKnown es c.entries.log → length es ≤ 2 ^ 32
  few_receipts c es at apart known =
      let few = few_below (λ (e : Numbered V). e.number) (2 ^ 32) (entries_of es) (differ_by_number es apart)
      (λ e among. let there = known e among in let small : IsNumber e.number = at.of.3.1.number there.0 e there.1 in omega (arith, small)) in
      omega (arith, few, length-map es (λ (p : ℕ × V). numbered p.0 p.1))

  -- a cursor of a set is one of the set that it tells of
  own_cursor : (g : SharedView) (c : Cursor V L A) → IsCursor same hash g c → IsCursor same hash (set_of c) c
  own_cursor g c at = record {
    seen = record { of_chain = refl; of_slab = refl; size = at.seen.size; reached = at.seen.reached };
    stage = at.stage;
    shown = at.shown;
    slab = sym at.of.1;
    of = at.of;
  }

  -- receipts of two are put together, by a cursor that knows what both know
  module _ (g : SharedView) (one other both : Cursor V L A) (es fs all : List (ℕ × V)) (at : IsCursor same hash g both) (mine : Keeps one.entries.log both.entries.log) (theirs : Keeps other.entries.log both.entries.log)
      (known : AreKnown es one.entries.log) (known' : AreKnown fs other.entries.log) (is : all ≡ es ++ fs) (apart : AreDistinct all) where
    all_known : AreKnown all both.entries.log
    all_known = subst (λ (l : List (ℕ × V)). AreKnown l both.entries.log) (sym is) (both_known es fs one.entries.log other.entries.log both.entries.log mine theirs known known')

    counted_together : length all ≡ length es + length fs
    counted_together = ap (λ (l : List (ℕ × V)). length l) is ∙ length-append es fs

    pub few_together : length es + length fs ≤ 2 ^ 32
    few_together = omega (arith, few_receipts both all (own_cursor g both at) apart all_known, counted_together)

    pub together : (s : SlabView) (m n : ℕ) → s ≡ g.slab → m ≡ length es → n ≡ length fs → IsAccount same hash both s all (m + n)
    together s m n of counted counted' = record { at = own_cursor g both at; of = of ∙ sym (at.of.1 ∙ at.slab); known = all_known; counted = omega (arith, counted, counted', counted_together) }

  -- a cursor of an account learns more
  pub learned : (g : SharedView) (was now : Cursor V L A) (s : SlabView) (es : List (ℕ × V)) (n : ℕ) → IsAccount same hash was s es n → set_of was ≡ g → IsCursor same hash g now → Keeps was.entries.log now.entries.log → IsAccount same hash now s es n
  learned g was now s es n it is at keeps = record {
    at = own_cursor g now at;
    of = it.of ∙ (ap (λ (x : SharedView). x.slab) is ∙ sym (at.of.1 ∙ at.slab));
    known = λ e among. keeps e (it.known e among);
    counted = it.counted;
  }

  -- an account is cut in two
  module _ (c : Cursor V L A) (s part : SlabView) (es fs all : List (ℕ × V)) (n m : ℕ) (it : IsAccount same hash c s all n) (is : all ≡ es ++ fs) (one_slab : part ≡ s) (first : length es ≡ m) where
    in_both : (e : Numbered V) → Contains (entries_of es ++ entries_of fs) e → IsEntry c.entries.log e
    in_both e among = it.known e (subst (λ (l : List (Numbered V)). Contains l e) (sym (ap (λ (l : List (ℕ × V)). entries_of l) is ∙ map-append (λ (p : ℕ × V). numbered p.0 p.1) es fs)) among)

    pub first_part : IsAccount same hash c part es m
    first_part = record { at = it.at; of = one_slab ∙ it.of; known = λ e among. in_both e (Contains-append_left (entries_of es) (entries_of fs) e among); counted = sym first }

    pub other_part : IsAccount same hash c part fs (n - m)
    other_part = record {
      at = it.at;
      of = one_slab ∙ it.of;
      known = λ e among. in_both e (Contains-append_right (entries_of es) (entries_of fs) e among);
      counted = omega (arith, first, it.counted, ap (λ (l : List (ℕ × V)). length l) is, length-append es fs);
    }
