-- The values of a generation's buckets, and how they are taken out of a slab, one bucket after another.
use Rattle.std.proofs.Common.{◌≡◌, ◌≢◌, ℕ, zero, suc, ◌+◌, ◌-◌, ◌<◌, ◌≤◌, ◌++◌, ◌==◌, ◌⊎◌, Bool, true, false, List, [], ◌∷◌, length, map, Option, Some, None, refl, ap, sym, subst, ◌∙◌, arith, eqb-true, length-append, append_assoc, inl, inr}
use Rattle.std.specs.Prelude.{Contains, count_by, cond}
use Rattle.std.proofs.lemmas.Bool.Decides.{eqb_tells}
use Rattle.std.proofs.lemmas.List.{append-nil}
use Rattle.std.proofs.lemmas.List.Sums.{sum_by-cons}
use Rattle.std.proofs.lemmas.List.Elements.{Contains-append_left, Contains-append_right, Contains-append_cases}
use mathlib.Core.List.{IsPrefix}
use mathlib.Core.Logic.{dite}
use native.Mathlib.Decide.{ℕ_discrete}
use Rattle.table_terms.specs.Laws.{IsLaw, AllApart}
use Rattle.logbook.specs.Pages.{Book}
use Rattle.table_slab.specs.Endings.{EndView, IsLeft}
use Rattle.table_numbered.specs.declared.event.Event.{Event}
use Rattle.table_numbered.specs.declared.event.Numbered.{Numbered}
use Rattle.table_numbered.specs.declared.event.Stored.{Stored}
use Rattle.table_numbered.specs.declared.event.Stored.TheVariants.{Entry, Closed}
use Rattle.table_numbered.specs.Words.{numbered, alike, marked}
use Rattle.table_numbered.specs.History.{event, History, Has, Stands, IsFree, HasSize, IsFull, size_of, IsReached, OneValue, stored_by, entries, Says}
use Rattle.table_numbered.specs.Generations.{SetView, set_view, IsOf}
use Rattle.table_numbered.specs.Ending.{AreLeft, AreValues, IsLeaving, left_view, values_of, value_or, value_at, values_from}
use Rattle.table_numbered.proofs.Apart.{first_or_other}
use Rattle.table_numbered.proofs.Marks.{alike_lawful}
use Rattle.table_numbered.proofs.Histories.{false_unless, has_on, stands_on, event_is, size_is, among_stands, stands_among, same_value, closed_free, has_inside, one_bucket}
use Rattle.table_numbered.proofs.Permuted.{apart_first, same_members}
use Rattle.table_numbered.proofs.Steps.{entry_says}
use Rattle.table_numbered.proofs.Carried.{is_closed}

module _ {V : Type 0} where
  -- what was left is left, of one more bucket
  pub left_more : (i : ℕ) (log : History (Numbered V)) (slab : EndView) → AreLeft i log slab → AreLeft (i + 1) log slab
  left_more i log slab left k = elim (left k) [
    | inl is ↦ inl is
    | inr (q, v, lt, there) ↦ inr (q, v, omega (arith, lt), there)
  ]

  -- one slot was taken out, of the entry of the bucket i
  pub left_next : (i number : ℕ) (v : V) (log : History (Numbered V)) (slab next : EndView) → AreLeft i log slab → Stands log i (numbered number v) → ((k : ℕ) → k ≢ number → IsLeft slab k → IsLeft next k) → AreLeft (i + 1) log next
  left_next i number v log slab next left there others k = dite (ℕ_discrete k number)
      (λ (is : k ≡ number). inr (i, v, omega arith, subst (λ (j : ℕ). Stands log i (numbered j v)) (sym is) there))
      (λ (ne : k ≢ number). elim (left k) [
        | inl is ↦ inl (others k ne is)
        | inr (q, w, lt, stood) ↦ inr (q, w, omega (arith, lt), stood)
      ])

  pub one_value_before : (log later : History (Numbered V)) → IsPrefix log later → OneValue later → OneValue log
  one_value_before log later on one p q k v w here there = one p q k v w (stands_on log later p (numbered k v) on here) (stands_on log later q (numbered k w) on there)

  -- the slot of the entry of the bucket i was not taken out before
  pub left_here : {same : V → V → Bool} {hash : V → ℕ} (law : IsLaw same hash) (i number : ℕ) (v : V) (log : History (Numbered V)) (slab : EndView) → IsReached (alike same) (marked hash) log → OneValue log → AreLeft i log slab → Stands log i (numbered number v) → IsLeft slab number
  left_here {same} {hash} law i number v log slab r one left there = elim (left number) [
    | inl is ↦ is
    | inr (q, w, lt, before) ↦
        (let like : same w v ≡ true = subst (λ (x : V). same w x ≡ true) (one q i number w v before there) (law.reflexive w) in
        let at : q ≡ i = one_bucket (alike same) (marked hash) (alike_lawful law) log q i (numbered number w) (numbered number v) r before there like in absurd (omega (arith, lt, at)))
  ]

module _ {V : Type 0} where
  -- a bucket has no value, or that of an entry that stands there
  abbrev HasValue : History (Numbered V) → ℕ → List V → Type 0
  HasValue log p vs = (vs ≡ []) ⊎ ((e : Numbered V) × Stands log p e × (vs ≡ e.value ∷ []))

  later_value : (e : Event (Stored (Numbered V))) (es : History (Numbered V)) (p : ℕ) (vs : List V) → HasValue es p vs → HasValue (e ∷ es) p vs
  later_value e es p vs (inl none) = inl none
  later_value e es p vs (inr (x, there, is)) = inr (x, Contains-append_right (e ∷ []) es (event p (Some (Entry x))) there, is)

  value_then : (e : Event (Stored (Numbered V))) (es : History (Numbered V)) (p : ℕ) (b : Bool) (o : Option (Stored (Numbered V))) → (e.place == p) ≡ b → stored_by e ≡ o → HasValue es p (value_at es p) → HasValue (e ∷ es) p (value_or b o (value_at es p))
  value_then e es p true (Some (Entry x)) here is rest = inr (x, (0, omega arith, event_is e (Entry x) is ∙ ap (λ (q : ℕ). event q (Some (Entry x))) (eqb-true e.place p here)), refl)
  value_then e es p true (Some Closed) here is rest = later_value e es p (value_at es p) rest
  value_then e es p true None here is rest = later_value e es p (value_at es p) rest
  value_then e es p false o here is rest = later_value e es p (value_at es p) rest

  pub value_cases : (log : History (Numbered V)) (p : ℕ) → HasValue log p (value_at log p)
  value_cases [] p = inl refl
  value_cases (e ∷ es) p = value_then e es p (e.place == p) (stored_by e) refl refl (value_cases es p)

  still_some : (b : Bool) (o : Option (Stored (Numbered V))) (later : List V) → 1 ≤ length later → 1 ≤ length (value_or b o later)
  still_some true (Some (Entry x)) later some = omega arith
  still_some true (Some Closed) later some = some
  still_some true None later some = some
  still_some false o later some = some

  some_here : (p : ℕ) (e : Numbered V) (later : List V) → 1 ≤ length (value_or (p == p) (Some (Entry e)) later)
  some_here p e later = elim (eqb_tells p p) [
    | inl (is, same) ↦ rw is (omega arith)
    | inr (is, differs) ↦ absurd (differs refl)
  ]

  -- where an entry stands, there is a value
  some_value : (log : History (Numbered V)) (p : ℕ) (e : Numbered V) → Stands log p e → 1 ≤ length (value_at log p)
  some_value [] p e (k, within, is) = absurd (omega (arith, within))
  some_value (x ∷ es) p e there = elim (first_or_other x es (event p (Some (Entry e))) there) [
    | inl is ↦ subst (λ (y : Event (Stored (Numbered V))). 1 ≤ length (value_or (y.place == p) (stored_by y) (value_at es p))) (sym is) (some_here p e (value_at es p))
    | inr other ↦ still_some (x.place == p) (stored_by x) (value_at es p) (some_value es p e other)
  ]

  -- a bucket in which no entry stands has no value
  pub free_value : (log : History (Numbered V)) (p : ℕ) → IsFree log p → value_at log p ≡ []
  free_value log p free = elim (value_cases log p) [
    | inl none ↦ none
    | inr (e, there, is) ↦ absurd (free e there)
  ]

  module _ (same : V → V → Bool) (hash : V → ℕ) where
    -- a bucket in which an entry stands has its value
    pub stands_value : (log : History (Numbered V)) (p : ℕ) (e : Numbered V) → IsReached (alike same) (marked hash) log → Stands log p e → value_at log p ≡ e.value ∷ []
    stands_value log p e r there = elim (value_cases log p) [
      | inl none ↦ absurd (let some = some_value log p e there in omega (arith, some, ap length none))
      | inr (f, stood, is) ↦ is ∙ ap (λ (x : Numbered V). x.value ∷ []) (same_value (alike same) (marked hash) log p f e r stood there)
    ]

    -- a bucket that had something has the same value later
    pub value_kept : (old new : History (Numbered V)) (p : ℕ) (s : Stored (Numbered V)) → IsPrefix old new → IsReached (alike same) (marked hash) new → Has old p s → value_at new p ≡ value_at old p
    value_kept old new p (Entry e) on r there = stands_value new p e r (stands_on old new p e on there) ∙ sym (elim (value_cases old p) [
      | inl none ↦ absurd (let some = some_value old p e there in omega (arith, some, ap length none))
      | inr (f, stood, is) ↦ is ∙ ap (λ (x : Numbered V). x.value ∷ []) (same_value (alike same) (marked hash) new p f e r (stands_on old new p f on stood) (stands_on old new p e on there))
    ])
    value_kept old new p Closed on r there = let free : IsFree new p = closed_free (alike same) (marked hash) new p r (has_on old new p Closed on there) in
        free_value new p free ∙ sym (free_value old p (λ e stood. free e (stands_on old new p e on stood)))

    -- the buckets before i had something, and have the same values later
    pub values_kept : (i p n : ℕ) (old new : History (Numbered V)) → IsPrefix old new → IsReached (alike same) (marked hash) new → IsFull i old → p + n ≤ i → values_from new p n ≡ values_from old p n
    values_kept i p zero old new on r full within = refl
    values_kept i p (suc n) old new on r full within = let has = full p (omega (arith, within)) in
        ap (λ (vs : List V). vs ++ values_from new (p + 1) n) (value_kept old new p has.0 on r has.1) ∙ ap (λ (vs : List V). value_at old p ++ vs) (values_kept i (p + 1) n old new on r full (omega (arith, within)))

  -- a bucket has one value at most
  at_few : (log : History (Numbered V)) (p : ℕ) → length (value_at log p) ≤ 1
  at_few log p = elim (value_cases log p) [
    | inl none ↦ omega (arith, ap length none)
    | inr (e, there, is) ↦ omega (arith, ap length is)
  ]

  pub from_few : (p n : ℕ) (log : History (Numbered V)) → length (values_from log p n) ≤ n
  from_few p zero log = omega arith
  from_few p (suc n) log = omega (arith, length-append (value_at log p) (values_from log (p + 1) n), at_few log p, from_few (p + 1) n log)

  -- one more bucket at the end
  pub from_push : (p n : ℕ) (log : History (Numbered V)) → values_from log p (suc n) ≡ values_from log p n ++ value_at log (p + n)
  from_push p zero log = append-nil (value_at log p) ∙ ap (value_at log) (let is : p ≡ p + 0 = omega arith in is)
  from_push p (suc n) log = ap (λ (vs : List V). value_at log p ++ vs) (from_push (p + 1) n log) ∙ (sym (append_assoc (value_at log p) (values_from log (p + 1) n) (value_at log ((p + 1) + n)))
      ∙ ap (λ (q : ℕ). (value_at log p ++ values_from log (p + 1) n) ++ value_at log q) (let is : (p + 1) + n ≡ p + suc n = omega arith in is))

  -- the first bucket, and those after it
  pub from_first : (i n : ℕ) (log : History (Numbered V)) → i < n → values_from log i (n - i) ≡ value_at log i ++ values_from log (i + 1) (n - (i + 1))
  from_first i n log lt = ap (values_from log i) (let is : n - i ≡ suc (n - (i + 1)) = omega (arith, lt) in is)

  -- no bucket is left
  pub from_none : (i n : ℕ) (log : History (Numbered V)) → n ≤ i → values_from log i (n - i) ≡ []
  from_none i n log le = ap (values_from log i) (let is : n - i ≡ 0 = omega (arith, le) in is)

  -- an entry with this value stands in the bucket q
  abbrev IsOfEntry : History (Numbered V) → ℕ → V → Type 0
  IsOfEntry log q v = (e : Numbered V) × Stands log q e × (e.value ≡ v)

  among_here : (p : ℕ) (log : History (Numbered V)) (v : V) (vs : List V) → HasValue log p vs → Contains vs v → IsOfEntry log p v
  among_here p log v vs (inl none) among = absurd (let lt = among.1 in omega (arith, lt, ap length none))
  among_here p log v vs (inr (e, there, is)) among = (
    e,
    there,
    elim (first_or_other e.value [] v (subst (λ (us : List V). Contains us v) is among)) [
      | inl it ↦ it
      | inr none ↦ absurd (let lt = none.1 in omega (arith, lt))
    ],
  )

  -- each value is that of an entry
  among_from : (p n : ℕ) (log : History (Numbered V)) (v : V) → Contains (values_from log p n) v → (q : ℕ) × (p ≤ q) × IsOfEntry log q v
  among_from p zero log v (k, within, is) = absurd (omega (arith, within))
  among_from p (suc n) log v among = elim (Contains-append_cases (value_at log p) (values_from log (p + 1) n) v among) [
    | inl here ↦ (p, omega arith, among_here p log v (value_at log p) (value_cases log p) here)
    | inr later ↦ (let r = among_from (p + 1) n log v later in let le = r.1 in (r.0, omega (arith, le), r.2))
  ]

  -- the elements of a list of entries, by their values
  of_among : (es : List (Numbered V)) (v : V) → Contains (map (λ (e : Numbered V). e.value) es) v → (e : Numbered V) × Contains es e × (e.value ≡ v)
  of_among [] v (k, within, is) = absurd (omega (arith, within))
  of_among (e ∷ es) v among = elim (first_or_other e.value (map (λ (x : Numbered V). x.value) es) v among) [
    | inl is ↦ (e, (0, omega arith, refl), is)
    | inr other ↦ (let r = of_among es v other in (r.0, Contains-append_right (e ∷ []) es r.0 r.1, r.2))
  ]

  among_of : (es : List (Numbered V)) (e : Numbered V) → Contains es e → Contains (map (λ (x : Numbered V). x.value) es) e.value
  among_of [] e (k, within, is) = absurd (omega (arith, within))
  among_of (x ∷ es) e among = elim (first_or_other x es e among) [
    | inl is ↦ (0, omega arith, ap (λ (y : Numbered V). y.value) is)
    | inr other ↦ Contains-append_right (x.value ∷ []) (map (λ (y : Numbered V). y.value) es) e.value (among_of es e other)
  ]

  module _ (same : V → V → Bool) (hash : V → ℕ) where
    -- a bucket that was closed, or set before, has a value where its word is that of an entry
    pub word_counts : (log : History (Numbered V)) (p word : ℕ) → IsReached (alike same) (marked hash) log → (word ≢ 0 → Says (alike same) (marked hash) p word log) → 2 ≤ word → length (value_at log p) ≡ 1
    word_counts log p word r says more = let e = entry_says (alike same) (marked hash) p word log (says (λ zero. absurd (omega (arith, zero, more)))) more in
        ap length (stands_value same hash log p e.0 r e.1)

    pub low_counts : (log : History (Numbered V)) (p word : ℕ) → IsReached (alike same) (marked hash) log → (word ≡ 0 → Has log p Closed) → (word ≢ 0 → Says (alike same) (marked hash) p word log) → word < 2 → length (value_at log p) ≡ 0
    low_counts log p word r closed says less = ap length (free_value log p (closed_free (alike same) (marked hash) log p r (is_closed (alike same) (marked hash) log p word closed says less)))

    -- one more bucket is set
    pub counts_more : (i : ℕ) (old new : History (Numbered V)) → IsPrefix old new → IsReached (alike same) (marked hash) new → IsFull i old → length (values_from new 0 (i + 1)) ≡ length (values_from old 0 i) + length (value_at new i)
    counts_more i old new on r full = ap (λ (n : ℕ). length (values_from new 0 n)) (let is : i + 1 ≡ suc i = omega arith in is) ∙ (ap length (from_push 0 i new)
        ∙ (length-append (values_from new 0 i) (value_at new (0 + i)) ∙ (ap (λ (n : ℕ). n + length (value_at new (0 + i))) (ap length (values_kept same hash i 0 i old new on r full (omega arith)))
        ∙ ap (λ (q : ℕ). length (values_from old 0 i) + length (value_at new q)) (let is : 0 + i ≡ i = omega arith in is))))

    of_counts : (x : V) (es : List (Numbered V)) → count_by (same x) (map (λ (e : Numbered V). e.value) es) ≡ count_by (alike same (numbered 0 x)) es
    of_counts x [] = refl
    of_counts x (e ∷ es) = sum_by-cons (λ y. cond (same x y) 1 0) e.value (map (λ (y : Numbered V). y.value) es)
        ∙ (ap (λ (n : ℕ). cond (same x e.value) 1 0 + n) (of_counts x es) ∙ sym (sum_by-cons (λ y. cond (alike same (numbered 0 x) y) 1 0) e es))

    -- the value of each entry that stands in one of these buckets is among them
    stands_from : (p n q : ℕ) (log : History (Numbered V)) (e : Numbered V) → IsReached (alike same) (marked hash) log → p ≤ q → q < p + n → Stands log q e → Contains (values_from log p n) e.value
    stands_from p zero q log e r le lt there = absurd (omega (arith, le, lt))
    stands_from p (suc n) q log e r le lt there = dite (ℕ_discrete p q)
        (λ (is : p ≡ q). Contains-append_left (value_at log p) (values_from log (p + 1) n) e.value
        (subst (λ (vs : List V). Contains vs e.value) (sym (stands_value same hash log p e r (subst (λ (j : ℕ). Stands log j e) (sym is) there))) (0, omega arith, refl)))
        (λ (ne : p ≢ q). Contains-append_right (value_at log p) (values_from log (p + 1) n) e.value (stands_from (p + 1) n q log e r (omega (arith, le, ne)) (omega (arith, lt)) there))

    from_apart : IsLaw same hash → (p n : ℕ) (log : History (Numbered V)) → IsReached (alike same) (marked hash) log → AllApart same (values_from log p n)
    from_apart law p zero log r = λ x. omega arith
    from_apart law p (suc n) log r = elim (value_cases log p) [
      | inl none ↦ subst (λ (vs : List V). AllApart same (vs ++ values_from log (p + 1) n)) (sym none) (from_apart law (p + 1) n log r)
      | inr (e, there, is) ↦ subst (λ (vs : List V). AllApart same (vs ++ values_from log (p + 1) n)) (sym is) (apart_first same hash law e.value (values_from log (p + 1) n) (from_apart law (p + 1) n log r)
          (λ w among. false_unless (λ like. let o = among_from (p + 1) n log w among in let le = o.1 in
          let at : p ≡ o.0 = one_bucket (alike same) (marked hash) (alike_lawful law) log p o.0 e o.2.0 r there o.2.1 (subst (λ (u : V). same e.value u ≡ true) (sym o.2.2) like) in absurd (omega (arith, le, at)))))
    ]

    of_apart : (es : List (Numbered V)) → AllApart (alike same) es → AllApart same (map (λ (e : Numbered V). e.value) es)
    of_apart es apart x = omega (arith, apart (numbered 0 x), of_counts x es)

    -- all values of a history that is full
    pub all_values : IsLaw same hash → (n : ℕ) (log : History (Numbered V)) → HasSize n log → IsReached (alike same) (marked hash) log → AreValues same log (values_from log 0 n)
    all_values law n log size r = record {
      each = same_members same hash law (values_of log) (values_from log 0 n) (of_apart (entries log) r.1.apart) (from_apart law 0 n log r)
          (λ v among. let e = of_among (entries log) v among in let s = among_stands log e.0 e.1 in
          subst (Contains (values_from log 0 n)) e.2 (stands_from 0 n s.0 log e.0 r (omega arith) (let lt = has_inside (alike same) (marked hash) n s.0 (Entry e.0) log size r s.1 in omega (arith, lt)) s.1))
          (λ v among. let o = among_from 0 n log v among in subst (Contains (values_of log)) o.2.2 (among_of (entries log) o.2.0 (stands_among log o.0 o.2.0 o.2.1)));
      apart = from_apart law 0 n log r;
    }

    -- of a generation that has just ended, all values are left
    pub all_left : IsLaw same hash → (n : ℕ) (log : History (Numbered V)) → HasSize n log → IsReached (alike same) (marked hash) log → AreValues same log (values_from log 0 (size_of log - 0))
    all_left law n log size r = subst (λ (m : ℕ). AreValues same log (values_from log 0 m)) (let is : n ≡ size_of log - 0 = omega (arith, size_is n log size) in is) (all_values law n log size r)

    pub leaving_first : (t : SetView) (b : Book) (names : List ℕ) (log : History (Numbered V)) (slab : EndView) (count : ℕ) → slab.slab ≡ t.slab → ((k : ℕ) → IsLeft slab k) → IsOf same hash t b names log → IsFull t.size log
        → count ≡ length (values_from log 0 t.size) → IsLeaving same hash b names log slab 0 count
    leaving_first t b names log slab count over left of full counted = let is : t.size ≡ size_of log = sym (size_is t.size log of.2) in record {
      of = (refl, of.1 ∙ sym over, subst (λ (m : ℕ). HasSize m log) is of.2, of.3, of.4);
      full = subst (λ (m : ℕ). IsFull m log) is full;
      rest = λ k. inl (left k);
      counted = counted ∙ ap (λ (m : ℕ). length (values_from log 0 m)) (let one : t.size ≡ size_of log - 0 = omega (arith, is) in one);
    }

    -- a bucket that was passed: its value is the first of those that were left, or else they are as they were
    pub leaving_some : (b : Book) (names : List ℕ) (log : History (Numbered V)) (slab next : EndView) (i count : ℕ) (v : V) → IsLeaving same hash b names log slab i count → i < size_of log → next.slab ≡ slab.slab → AreLeft (i + 1) log next
        → value_at log i ≡ v ∷ [] → (values_from log i (size_of log - i) ≡ v ∷ values_from log (i + 1) (size_of log - (i + 1))) × IsLeaving same hash b names log next (i + 1) (count - 1)
    leaving_some b names log slab next i count v before lt same_slab left is =
        let more : values_from log i (size_of log - i) ≡ v ∷ values_from log (i + 1) (size_of log - (i + 1)) = from_first i (size_of log) log lt ∙ ap (λ (vs : List V). vs ++ values_from log (i + 1) (size_of log - (i + 1))) is in
        let long = ap length more in (
          more,
          record {
            of = (refl, before.of.1 ∙ sym same_slab, before.of.2, before.of.3, before.of.4);
            full = before.full;
            rest = left;
            counted = omega (arith, before.counted, long);
          },
        )

    pub leaving_none : (b : Book) (names : List ℕ) (log : History (Numbered V)) (slab next : EndView) (i count : ℕ) → IsLeaving same hash b names log slab i count → i < size_of log → next.slab ≡ slab.slab → AreLeft (i + 1) log next
        → value_at log i ≡ [] → (left_view b log next.slab (i + 1) ≡ left_view b log slab.slab i) × IsLeaving same hash b names log next (i + 1) count
    leaving_none b names log slab next i count before lt same_slab left is =
        let more : values_from log i (size_of log - i) ≡ values_from log (i + 1) (size_of log - (i + 1)) = from_first i (size_of log) log lt ∙ ap (λ (vs : List V). vs ++ values_from log (i + 1) (size_of log - (i + 1))) is in (
          λ j. record { of = set_view b (size_of log) (same_slab j); history = log; left = sym more j },
          record {
            of = (refl, before.of.1 ∙ sym same_slab, before.of.2, before.of.3, before.of.4);
            full = before.full;
            rest = left;
            counted = before.counted ∙ ap length more;
          },
        )
