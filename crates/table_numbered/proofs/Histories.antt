-- What a history says of its buckets and of its entries.
use Rattle.std.proofs.Common.{◌≡◌, ◌≢◌, ℕ, ◌+◌, ◌<◌, ◌++◌, ◌⊎◌, Bool, true, false, List, [], ◌∷◌, length, Option, Some, None, refl, ap, sym, subst, ◌∙◌, arith, inl, inr}
use Rattle.std.specs.Prelude.{Contains, is_some}
use Rattle.std.proofs.lemmas.Bool.{cases_lt, cases_Bool, false≢true}
use Rattle.std.proofs.lemmas.List.Elements.{Contains-append_left, Contains-append_right, Contains-push_cases}
use mathlib.Core.List.{IsPrefix}
use mathlib.Core.Logic.{dite}
use native.Mathlib.Decide.{ℕ_discrete}
use base.Growing.{prefix_trans}
use Rattle.table_terms.specs.Laws.{IsLaw}
use Rattle.table_numbered.specs.Probing.{bucket_at}
use Rattle.table_numbered.specs.declared.event.Numbered.{Numbered}
use Rattle.table_numbered.proofs.Apart.{first_or_other}
use Rattle.table_numbered.specs.declared.event.Event.{Event}
use Rattle.table_numbered.specs.declared.event.Stored.{Stored}
use Rattle.table_numbered.specs.declared.event.Stored.TheVariants.{Entry, Closed}
use Rattle.table_numbered.specs.History.{event, opening, listed, due_of, Has, IsUntouched, HasSize, size_of, IsFull, History, Stands, IsFree, IsEntry, if_none, stored_by, stored_then, entries, IsDue, HasAll, IsWhole, MayStore, NonePasses, HasPassed, Reaches, Fits, IsReached}

pub false_unless : {b : Bool} → (b ≡ true → ⊥) → b ≡ false
false_unless {b} never = elim (cases_Bool b) [
  | inl passes ↦ absurd (never passes)
  | inr fails ↦ fails
]

module _ {S : Type 0} where
  pub has_on : (l m : List (Event S)) (p : ℕ) (s : S) → IsPrefix l m → Has l p s → Has m p s
  has_on l m p s on there = subst (λ (log : List (Event S)). Has log p s) on.1 (Contains-append_left l on.0 (event p (Some s)) there)

  -- the same of a bucket and a thing that were met under other names
  pub has_here : (l m : List (Event S)) (p q : ℕ) (s t : S) → q ≡ p → t ≡ s → IsPrefix l m → Has l q t → Has m p s
  has_here l m p q s t key is on there = has_on l m p s on (subst (λ (x : ℕ × S). Has l x.0 x.1) (λ i. (key i, is i)) there)

  pub full_on : (n : ℕ) (l m : List (Event S)) → IsFull n l → IsPrefix l m → IsFull n m
  full_on n l m full on = λ p lt. let has = full p lt in (has.0, has_on l m p has.0 on has.1)

  -- one more bucket has something
  pub full_more : (n : ℕ) (l m : List (Event S)) → IsFull n l → IsPrefix l m → (s : S) × Has m n s → IsFull (n + 1) m
  full_more n l m full on next = λ p lt. dite (ℕ_discrete p n) (λ (is : p ≡ n). (next.0, subst (λ (q : ℕ). Has m q next.0) (sym is) next.1))
      (λ (ne : p ≢ n). full_on n l m full on p (omega (arith, lt, ne)))

  pub size_is : (n : ℕ) (log : List (Event S)) → HasSize n log → size_of log ≡ n
  size_is n log has = ap size_of (sym has.1)

  pub size_agrees : (n m : ℕ) (log : List (Event S)) → HasSize n log → HasSize m log → n ≡ m
  size_agrees n m log a b = sym (size_is n log a) ∙ size_is m log b

  due_append : (n : ℕ) (l m : List (Event S)) → HasSize n l → due_of (l ++ m) ≡ due_of l
  due_append n [] m has = absurd (let is = ap length has.1 in omega (arith, is))
  due_append n (e ∷ es) m has = refl

  -- what is due is known from the first
  pub due_on : (n : ℕ) (l m : List (Event S)) → HasSize n l → IsPrefix l m → due_of m ≡ due_of l
  due_on n l m has on = ap due_of (sym on.1) ∙ due_append n l on.0 has

  pub size_on : (n : ℕ) (l m : List (Event S)) → HasSize n l → IsPrefix l m → HasSize n m
  size_on n l m has on = subst (λ (due : List S). IsPrefix (opening n due ∷ []) m) (sym (due_on n l m has on)) (prefix_trans (opening n (due_of l) ∷ []) l m has on)

  abbrev pub or_stored : S → Option S → S
  or_stored d None = d
  or_stored d (Some s) = s

  -- what is stored there once something is added was stored before, or is that
  pub has_push : (log : List (Event S)) (p q : ℕ) (s t : S) → Has (log ++ event p (Some s) ∷ []) q t → Has log q t ⊎ ((p ≡ q) × (s ≡ t))
  has_push log p q s t there = elim (Contains-push_cases log (event p (Some s)) (event q (Some t)) there) [
    | inl old ↦ inl old
    | inr is ↦ inr (ap (λ (e : Event S). e.place) is, ap (λ (e : Event S). or_stored s e.value) is)
  ]

  -- a history that begins says of no bucket that something was stored there
  pub nothing_first : (n : ℕ) (due : List S) (p : ℕ) (s : S) → Has (opening n due ∷ []) p s → ⊥
  nothing_first n due p s there = elim (first_or_other (opening n due) [] (event p (Some s)) there) [
    | inl is ↦ false≢true (ap (λ (e : Event S). is_some e.value) is)
    | inr none ↦ absurd (let lt = none.1 in omega arith)
  ]

module _ {V : Type 0} where
  pub stands_on : (l m : History V) (p : ℕ) (v : V) → IsPrefix l m → Stands l p v → Stands m p v
  stands_on l m p v on there = has_on l m p (Entry v) on there

  -- where nothing was stored, no value was
  pub untouched_free : (log : History V) (p : ℕ) → IsUntouched log p → IsFree log p
  untouched_free log p none = λ v there. none (Entry v) there

  abbrev or_value : V → Stored V → V
  or_value d (Entry v) = v
  or_value d Closed = d

  pub entry_is : (v w : V) → Entry v ≡ Entry w → v ≡ w
  entry_is v w is = ap (or_value v) is

  then_push : (o : Option (Stored V)) (vs : List V) (v : V) → stored_then o (vs ++ v ∷ []) ≡ stored_then o vs ++ v ∷ []
  then_push None vs v = refl
  then_push (Some (Entry w)) vs v = refl
  then_push (Some Closed) vs v = refl

  none_due : (due : List (Stored V)) → if_none due None ≡ None
  none_due [] = refl
  none_due (d ∷ ds) = refl

  -- a history that begins has no entry
  pub entries_first : (n : ℕ) (due : List (Stored V)) → entries (opening n due ∷ []) ≡ []
  entries_first n due = ap (λ (o : Option (Stored V)). stored_then o []) (none_due due)

  pub entries_push : (log : History V) (p : ℕ) (v : V) → entries (log ++ event p (Some (Entry v)) ∷ []) ≡ entries log ++ v ∷ []
  entries_push [] p v = refl
  entries_push (e ∷ es) p v = ap (stored_then (stored_by e)) (entries_push es p v) ∙ then_push (stored_by e) (entries es) v

  -- a bucket that is closed adds no entry
  pub entries_closed : (log : History V) (p : ℕ) → entries (log ++ event p (Some Closed) ∷ []) ≡ entries log
  entries_closed [] p = refl
  entries_closed (e ∷ es) p = ap (stored_then (stored_by e)) (entries_closed es p)

  if_none_some : (due : List (Stored V)) (o : Option (Stored V)) (s : Stored V) → if_none due o ≡ Some s → (due ≡ []) × (o ≡ Some s)
  if_none_some [] o s is = (refl, is)
  if_none_some (d ∷ ds) o s is = absurd (cc is)

  -- an event by which something was stored
  pub event_is : (e : Event (Stored V)) (s : Stored V) → stored_by e ≡ Some s → e ≡ event e.place (Some s)
  event_is e s is = let both = if_none_some e.due.items e.value s is in λ i. record { place = e.place; value = both.1 i; due = listed (both.0 i) }

  among_then : (e : Event (Stored V)) (es : History V) (v : V) (o : Option (Stored V)) → stored_by e ≡ o → (Contains (entries es) v → (p : ℕ) × Stands es p v) → Contains (stored_then o (entries es)) v → (p : ℕ) × Stands (e ∷ es) p v
  among_then e es v None is rest among = let r = rest among in (r.0, Contains-append_right (e ∷ []) es (event r.0 (Some (Entry v))) r.1)
  among_then e es v (Some Closed) is rest among = let r = rest among in (r.0, Contains-append_right (e ∷ []) es (event r.0 (Some (Entry v))) r.1)
  among_then e es v (Some (Entry w)) is rest among = elim (first_or_other w (entries es) v among) [
    | inl it ↦ (e.place, (0, omega arith, event_is e (Entry v) (is ∙ ap (λ (u : V). Some (Entry u)) it)))
    | inr other ↦ (let r = rest other in (r.0, Contains-append_right (e ∷ []) es (event r.0 (Some (Entry v))) r.1))
  ]

  -- an entry was placed somewhere
  pub among_stands : (log : History V) (v : V) → Contains (entries log) v → (p : ℕ) × Stands log p v
  among_stands [] v (k, within, is) = absurd (omega arith)
  among_stands (e ∷ es) v among = among_then e es v (stored_by e) refl (among_stands es v) among

  kept_then : (o : Option (Stored V)) (vs : List V) (v : V) → Contains vs v → Contains (stored_then o vs) v
  kept_then None vs v among = among
  kept_then (Some Closed) vs v among = among
  kept_then (Some (Entry w)) vs v among = Contains-append_right (w ∷ []) vs v among

  -- what was placed is an entry
  pub stands_among : (log : History V) (p : ℕ) (v : V) → Stands log p v → Contains (entries log) v
  stands_among [] p v (k, within, is) = absurd (omega arith)
  stands_among (e ∷ es) p v there = elim (first_or_other e es (event p (Some (Entry v))) there) [
    | inl is ↦ subst (λ (o : Option (Stored V)). Contains (stored_then o (entries es)) v) (sym (ap stored_by is)) (0, omega arith, refl)
    | inr other ↦ kept_then (stored_by e) (entries es) v (stands_among es p v other)
  ]

  -- what is there stays there
  pub all_on : (due : List (Stored V)) (l m : History V) → IsPrefix l m → HasAll due l → HasAll due m
  all_on due l m on all e among = let at = all e among in (at.0, stands_on l m at.0 e on at.1)

  pub whole_on : (n : ℕ) (l m : History V) → HasSize n l → IsPrefix l m → IsWhole l → IsWhole m
  whole_on n l m has on whole = subst (λ (due : List (Stored V)). HasAll due m) (sym (due_on n l m has on)) (all_on (due_of l) l m on whole)

  pub may_on : (n : ℕ) (l m : History V) (s : Stored V) → HasSize n l → IsPrefix l m → MayStore l s → MayStore m s
  may_on n l m s has on (inl due) = inl (subst (λ (ds : List (Stored V)). IsDue ds s) (sym (due_on n l m has on)) due)
  may_on n l m s has on (inr whole) = inr (whole_on n l m has on whole)

  module _ (n k h : ℕ) (test : V → Bool) where
    pub passed_on : (l m : History V) → IsPrefix l m → HasPassed n l test h k → HasPassed n m test h k
    passed_on l m on passed = λ j lt. let r = passed j lt in (r.0, stands_on l m (bucket_at n h j) r.0 on r.1, r.2)

    -- one more bucket is passed
    pub passed_more : (log : History V) (v : V) → HasPassed n log test h k → Stands log (bucket_at n h k) v → test v ≡ false → HasPassed n log test h (k + 1)
    passed_more log v passed there differs = λ j lt. dite (ℕ_discrete j k)
        (λ (is : j ≡ k). (v, subst (λ (i : ℕ). Stands log (bucket_at n h i) v) (sym is) there, differs))
        (λ (ne : j ≢ k). passed j (omega arith))

module _ {U : Type 0} where
  module _ (same : (Numbered U) → (Numbered U) → Bool) (hash : (Numbered U) → ℕ) where
    pub reaches_on : (n p : ℕ) (l m : History (Numbered U)) (v : (Numbered U)) → IsPrefix l m → Reaches same hash n l v p → Reaches same hash n m v p
    reaches_on n p l m v on r = (r.0, r.1, r.2, passed_on n r.0 (hash v) (same v) l m on r.3)

    pub fits_on : (n k p : ℕ) (l m : History (Numbered U)) (s : Stored (Numbered U)) → HasSize k l → IsPrefix l m → Fits same hash n l s p → Fits same hash n m s p
    fits_on n k p l m (Entry v) has on fits = (fits.0, reaches_on n p l m v on fits.1, may_on k l m (Entry v) has on fits.2)
    fits_on n k p l m Closed has on fits = may_on k l m Closed has on fits

    pub fits_may : (n p : ℕ) (l : History (Numbered U)) (s : Stored (Numbered U)) → Fits same hash n l s p → MayStore l s
    fits_may n p l (Entry v) fits = fits.2
    fits_may n p l Closed fits = fits

    -- a bucket has one value for good
    pub same_value : (log : History (Numbered U)) (p : ℕ) (v w : (Numbered U)) → IsReached same hash log → Stands log p v → Stands log p w → v ≡ w
    same_value log p v w r one other = entry_is v w (r.1.row.once p (Entry v) (Entry w) one other)

    -- a bucket that is closed has no value
    pub closed_free : (log : History (Numbered U)) (p : ℕ) → IsReached same hash log → Has log p Closed → IsFree log p
    closed_free log p r closed = λ v there. let is : Entry v ≡ Closed = r.1.row.once p (Entry v) Closed there closed in absurd (cc)

    -- what is stored in a bucket is within the number of buckets
    pub has_inside : (n p : ℕ) (s : Stored (Numbered U)) (log : History (Numbered U)) → HasSize n log → IsReached same hash log → Has log p s → p < n
    has_inside n p s log size r there = subst (λ (m : ℕ). p < m) (size_agrees (length r.0) n log r.1.size size) (r.1.row.inside p s there)

    -- once each bucket has something, nothing is added
    pub full_says : (n p : ℕ) (s : Stored (Numbered U)) (full later : History (Numbered U)) → IsFull n full → HasSize n full → IsPrefix full later → IsReached same hash later → Has later p s → Has full p s
    full_says n p s full later all size on r there = let has = all p (has_inside n p s later (size_on n full later size on) r there) in
        subst (Has full p) (r.1.row.once p has.0 s (has_on full later p has.0 on has.1) there) has.1

    reached_at : (n p : ℕ) (v : (Numbered U)) (log : History (Numbered U)) → HasSize n log → (r : IsReached same hash log) → Stands log p v → Reaches same hash n log v p
    reached_at n p v log size r there = subst (λ (m : ℕ). Reaches same hash m log v p) (size_agrees (length r.0) n log r.1.size size) (r.1.reach p v there)

    -- a probe for a hash that ends at an empty bucket, or after a whole turn, shows that no entry of that hash passes the test
    pub none_beyond : (n k h : ℕ) (test : (Numbered U) → Bool) (log : History (Numbered U)) → HasSize n log → IsReached same hash log → ((v : (Numbered U)) → test v ≡ true → hash v ≡ h) → HasPassed n log test h k
        → (k < n → IsFree log (bucket_at n h k)) → NonePasses test (IsEntry log)
    none_beyond n k h test log size r hashes passed stop v (p, there) = false_unless (λ passes.
        let is : hash v ≡ h = hashes v passes in let x = reached_at n p v log size r there in elim (cases_lt x.0 k) [
          | inl before ↦
              (let z = passed x.0 before in let place : bucket_at n h x.0 ≡ p = ap (λ (a : ℕ). bucket_at n a x.0) (sym is) ∙ x.2 in
              let it : z.0 ≡ v = same_value log p z.0 v r (subst (λ (i : ℕ). Stands log i z.0) place z.1) there in false≢true (sym z.2 ∙ (ap test it ∙ passes)))
          | inr beyond ↦ dite (ℕ_discrete x.0 k)
              (λ (e : x.0 ≡ k). let place : p ≡ bucket_at n h k = sym x.2 ∙ (ap (λ (a : ℕ). bucket_at n a x.0) is ∙ ap (bucket_at n h) e) in
              stop (omega (arith, x.1, e)) v (subst (λ (i : ℕ). Stands log i v) place there))
              (λ (ne : x.0 ≢ k). let z = x.3 k (omega (arith, beyond, ne)) in stop (omega (arith, x.1, beyond)) z.0 (subst (λ (a : ℕ). Stands log (bucket_at n a k) z.0) is z.1))
        ])

    -- two entries that are the same stand in one bucket, so they are one
    pub one_bucket : (law : IsLaw same hash) (log : History (Numbered U)) (p q : ℕ) (v w : (Numbered U)) → IsReached same hash log → Stands log p v → Stands log q w → same v w ≡ true → p ≡ q
    one_bucket law log p q v w r one other is = let t = r.1 in let n : ℕ = length r.0 in let x = t.reach p v one in let y = t.reach q w other in
        let hashes : hash v ≡ hash w = law.agrees v w is in
        let to_w : (k : ℕ) → bucket_at n (hash v) k ≡ bucket_at n (hash w) k = λ k. ap (λ (a : ℕ). bucket_at n a k) hashes in
        dite (ℕ_discrete x.0 y.0) (λ (e : x.0 ≡ y.0). sym x.2 ∙ (to_w x.0 ∙ (ap (bucket_at n (hash w)) e ∙ y.2)))
        (λ (ne : x.0 ≢ y.0). elim (cases_lt x.0 y.0) [
          | inl before ↦
              (let z = y.3 x.0 before in let it : z.0 ≡ v = same_value log p z.0 v r (subst (λ (i : ℕ). Stands log i z.0) (sym (to_w x.0) ∙ x.2) z.1) one in
              absurd (false≢true (sym z.2 ∙ (ap (same w) it ∙ law.symmetric v w is))))
          | inr beyond ↦
              (let z = x.3 y.0 (omega (arith, beyond, ne)) in let it : z.0 ≡ w = same_value log q z.0 w r (subst (λ (i : ℕ). Stands log i z.0) (to_w y.0 ∙ y.2) z.1) other in
              absurd (false≢true (sym z.2 ∙ (ap (same v) it ∙ is))))
        ])
