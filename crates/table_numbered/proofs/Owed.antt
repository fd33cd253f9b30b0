-- What is due in a row: a probe for it comes to an empty bucket, or to itself.
use Rattle.std.proofs.Common.{◌≡◌, ◌≢◌, ℕ, ◌^◌, ◌<◌, ◌≤◌, ◌++◌, ◌⊎◌, Bool, true, false, List, [], ◌∷◌, length, map, Option, Some, None, refl, ap, sym, subst, ◌∙◌, arith, inl, inr, append_assoc}
use Rattle.std.specs.Prelude.{Contains, slice_index_or}
use Rattle.std.proofs.lemmas.Bool.{false≢true}
use Rattle.std.proofs.lemmas.List.{append-nil, length-map}
use Rattle.std.proofs.lemmas.List.Elements.{Contains-append_right, Contains-push_cases}
use mathlib.Core.List.{IsPrefix}
use base.Growing.{prefix_trans}
use Rattle.table_terms.specs.Laws.{IsLaw}
use Rattle.table_numbered.specs.Probing.{first_of, bucket_at}
use Rattle.table_numbered.specs.Words.{mark_of, alike, marked, of_value, word_of}
use Rattle.table_numbered.specs.declared.event.Event.{Event}
use Rattle.table_numbered.specs.declared.event.Stored.{Stored}
use Rattle.table_numbered.specs.declared.event.Stored.TheVariants.{Entry, Closed}
use Rattle.table_numbered.specs.declared.event.Numbered.{Numbered}
use Rattle.table_numbered.specs.History.{event, opening, due_of, Has, HasSize, History, Stands, IsFree, IsEntry, stored_by, entries, IsDue, HasAll, IsWhole, HasPassed, Reaches, IsReached, Says}
use Rattle.table_numbered.specs.Carrying.{due_after, Carries, BeginsAs, IsOwed, AreOwed}
use Rattle.table_numbered.proofs.Apart.{first_or_other}
use Rattle.table_numbered.proofs.Marks.{alike_lawful, first_below, mark_small}
use Rattle.table_numbered.proofs.Picks.{few_picks, turn_apart, element, same_at, one_index}
use Rattle.table_numbered.proofs.Prefixes.{ends_at}
use Rattle.table_numbered.proofs.Histories.{false_unless, nothing_first, stands_on, event_is, entry_is, among_stands, stands_among, all_on, same_value, closed_free, has_inside, none_beyond, one_bucket}

first_small : (k m : ℕ) → m < 2 ^ 32 → 0 < k → first_of k m < k
unfolding first_of
first_small k m small some = first_below m k small some

module _ {V : Type 0} where
  -- the entries of a history are due in the one that follows it
  pub due_in : (es : List V) (e : V) → Contains es e → Contains (map Entry es) (Entry e)
  due_in [] e among = absurd (let lt = among.1 in omega (arith, lt))
  due_in (x ∷ es) e among = elim (first_or_other x es e among) [
    | inl is ↦ (0, omega arith, ap (λ (v : V). Entry v) is)
    | inr other ↦ Contains-append_right (Entry x ∷ []) (map Entry es) (Entry e) (due_in es e other)
  ]

  -- and nothing else is
  pub due_out : (es : List V) (e : V) → Contains (map Entry es) (Entry e) → Contains es e
  due_out [] e among = absurd (let lt = among.1 in omega (arith, lt))
  due_out (x ∷ es) e among = elim (first_or_other (Entry x) (map Entry es) (Entry e) among) [
    | inl is ↦ (0, omega arith, entry_is x e is)
    | inr other ↦ Contains-append_right (x ∷ []) es e (due_out es e other)
  ]

module _ {V : Type 0} (same : V → V → Bool) (hash : V → ℕ) where
  abbrev H : Type 0
  H = History (Numbered V)

  abbrev Reached : H → Type 0
  Reached = IsReached (alike same) (marked hash)

  -- what was stored was due, or all that is due is there
  pub due_or_whole : (log : H) (p : ℕ) (s : Stored (Numbered V)) → Reached log → Has log p s → IsDue (due_of log) s ⊎ IsWhole log
  due_or_whole log p s r there = let at = ends_at log (event p (Some s)) there in elim (r.1.due at.0 p s at.1) [
    | inl due ↦ inl due
    | inr all ↦ inr (all_on (due_of log) at.0 log (prefix_trans at.0 (at.0 ++ event p (Some s) ∷ []) log (event p (Some s) ∷ [], refl) at.1) all)
  ]

  module _ (law : IsLaw same hash) where
    -- a history has at most one entry a bucket
    pub few_entries : (n : ℕ) (log : H) → HasSize n log → Reached log → length (entries log) ≤ n
    few_entries n log size r = few_picks n (length (entries log)) place (λ i lt. has_inside (alike same) (marked hash) n (place i lt) (Entry (it i lt)) log size r (stood i lt)) one
      where
        it : (i : ℕ) → i < length (entries log) → Numbered V
        it i lt = (element (entries log) i lt).0

        at : (i : ℕ) (lt : i < length (entries log)) → slice_index_or (entries log) i (it i lt) ≡ it i lt
        at i lt = (element (entries log) i lt).1

        place : (i : ℕ) → i < length (entries log) → ℕ
        place i lt = (among_stands log (it i lt) (i, lt, at i lt)).0

        stood : (i : ℕ) (lt : i < length (entries log)) → Stands log (place i lt) (it i lt)
        stood i lt = (among_stands log (it i lt) (i, lt, at i lt)).1

        one : (i j : ℕ) (a : i < length (entries log)) (b : j < length (entries log)) → place i a ≡ place j b → i ≡ j
        one i j a b is = let e : Numbered V = it i a in let both : e ≡ it j b = same_value (alike same) (marked hash) log (place j b) e (it j b) r (subst (λ (p : ℕ). Stands log p e) is (stood i a)) (stood j b) in
            one_index (alike same) e (law.reflexive e.value) (entries log) (r.1.apart e) i j a b (at i a) (subst (λ (f : Numbered V). slice_index_or (entries log) j f ≡ f) (sym both) (at j b))

    -- an entry is met before a probe for it comes to a bucket without one
    pub not_beyond : (n k : ℕ) (e : Numbered V) (log : H) → HasSize n log → Reached log → HasPassed n log (of_value (same e.value)) (mark_of (hash e.value)) k
        → (k < n → IsFree log (bucket_at n (mark_of (hash e.value)) k)) → IsEntry log e → ⊥
    not_beyond n k e log size r passed stop there = let none = none_beyond (alike same) (marked hash) n k (mark_of (hash e.value)) (of_value (same e.value)) log size r (λ w is. ap mark_of (sym (law.agrees e.value w.value is))) passed stop in
        false≢true (sym (none e there) ∙ law.reflexive e.value)

    module _ (n : ℕ) (e : Numbered V) (log : H) (size : HasSize n log) (r : Reached log) (owed : IsOwed same n (due_of log) e) where
      -- what is the same as an entry that is due is that entry
      it_is : (p : ℕ) (f : Numbered V) → Stands log p f → same e.value f.value ≡ true → f ≡ e
      it_is p f there is = elim (due_or_whole log p (Entry f) r there) [
        | inl due ↦ owed.one f due is
        | inr whole ↦
            (let here = whole e owed.among in let place : here.0 ≡ p = one_bucket (alike same) (marked hash) (alike_lawful law) log here.0 p e f r here.1 there is in
            same_value (alike same) (marked hash) log p f e r there (subst (λ (q : ℕ). Stands log q e) place here.1))
      ]

      -- a bucket on the way to it that was set and does not have it has another entry
      pub another : (p word : ℕ) → Reaches (alike same) (marked hash) n log e p → Says (alike same) (marked hash) p word log → word ≢ 0 → word ≢ word_of (marked hash) (Entry e) → (f : Numbered V) × Stands log p f × (same e.value f.value ≡ false)
      another p word at says full other = let x = says.1 full in told x.0 x.1 x.2
        where
          told : (s : Stored (Numbered V)) → Has log p s → word ≡ word_of (marked hash) s → (f : Numbered V) × Stands log p f × (same e.value f.value ≡ false)
          told (Entry f) there is = (f, there, false_unless (λ like. other (is ∙ ap (λ (g : Numbered V). word_of (marked hash) (Entry g)) (it_is p f there like))))
          told Closed there is = elim (due_or_whole log p Closed r there) [
            | inl due ↦ absurd due
            | inr whole ↦ absurd (not_beyond n at.0 e log size r at.3 (λ lt. subst (IsFree log) (sym at.2) (closed_free (alike same) (marked hash) log p r there)) (whole e owed.among))
          ]

      -- the probe does not go round
      pub no_turn : HasPassed n log (of_value (same e.value)) (mark_of (hash e.value)) n → ⊥
      no_turn passed = let many = few_picks (length (due_of log)) n pick below one in omega (arith, many, owed.few)
        where
          it : (j : ℕ) → j < n → Numbered V
          it j lt = (passed j lt).0

          due : (j : ℕ) (lt : j < n) → Contains (due_of log) (Entry (it j lt))
          due j lt = elim (due_or_whole log (bucket_at n (mark_of (hash e.value)) j) (Entry (it j lt)) r (passed j lt).1) [
            | inl is ↦ is
            | inr whole ↦ absurd (not_beyond n n e log size r passed (λ less. absurd (omega (arith, less))) (whole e owed.among))
          ]

          pick : (j : ℕ) → j < n → ℕ
          pick j lt = (due j lt).0

          below : (j : ℕ) (lt : j < n) → pick j lt < length (due_of log)
          below j lt = (due j lt).1

          alike_at : (i j : ℕ) (a : i < n) (b : j < n) → pick i a ≡ pick j b → it i a ≡ it j b
          alike_at i j a b is = entry_is (it i a) (it j b)
              (sym (due i a).2 ∙ (same_at (due_of log) (pick i a) (Entry (it i a)) (Entry (it j b)) (below i a) ∙ (ap (λ (k : ℕ). slice_index_or (due_of log) k (Entry (it j b))) is ∙ (due j b).2)))

          one : (i j : ℕ) (a : i < n) (b : j < n) → pick i a ≡ pick j b → i ≡ j
          one i j a b is = let m : ℕ = mark_of (hash e.value) in let both = alike_at i j a b is in
              let place : bucket_at n m i ≡ bucket_at n m j = one_bucket (alike same) (marked hash) (alike_lawful law) log (bucket_at n m i) (bucket_at n m j) (it i a) (it j b) r (passed i a).1 (passed j b).1
              (subst (λ (f : Numbered V). same (it i a).value f.value ≡ true) both (law.reflexive (it i a).value)) in
              turn_apart n (first_of n m) i j (first_small n m (mark_small (hash e.value)) (omega (arith, a))) a b place

    -- each entry of a history is due in the one that follows it, which has more buckets
    pub are_owed : (n m : ℕ) (log : H) → HasSize n log → Reached log → n < m → AreOwed same m log (due_after log)
    are_owed n m log size r more p e there = record {
      among = due_in (entries log) e (stands_among log p e there);
      few = omega (arith, few_entries n log size r, length-map (entries log) Entry, more);
      one = λ f among is. let at = among_stands log f (due_out (entries log) f among) in
          let place : p ≡ at.0 = one_bucket (alike same) (marked hash) (alike_lawful law) log p at.0 e f r there at.1 is in
          same_value (alike same) (marked hash) log at.0 f e r at.1 (subst (λ (q : ℕ). Stands log q e) place there);
    }

  -- what was carried is all that was due
  pub is_whole : (old later new : H) → due_of new ≡ due_after old → IsPrefix old later → Carries later new → IsWhole new
  is_whole old later new due on carried e among = let at = among_stands old e (due_out (entries old) e (subst (λ (ds : List (Stored (Numbered V))). Contains ds (Entry e)) due among)) in
      carried at.0 e (stands_on old later at.0 e on at.1)

  module _ (log : H) (r : Reached log) (whole : IsWhole log) where
    abbrev OnlyDue : H → Type 0
    OnlyDue before = (q : ℕ) (e : Numbered V) → Stands before q e → Contains (due_of log) (Entry e)

    abbrev Began : Type 0
    Began = (born : H) × IsPrefix born log × OnlyDue born × HasAll (due_of log) born

    abbrev or_thing : Stored (Numbered V) → Option (Stored (Numbered V)) → Stored (Numbered V)
    or_thing d None = d
    or_thing d (Some s) = s

    some_stored : (s t : Stored (Numbered V)) → Some s ≡ Some t → s ≡ t
    some_stored s t is = ap (or_thing s) is

    or_stored_entry : (x : Event (Stored (Numbered V))) (q : ℕ) (e : Numbered V) → x ≡ event q (Some (Entry e)) → stored_by x ≡ Some (Entry e)
    or_stored_entry x q e is = ap stored_by is

    -- one event further nothing but what is due was placed either, or all that is due was placed before it
    next_by : (before : H) (x : Event (Stored (Numbered V))) (rest : H) → before ++ x ∷ rest ≡ log → OnlyDue before → (o : Option (Stored (Numbered V))) → stored_by x ≡ o → OnlyDue (before ++ x ∷ []) ⊎ HasAll (due_of log) before
    next_by before x rest is only None by = inl (λ q e there. elim (Contains-push_cases before x (event q (Some (Entry e))) there) [
      | inl old ↦ only q e old
      | inr it ↦ absurd (cc (sym by ∙ or_stored_entry x q e it))
    ])
    next_by before x rest is only (Some s) by = elim (r.1.due before x.place s (rest, subst (λ (y : Event (Stored (Numbered V))). (before ++ y ∷ []) ++ rest ≡ log) (event_is x s by) (append_assoc before (x ∷ []) rest ∙ is))) [
      | inl due ↦ inl (λ q e there. elim (Contains-push_cases before x (event q (Some (Entry e))) there) [
        | inl old ↦ only q e old
        | inr it ↦ subst (IsDue (due_of log)) (some_stored s (Entry e) (sym by ∙ or_stored_entry x q e it)) due
      ])
      | inr all ↦ inr all
    ]

    -- the history has a beginning in which all that is due was placed, and nothing else
    began : (before rest : H) → before ++ rest ≡ log → OnlyDue before → Began
    began before [] is only = let all : before ≡ log = sym (append-nil before) ∙ is in (before, ([], is), only, subst (λ (l : H). HasAll (due_of log) l) (sym all) whole)
    began before (x ∷ rest) is only = elim (next_by before x rest is only (stored_by x) refl) [
      | inl further ↦ began (before ++ x ∷ []) rest (append_assoc before (x ∷ []) rest ∙ is) further
      | inr all ↦ (before, (x ∷ rest, is), only, all)
    ]

  -- it began with the entries that were carried
  pub begins_as : (n : ℕ) (old later new : H) → HasSize n new → Reached new → IsWhole new → due_of new ≡ due_after old → IsPrefix old later → ((p : ℕ) (e : Numbered V) → Stands later p e → Stands old p e) → BeginsAs later new
  begins_as n old later new size r whole due on full = let b = began new r whole (opening n (due_of new) ∷ []) size.0 size.1 (λ q e there. absurd (nothing_first n (due_of new) q (Entry e) there)) in record {
    born = b.0;
    known = b.1;
    carried = λ p e there. b.3 e (subst (λ (ds : List (Stored (Numbered V))). Contains ds (Entry e)) (sym due) (due_in (entries old) e (stands_among old p e (full p e there))));
    back = λ q e there. let at = among_stands old e (due_out (entries old) e (subst (λ (ds : List (Stored (Numbered V))). Contains ds (Entry e)) due (b.2 q e there))) in (at.0, stands_on old later at.0 e on at.1);
  }
