-- Why two list runs of the same calls have the same replies.
use Rattle.std.proofs.Common.{◌≡◌, ℕ, ◌≤◌, Bool, List, [], ◌∷◌, Option, Some, None, length, map, refl, sym, ap, subst, ◌∙◌, arith, inl, inr}
use Rattle.std.specs.Prelude.{Contains, IsPermutation, count_by, min}
use Rattle.std.specs.List.{find, flat_map}
use Rattle.std.proofs.lemmas.List.{nil_from_length}
use Rattle.std.proofs.lemmas.List.Elements.{Contains-append_right}
use Rattle.std.proofs.lemmas.List.Sorted.{length_permutation, IsPermutation-sym, IsPermutation-trans}
use Rattle.table_terms.specs.ListObject.{ListCall, ListReply, Insert, Lookup, Length, Walk, Placed, Found, Refused, Shown, Absent, Counted, Walked, Answers, IsListRun, greatest_length}
use Rattle.table_terms.specs.Laws.{IsLaw, AllApart}
use Rattle.table_held.specs.declared.runs.Call.{Call}
use Rattle.table_held.specs.declared.runs.Reply.{Reply}
use Rattle.table_held.specs.declared.runs.Call.TheVariants as call
use Rattle.table_held.specs.declared.runs.Reply.TheVariants as reply
use Rattle.table_held.specs.Shown.{Shows, Stands, LawfulWithoutEntries, entries_of}
use Rattle.table_held.specs.Calls.{IsRepliedAsList, given, shown_as, asked}
use Rattle.table_held.specs.Runs.{AreLawful, RunAnswers}
use Rattle.table_held.specs.Settled.{NoneEqual, NoneRefuses, MeetsOneClass, MeetsFew, EachMeetsFew, RunMeetsFew, RepliesAgree, RepliesAgreeByClass, NewTablesAgree, NewTablesAgreeByClass, list_after}
use Rattle.table_held.proofs.Apart.{first_or_other, apart_more, few_of_class, none_is_found, one_is_found}

module _ {T : Type 0} where
  abbrev placed_or_found : T → Option T → ListReply T
  placed_or_found v None = Placed v
  placed_or_found v (Some e) = Found e v

  abbrev shown_or_absent : Option T → ListReply T
  shown_or_absent None = Absent
  shown_or_absent (Some e) = Shown e

  -- the one answer of a list that refuses nothing and accepts few; a walk has many
  abbrev settled : (T → T → Bool) → List T → ListCall T → ListReply T
  settled equal M (Insert v) = placed_or_found v (find (equal v) M)
  settled equal M (Lookup accepts) = shown_or_absent (find accepts M)
  settled equal M Length = Counted (min (length M) greatest_length)
  settled equal M Walk = Walked M

  -- nobody was told that a value is refused
  abbrev none_refused : List (ListReply T) → Type 0
  none_refused qs = (back : T) → Contains qs (Refused back) → ⊥

  module _ (equal : T → T → Bool) (M : List T) where
    insert_settled : (v : T) (q : ListReply T) (N : List T) → count_by (equal v) M ≤ 1 → ((back : T) → q ≡ Refused back → ⊥) → Answers equal M (Insert v) q N → (q ≡ settled equal M (Insert v)) × (N ≡ list_after M q)
    insert_settled v (Placed e) N few kept (none, is, after) = (rw (none_is_found (equal v) M none, is) refl, rw is after)
    insert_settled v (Found e back) N few kept (accepted, is, after) = (rw (one_is_found (equal v) M e few accepted.0 accepted.1, is) refl, after)
    insert_settled v (Refused back) N few kept answers = absurd (kept back refl)
    insert_settled v (Shown e) N few kept answers = absurd answers
    insert_settled v Absent N few kept answers = absurd answers
    insert_settled v (Counted k) N few kept answers = absurd answers
    insert_settled v (Walked es) N few kept answers = absurd answers

    lookup_settled : (accepts : T → Bool) (q : ListReply T) (N : List T) → count_by accepts M ≤ 1 → Answers equal M (Lookup accepts) q N → (q ≡ settled equal M (Lookup accepts)) × (N ≡ list_after M q)
    lookup_settled accepts (Shown e) N few (accepted, after) = (rw (one_is_found accepts M e few accepted.0 accepted.1) refl, after)
    lookup_settled accepts Absent N few (none, after) = (rw (none_is_found accepts M none) refl, after)
    lookup_settled accepts (Placed e) N few answers = absurd answers
    lookup_settled accepts (Found e back) N few answers = absurd answers
    lookup_settled accepts (Refused back) N few answers = absurd answers
    lookup_settled accepts (Counted k) N few answers = absurd answers
    lookup_settled accepts (Walked es) N few answers = absurd answers

    length_settled : (q : ListReply T) (N : List T) → Answers equal M Length q N → (q ≡ settled equal M Length) × (N ≡ list_after M q)
    length_settled (Counted k) N (is, after) = (rw is refl, after)
    length_settled (Placed e) N answers = absurd answers
    length_settled (Found e back) N answers = absurd answers
    length_settled (Refused back) N answers = absurd answers
    length_settled (Shown e) N answers = absurd answers
    length_settled Absent N answers = absurd answers
    length_settled (Walked es) N answers = absurd answers

module _ {T U K : Type 0} (target : T → U) (same : U → U → Bool) (hash_of : U → ℕ) (law : IsLaw same hash_of) (meets : K → U → Bool) where
  abbrev alike : T → T → Bool
  alike v w = same (target v) (target w)

  abbrev apart : List T → Type 0
  apart M = AllApart (λ y e. same y (target e)) M

  call_settled : (M : List T) → apart M → (c : Call T K) (q : ListReply T) (N : List T) → MeetsFew target meets M c → ((back : T) → q ≡ Refused back → ⊥) → Answers alike M (asked target meets c) q N
      → (q ≡ settled alike M (asked target meets c)) × (N ≡ list_after M q)
  call_settled M one (call.Insert hash value) q N few kept answers = insert_settled alike M value q N (one (target value)) kept answers
  call_settled M one (call.Lookup hash key) q N few kept answers = lookup_settled alike M (λ v. meets key (target v)) q N few answers
  call_settled M one call.Len q N few kept answers = length_settled alike M q N answers

  -- a list without equal entries stays so
  apart_after : (M : List T) → apart M → (c : ListCall T) (q : ListReply T) (N : List T) → Answers alike M c q N → apart (list_after M q)
  apart_after M one (Insert v) (Placed e) N (none, is, after) = rw is (apart_more target same hash_of law M one v none)
  apart_after M one (Lookup accepts) (Placed e) N answers = absurd answers
  apart_after M one Length (Placed e) N answers = absurd answers
  apart_after M one Walk (Placed e) N answers = absurd answers
  apart_after M one c (Found e back) N answers = one
  apart_after M one c (Refused back) N answers = one
  apart_after M one c (Shown e) N answers = one
  apart_after M one c Absent N answers = one
  apart_after M one c (Counted k) N answers = one
  apart_after M one c (Walked es) N answers = one

  told_alike : (M : List T) → apart M → (calls : List (Call T K)) (qs ps : List (ListReply T)) (N O : List T)
      → IsListRun alike M (map (asked target meets) calls) qs N → IsListRun alike M (map (asked target meets) calls) ps O
      → none_refused qs → none_refused ps → EachMeetsFew target meets M calls qs → (qs ≡ ps) × (N ≡ O)
  told_alike M one [] [] [] N O run other kept kept_too few = (refl, run ∙ sym other)
  told_alike M one [] [] (p ∷ ps) N O run other kept kept_too few = absurd other
  told_alike M one [] (q ∷ qs) ps N O run other kept kept_too few = absurd run
  told_alike M one (c ∷ cs) [] ps N O run other kept kept_too few = absurd run
  told_alike M one (c ∷ cs) (q ∷ qs) [] N O run other kept kept_too few = absurd other
  told_alike M one (c ∷ cs) (q ∷ qs) (p ∷ ps) N O (next, answers, rest) (next_too, answers_too, rest_too) kept kept_too few =
      let first = call_settled M one c q next few.0 (λ back is. kept back (0, omega arith, is)) answers in
      let first_too = call_settled M one c p next_too few.0 (λ back is. kept_too back (0, omega arith, is)) answers_too in
      let is : q ≡ p = first.0 ∙ sym first_too.0 in
      let reached : next_too ≡ next = first_too.1 ∙ (ap (list_after M) (sym is) ∙ sym first.1) in
      let others = told_alike next (rw first.1 (apart_after M one (asked target meets c) q next answers)) cs qs ps N O rest
      (subst (λ L. IsListRun alike L (map (asked target meets) cs) ps O) reached rest_too)
      (λ back among. kept back (Contains-append_right (q ∷ []) qs (Refused back) among))
      (λ back among. kept_too back (Contains-append_right (p ∷ []) ps (Refused back) among))
      (subst (λ L. EachMeetsFew target meets L cs qs) (sym first.1) few.1) in
      (rw (is, others.0) refl, others.1)

  -- where all that meets a key is the same, each look-up's key is met by few
  meets_few : MeetsOneClass same meets → (M : List T) → apart M → (c : Call T K) → MeetsFew target meets M c
  meets_few one_class M one (call.Insert hash value) = tt
  meets_few one_class M one (call.Lookup hash key) = few_of_class (λ v. meets key (target v)) alike M (λ v w passed also. one_class key (target v) (target w) passed also) (λ v. one (target v))
  meets_few one_class M one call.Len = tt

  each_meets_few : MeetsOneClass same meets → (M : List T) → apart M → (calls : List (Call T K)) (qs : List (ListReply T)) (N : List T)
      → IsListRun alike M (map (asked target meets) calls) qs N → none_refused qs → EachMeetsFew target meets M calls qs
  each_meets_few one_class M one [] qs N run kept = tt
  each_meets_few one_class M one (c ∷ cs) [] N run kept = tt
  each_meets_few one_class M one (c ∷ cs) (q ∷ qs) N (next, answers, rest) kept =
      let few = meets_few one_class M one c in
      let here = call_settled M one c q next few (λ back is. kept back (0, omega arith, is)) answers in
      let others = each_meets_few one_class next (rw here.1 (apart_after M one (asked target meets c) q next answers)) cs qs N rest
      (λ back among. kept back (Contains-append_right (q ∷ []) qs (Refused back) among)) in
      (few, subst (λ L. EachMeetsFew target meets L cs qs) here.1 others)

  -- where no reply is Refused, the list object told nobody so
  kept_told : (qs : List (ListReply T)) (rs : List (Reply T U)) → map (shown_as target) qs ≡ map (λ r. Some r) rs → NoneRefuses rs → none_refused qs
  kept_told [] rs shown none back (k, within, is) = omega arith
  kept_told (q ∷ qs) [] shown none back among = absurd (cc)
  kept_told (q ∷ qs) (r ∷ rs) shown none back among =
      let head : shown_as target q ≡ Some r = cc in
      let tail : map (shown_as target) qs ≡ map (λ x. Some x) rs = cc in
      elim (first_or_other q qs (Refused back) among) [
        | inl is ↦ (let refuses : Some (reply.Refused back) ≡ Some r = rw (ap (shown_as target) is) at head in none back (0, omega arith, cc))
        | inr other ↦ kept_told qs rs tail (λ b inside. none b (Contains-append_right (r ∷ []) rs (reply.Refused b) inside)) back other
      ]

  shown_alike : (rs others : List (Reply T U)) → map (λ r. Some r) rs ≡ map (λ r. Some r) others → rs ≡ others
  shown_alike [] [] is = refl
  shown_alike [] (o ∷ others) is = absurd (cc)
  shown_alike (r ∷ rs) [] is = absurd (cc)
  shown_alike (r ∷ rs) (o ∷ others) is =
      let head : r ≡ o = cc in
      let tail : map (λ x. Some x) rs ≡ map (λ x. Some x) others = cc in
      rw (head, shown_alike rs others tail) refl

pub replies_agree : {T U : Type 0} (K : Type 0) (target : T → U) (same : U → U → Bool) (hash_of : U → ℕ) → IsLaw same hash_of → RepliesAgree target K same
replies_agree K target same hash_of law meets M calls replies others N O one other none_equal none none_too few =
    let told = told_alike target same hash_of law meets M none_equal calls one.told other.told N O one.run other.run
    (kept_told target same hash_of law meets one.told replies one.shown none) (kept_told target same hash_of law meets other.told others other.shown none_too) few in
    (shown_alike target same hash_of law meets replies others (sym one.shown ∙ (ap (map (shown_as target)) told.0 ∙ other.shown)), told.1)

-- where all that meets a key is the same, so it is in each list run
few_by_class : {T U K : Type 0} (target : T → U) (same : U → U → Bool) (hash_of : U → ℕ) → IsLaw same hash_of
    → (meets : K → U → Bool) (M : List T) (calls : List (Call T K)) (replies : List (Reply T U))
    → NoneEqual target same M → NoneRefuses replies → MeetsOneClass same meets → RunMeetsFew target same meets M calls replies
few_by_class target same hash_of law meets M calls replies none_equal none one_class N run =
    each_meets_few target same hash_of law meets one_class M none_equal calls run.told N run.run
    (kept_told target same hash_of law meets run.told replies run.shown none)

pub replies_agree_by_class : {T U : Type 0} (K : Type 0) (target : T → U) (same : U → U → Bool) (hash_of : U → ℕ) → IsLaw same hash_of → RepliesAgreeByClass target K same
replies_agree_by_class K target same hash_of law meets M calls replies others N O one other none_equal none none_too one_class =
    replies_agree K target same hash_of law meets M calls replies others N O one other none_equal none none_too
    (few_by_class target same hash_of law meets M calls replies none_equal none one_class N one)

-- lawful calls on a table without entries are replied as a list replies from the empty one, and leave
-- the entries of its last list
run_from_empty : {X T U P K : Type 0} (target : T → U) (same : U → U → Bool) (hash_of : U → ℕ) (s : Shows X T P) → LawfulWithoutEntries s target
    → (eq : U → U → Bool → Type 0) (rehash : U → ℕ → Type 0) (test : K → U → Bool → Type 0) (meets : K → U → Bool) (calls : List (Call T K)) (replies : List (Reply T U)) (x new : X)
    → Stands s x [] → AreLawful target same hash_of eq rehash test meets (flat_map given calls) calls → RunAnswers target same hash_of s eq rehash test x calls replies new
    → (N : List T) × IsRepliedAsList target same meets [] calls replies N × Stands s new N
run_from_empty target same hash_of s empty eq rehash test meets calls replies x new stands lawful answers =
    let long : length (entries_of s x) ≡ 0 = sym (length_permutation _ _ stands.permuted) in
    let none : entries_of s x ≡ [] = nil_from_length (entries_of s x) long in
    let all = answers meets (empty x long same hash_of, rw none lawful) in
    all.1 [] stands

-- tables that stand for one list have the same entries
one_list : {X Y T P Q : Type 0} (s : Shows X T P) (r : Shows Y T Q) (x : X) (y : Y) (N O : List T) → N ≡ O
    → Stands s x N → Stands r y O → IsPermutation (entries_of s x) (entries_of r y)
one_list s r x y N O is stands stands_too =
    IsPermutation-trans _ _ _ stands.permuted (rw is (IsPermutation-sym _ _ stands_too.permuted))

pub new_tables_agree : {X Y T U P Q : Type 0} (K : Type 0) (target : T → U) (same : U → U → Bool) (hash_of : U → ℕ) → IsLaw same hash_of
    → (s : Shows X T P) (r : Shows Y T Q) → LawfulWithoutEntries s target → LawfulWithoutEntries r target
    → (eq : U → U → Bool → Type 0) (rehash : U → ℕ → Type 0) (test : K → U → Bool → Type 0) → NewTablesAgree target same hash_of s r eq rehash test
new_tables_agree K target same hash_of law s r empty empty_too eq rehash test meets calls replies others x new_x y new_y stands stands_too lawful answers answers_too none none_too few =
    let one = run_from_empty target same hash_of s empty eq rehash test meets calls replies x new_x stands lawful answers in
    let other = run_from_empty target same hash_of r empty_too eq rehash test meets calls others y new_y stands_too lawful answers_too in
    let agree = replies_agree K target same hash_of law meets [] calls replies others one.0 other.0 one.1 other.1 (λ y. omega arith) none none_too (few one.0 one.1) in
    (agree.0, one_list s r new_x new_y one.0 other.0 agree.1 one.2 other.2)

pub new_tables_agree_by_class : {X Y T U P Q : Type 0} (K : Type 0) (target : T → U) (same : U → U → Bool) (hash_of : U → ℕ) → IsLaw same hash_of
    → (s : Shows X T P) (r : Shows Y T Q) → LawfulWithoutEntries s target → LawfulWithoutEntries r target
    → (eq : U → U → Bool → Type 0) (rehash : U → ℕ → Type 0) (test : K → U → Bool → Type 0) → NewTablesAgreeByClass target same hash_of s r eq rehash test
new_tables_agree_by_class K target same hash_of law s r empty empty_too eq rehash test meets calls replies others x new_x y new_y stands stands_too lawful answers answers_too none none_too one_class =
    new_tables_agree K target same hash_of law s r empty empty_too eq rehash test meets calls replies others x new_x y new_y stands stands_too lawful answers answers_too none none_too
    (few_by_class target same hash_of law meets [] calls replies (λ y. omega arith) none one_class)
