-- Lists of calls whose replies the calls alone decide.
use Rattle.std.specs.Prelude.{◌≡◌, ℕ, ◌≤◌, ◌++◌, Bool, true, List, [], ◌∷◌, Contains, count_by}
use Rattle.std.specs.List.{flat_map}
use Rattle.std.specs.List.Sorted.{IsPermutation}
use Rattle.table_terms.specs.Laws.{AllApart}
use Rattle.table_terms.specs.ListObject.{ListReply, Placed}
use Rattle.table_held.specs.Shown.{Shows, Stands, entries_of}
use Rattle.table_held.specs.Calls.{IsRepliedAsList, given}
use Rattle.table_held.specs.Runs.{AreLawful, RunAnswers}
use Rattle.table_held.specs.declared.runs.Call.{Call}
use Rattle.table_held.specs.declared.runs.Reply.{Reply}
use Rattle.table_held.specs.declared.runs.Call.TheVariants as call
use Rattle.table_held.specs.declared.runs.Reply.TheVariants as reply

-- no reply is Refused
abbrev pub NoneRefuses : {T U : Type 0} → List (Reply T U) → Type 0
NoneRefuses {T} replies = (back : T) → Contains replies (reply.Refused back) → ⊥

-- the list M after a call that was told this
abbrev pub list_after : {T : Type 0} → List T → ListReply T → List T
list_after M (Placed e) = M ++ e ∷ []
list_after M _ = M

-- all that meets a key is the same
abbrev pub MeetsOneClass : {K U : Type 0} → (U → U → Bool) → (K → U → Bool) → Type 0
MeetsOneClass {K} {U} same meets = (key : K) (x y : U) → meets key x ≡ true → meets key y ≡ true → same x y ≡ true

module _ {T U : Type 0} (target : T → U) where
  -- if the call is a look-up, its key is met by at most one entry of the list
  abbrev pub MeetsFew : {K : Type 0} → (K → U → Bool) → List T → Call T K → Type 0
  MeetsFew meets M (call.Insert hash value) = Unit {0}
  MeetsFew meets M (call.Lookup hash key) = count_by (λ v. meets key (target v)) M ≤ 1
  MeetsFew meets M call.Len = Unit {0}

  -- so it is with each call, and the list that it comes to
  abbrev pub EachMeetsFew : {K : Type 0} → (K → U → Bool) → List T → List (Call T K) → List (ListReply T) → Type 0
  EachMeetsFew meets M (c ∷ cs) (q ∷ qs) = MeetsFew meets M c × EachMeetsFew meets (list_after M q) cs qs
  EachMeetsFew meets M _ _ = Unit {0}

  -- no two entries of the list are the same
  abbrev pub NoneEqual : (U → U → Bool) → List T → Type 0
  NoneEqual same M = AllApart (λ x v. same x (target v)) M

  -- two list runs of the same calls from one list without equal entries have the same replies and
  -- the same list at the end, if no reply is Refused and each look-up's key is met by at most one
  -- entry of the list that it comes to
  abbrev pub RepliesAgree : (K : Type 0) → (U → U → Bool) → Type 0
  RepliesAgree K same =
      (meets : K → U → Bool) (M : List T) (calls : List (Call T K)) (replies others : List (Reply T U)) (N O : List T)
      (one : IsRepliedAsList target same meets M calls replies N)
      (other : IsRepliedAsList target same meets M calls others O) →
      NoneEqual same M → NoneRefuses replies → NoneRefuses others → EachMeetsFew meets M calls one.told →
      (replies ≡ others) × (N ≡ O)

  -- so they have, if no reply is Refused and all that meets a key is the same
  abbrev pub RepliesAgreeByClass : (K : Type 0) → (U → U → Bool) → Type 0
  RepliesAgreeByClass K same =
      (meets : K → U → Bool) (M : List T) (calls : List (Call T K)) (replies others : List (Reply T U)) (N O : List T) →
      IsRepliedAsList target same meets M calls replies N →
      IsRepliedAsList target same meets M calls others O →
      NoneEqual same M → NoneRefuses replies → NoneRefuses others → MeetsOneClass same meets →
      (replies ≡ others) × (N ≡ O)

  -- in a list run from M with these replies, each look-up's key is met by at most one entry of the
  -- list that it comes to
  abbrev pub RunMeetsFew : {K : Type 0} → (U → U → Bool) → (K → U → Bool) → List T → List (Call T K) → List (Reply T U) → Type 0
  RunMeetsFew same meets M calls replies =
      (N : List T) (run : IsRepliedAsList target same meets M calls replies N) → EachMeetsFew meets M calls run.told

module _ {X Y T U P Q : Type 0} (target : T → U) (same : U → U → Bool) (hash_of : U → ℕ)
    (s : Shows X T P) (r : Shows Y T Q) {K : Type 0} where
  -- lawful calls on two tables without entries, of whatever kinds, have the same replies and leave
  -- the same entries, if no reply is Refused and this holds of what meets a key, of the calls and of
  -- their replies
  abbrev pub NewTablesAgreeIf : ((K → U → Bool) → List (Call T K) → List (Reply T U) → Type 0)
      → (U → U → Bool → Type 0) → (U → ℕ → Type 0) → (K → U → Bool → Type 0) → Type 0
  NewTablesAgreeIf holds eq rehash test =
      (meets : K → U → Bool) (calls : List (Call T K)) (replies others : List (Reply T U))
      (x new_x : X) (y new_y : Y) →
      Stands s x [] → Stands r y [] →
      AreLawful target same hash_of eq rehash test meets (flat_map given calls) calls →
      RunAnswers target same hash_of s eq rehash test x calls replies new_x →
      RunAnswers target same hash_of r eq rehash test y calls others new_y →
      NoneRefuses replies → NoneRefuses others → holds meets calls replies →
      (replies ≡ others) × IsPermutation (entries_of s new_x) (entries_of r new_y)

  -- so it is where each look-up's key is met by at most one entry of the list that it comes to
  abbrev pub NewTablesAgree : (U → U → Bool → Type 0) → (U → ℕ → Type 0)
      → (K → U → Bool → Type 0) → Type 0
  NewTablesAgree = NewTablesAgreeIf (λ meets. RunMeetsFew target same meets [])

  -- and so it is where all that meets a key is the same
  abbrev pub NewTablesAgreeByClass : (U → U → Bool → Type 0) → (U → ℕ → Type 0)
      → (K → U → Bool → Type 0) → Type 0
  NewTablesAgreeByClass = NewTablesAgreeIf (λ meets calls replies. MeetsOneClass same meets)
