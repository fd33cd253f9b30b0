-- One more call of a run.
use Rattle.std.proofs.Common.{◌≡◌, ℕ, Bool, List, [], ◌∷◌, ◌++◌, Some, map, refl, ap, subst, ◌∙◌}
use Rattle.std.specs.Prelude.{All, Contains}
use Rattle.std.specs.List.{flat_map}
use Rattle.std.specs.List.Sorted.{IsPermutation}
use Rattle.std.proofs.lemmas.List.{flat_map_more, map-append}
use Rattle.std.proofs.lemmas.List.Elements.{All-weaker, All-contains, All-contains_itself, Contains-push, Contains-append_left, Contains-append_right}
use Rattle.std.proofs.lemmas.List.Sorted.{IsPermutation-sym, IsPermutation-trans, IsPermutation-append_left, Contains-permutation}
use Rattle.table_terms.specs.ListObject.{ListCall, ListReply, Answers, IsListRun}
use Rattle.table_held.specs.declared.runs.Call.{Call}
use Rattle.table_held.specs.declared.runs.Reply.{Reply}
use Rattle.table_held.specs.declared.runs.Call.TheVariants as call
use Rattle.table_held.specs.Calls.{IsRepliedAsList, given, handed_back, shown_as, asked}
use Rattle.table_held.specs.Runs.{OnlyAsks, AreLawfulInserts, IsLawfulTest, AreLawful, IsLawfulCall, IsLawfulRun, CallStaysLawful, CallAnswers, RunStaysLawful, RunAnswers, RunKeeps}
use Rattle.table_held.specs.Shown.{Shows, IsLawfulInsert, entries_of}
use Rattle.table_held.proofs.Lists.{swapped}

module _ {X : Type 0} where
  -- all items of a list, each as it is
  pub map_same : (xs : List X) → map (λ (x : X). x) xs ≡ xs
  map_same [] = refl
  map_same (x ∷ xs) = ap (λ ys. x ∷ ys) (map_same xs)

module _ {T K : Type 0} where
  -- what the calls handed in before stays in the pool, and the values of one more call are in it
  in_more : (old : List T) (cs : List (Call T K)) (c : Call T K) (e : T) → Contains (old ++ flat_map given cs) e → Contains (old ++ flat_map given (cs ++ c ∷ [])) e
  in_more old cs c e among = rw (← flat_map_more given old cs c) (Contains-append_left _ _ e among)

  given_in : (old : List T) (cs : List (Call T K)) (c : Call T K) (e : T) → Contains (given c) e → Contains (old ++ flat_map given (cs ++ c ∷ [])) e
  given_in old cs c e among = rw (← flat_map_more given old cs c) (Contains-append_right _ _ e among)

module _ {T U K : Type 0} where
  -- a call that keeps the values, after a run that keeps them
  pub keeps_more : (old mid new : List T) (cs : List (Call T K)) (rs : List (Reply T U)) (c : Call T K) (r : Reply T U)
      → RunKeeps old cs rs mid → IsPermutation (mid ++ given c) (new ++ handed_back r) → RunKeeps old (cs ++ c ∷ []) (rs ++ r ∷ []) new
  keeps_more old mid new cs rs c r all one =
      rw (← flat_map_more given old cs c, ← flat_map_more handed_back new rs r)
      (IsPermutation-trans _ _ _ (IsPermutation-append_left (given c) _ _ all)
      (IsPermutation-trans _ _ _ (swapped mid (flat_map handed_back rs) (given c))
      (IsPermutation-trans _ _ _ (IsPermutation-append_left (flat_map handed_back rs) _ _ one) (swapped new (handed_back r) (flat_map handed_back rs)))))

  -- an entry in the midst of a run is of the run's pool
  kept_in : (old mid : List T) (cs : List (Call T K)) (rs : List (Reply T U)) (c : Call T K) → RunKeeps old cs rs mid → (e : T) → Contains mid e → Contains (old ++ flat_map given (cs ++ c ∷ [])) e
  kept_in old mid cs rs c all e among = in_more old cs c e (Contains-permutation _ _ e (IsPermutation-sym _ _ all) (Contains-append_left mid _ e among))

-- one more call of a list run
run_push : {V : Type 0} (equal : V → V → Bool) (cs : List (ListCall V)) (qs : List (ListReply V)) (M mid N : List V) (c : ListCall V) (q : ListReply V)
    → IsListRun equal M cs qs mid → Answers equal mid c q N → IsListRun equal M (cs ++ c ∷ []) (qs ++ q ∷ []) N
run_push equal [] [] M mid N c q run answers = (N, subst (λ x. Answers equal x c q N) run answers, refl)
run_push equal [] (p ∷ qs) M mid N c q run answers = absurd run
run_push equal (d ∷ cs) [] M mid N c q run answers = absurd run
run_push equal (d ∷ cs) (p ∷ qs) M mid N c q run answers = (run.0, run.1, run_push equal cs qs run.0 mid N c q run.2 answers)

-- one more call with its reply
replied_push : {T U K : Type 0} (target : T → U) (same : U → U → Bool) (meets : K → U → Bool) (M mid N : List T) (cs : List (Call T K)) (rs : List (Reply T U)) (c : Call T K) (r : Reply T U) (q : ListReply T)
    → IsRepliedAsList target same meets M cs rs mid → shown_as target q ≡ Some r → Answers (λ v w. same (target v) (target w)) mid (asked target meets c) q N
    → IsRepliedAsList target same meets M (cs ++ c ∷ []) (rs ++ r ∷ []) N
replied_push target same meets M mid N cs rs c r q run shows answers = record {
  told = run.told ++ q ∷ [];
  shown = rw (map-append (shown_as target) run.told (q ∷ []), map-append (λ o. Some o) rs (r ∷ []), run.shown, shows) refl;
  run = rw (map-append (asked target meets) cs (c ∷ [])) (run_push _ (map (asked target meets) cs) run.told M mid N (asked target meets c) q run.run answers);
}

-- a run that asked alone left the table as it was, and so does one more call
pub unchanged_more : {X T K : Type 0} (old mid new : X) (cs : List (Call T K)) (c : Call T K) → (All OnlyAsks cs → mid ≡ old) → (OnlyAsks c → new ≡ mid) → All OnlyAsks (cs ++ c ∷ []) → new ≡ old
unchanged_more old mid new cs c before one all =
    one (All-contains OnlyAsks (cs ++ c ∷ []) c all (Contains-push cs c))
    ∙ before (All-weaker (Contains cs) OnlyAsks (λ d among. All-contains OnlyAsks (cs ++ c ∷ []) d all (Contains-append_left cs _ d among)) cs (All-contains_itself cs))

module _ {X T P U K : Type 0} (target : T → U) (same : U → U → Bool) (hash_of : U → ℕ) (s : Shows X T P)
    (eq : U → U → Bool → Type 0) (rehash : U → ℕ → Type 0) where
  -- the last of lawful inserts, where the entries are of its pool
  insert_lawful : (pool : List T) (cs : List (Call T K)) (hash : ℕ) (value : T) (mid : X)
      → AreLawfulInserts target same hash_of eq rehash pool (cs ++ call.Insert hash value ∷ []) → s.lawful U target same hash_of mid
      → ((e : T) → Contains (entries_of s mid) e → Contains pool e) → Contains pool value
      → IsLawfulInsert target same hash_of eq rehash (s.lawful U target same hash_of mid) (entries_of s mid) hash value
  insert_lawful pool cs hash value mid all lawful kept own = record {
    eq_is = λ e answer among says. all.eq_is value e answer own (kept e among) says;
    rehash_is = λ e h among says. all.rehash_is e h (kept e among) says;
    rehash_value_is = λ h says. all.rehash_is value h own says;
    hash_is = all.hash_is hash value (Contains-push cs _);
    table_is = lawful;
  }

  -- inserts that are lawful are so without the last call
  fewer_inserts : (old : List T) (cs : List (Call T K)) (c : Call T K)
      → AreLawfulInserts target same hash_of eq rehash (old ++ flat_map given (cs ++ c ∷ [])) (cs ++ c ∷ []) → AreLawfulInserts target same hash_of eq rehash (old ++ flat_map given cs) cs
  fewer_inserts old cs c all =
      let within = in_more old cs c in
      record {
        eq_is = λ v e answer among_v among_e says. all.eq_is v e answer (within v among_v) (within e among_e) says;
        rehash_is = λ e h among says. all.rehash_is e h (within e among) says;
        hash_is = λ hash value among. all.hash_is hash value (Contains-append_left cs _ _ among);
      }

  -- one more call keeps the table lawful
  pub lawful_more : (old mid new : X) (cs : List (Call T K)) (rs : List (Reply T U)) (c : Call T K)
      → RunKeeps (entries_of s old) cs rs (entries_of s mid)
      → RunStaysLawful target same hash_of s eq rehash old cs mid
      → CallStaysLawful target same hash_of s eq rehash mid c new
      → RunStaysLawful target same hash_of s eq rehash old (cs ++ c ∷ []) new
  lawful_more old mid new cs rs (call.Insert hash value) keeps before one lawful all =
      let c = call.Insert hash value in
      one (insert_lawful _ cs hash value mid all (before lawful (fewer_inserts (entries_of s old) cs c all)) (kept_in (entries_of s old) (entries_of s mid) cs rs c keeps) (given_in (entries_of s old) cs c value (Contains-push [] value)))
  lawful_more old mid new cs rs (call.Lookup hash key) keeps before one lawful all = one (before lawful (fewer_inserts (entries_of s old) cs (call.Lookup hash key) all))
  lawful_more old mid new cs rs call.Len keeps before one lawful all = one (before lawful (fewer_inserts (entries_of s old) cs call.Len all))

  module _ (test : K → U → Bool → Type 0) where
    -- the last call of a lawful run, where the entries are of its pool
    call_lawful : (meets : K → U → Bool) (pool : List T) (cs : List (Call T K)) (c : Call T K) (mid : X)
        → AreLawful target same hash_of eq rehash test meets pool (cs ++ c ∷ []) → s.lawful U target same hash_of mid
        → ((e : T) → Contains (entries_of s mid) e → Contains pool e) → ((e : T) → Contains (given c) e → Contains pool e)
        → IsLawfulCall target same hash_of s eq rehash test meets mid c
    call_lawful meets pool cs (call.Insert hash value) mid all lawful kept own = insert_lawful pool cs hash value mid all.inserts lawful kept (own value (Contains-push [] value))
    call_lawful meets pool cs (call.Lookup hash key) mid all lawful kept own =
        let tests = all.tests hash key (Contains-push cs _) in
        record {
          test_is = λ e answer among says. tests.test_is e answer (kept e among) says;
          hash_is = λ e among accepted. tests.hash_is e (kept e among) accepted;
          table_is = lawful;
        }
    call_lawful meets pool cs call.Len mid all lawful kept own = lawful

    -- a test that is lawful for a pool is so for a smaller one
    test_in : (meets : K → U → Bool) (pool more : List T) → ((e : T) → Contains pool e → Contains more e) → (hash : ℕ) (key : K)
        → IsLawfulTest target same hash_of eq rehash test meets more hash key → IsLawfulTest target same hash_of eq rehash test meets pool hash key
    test_in meets pool more within hash key lawful = record {
      test_is = λ e answer among says. lawful.test_is e answer (within e among) says;
      hash_is = λ e among accepted. lawful.hash_is e (within e among) accepted;
    }

    -- a run that is lawful is so without its last call
    shorter : (meets : K → U → Bool) (old : X) (cs : List (Call T K)) (c : Call T K)
        → IsLawfulRun target same hash_of s eq rehash test meets old (cs ++ c ∷ []) → IsLawfulRun target same hash_of s eq rehash test meets old cs
    shorter meets old cs c (lawful, all) = (
      lawful,
      record {
        inserts = fewer_inserts (entries_of s old) cs c all.inserts;
        tests = λ hash key among. test_in meets _ _ (in_more (entries_of s old) cs c) hash key (all.tests hash key (Contains-append_left cs _ _ among));
      },
    )

    pub answers_none : (t : X) → RunAnswers target same hash_of s eq rehash test t [] [] t
    answers_none t meets lawful = (lawful.0, λ M stands. (M, record { told = []; shown = refl; run = refl }, stands))

    pub answers_more : (old mid new : X) (cs : List (Call T K)) (rs : List (Reply T U)) (c : Call T K) (r : Reply T U)
        → RunKeeps (entries_of s old) cs rs (entries_of s mid)
        → RunAnswers target same hash_of s eq rehash test old cs rs mid
        → CallAnswers target same hash_of s eq rehash test mid c r new
        → RunAnswers target same hash_of s eq rehash test old (cs ++ c ∷ []) (rs ++ r ∷ []) new
    answers_more old mid new cs rs c r keeps before one meets lawful =
        let so_far = before meets (shorter meets old cs c lawful) in
        let last = one meets (call_lawful meets _ cs c mid lawful.1 so_far.0 (kept_in (entries_of s old) (entries_of s mid) cs rs c keeps) (given_in (entries_of s old) cs c)) in (
          last.0,
          λ M stands.
              let reached = so_far.1 M stands in
              let next = last.1 reached.0 reached.2 in
              (next.1, replied_push target same meets M reached.0 next.1 cs rs c r next.0 reached.1 next.2 next.3, next.4),
        )
