-- What a table's clauses say of the pairs that it holds.
use Rattle.std.proofs.Common.{◌≡◌, ℕ, zero, suc, ◌<◌, ◌^◌, ◌%◌, ◌++◌, Bool, true, false, List, [], ◌∷◌, Option, Some, None, Result, Ok, Err, length, map, arith, refl, sym, ◌∙◌, ap}
use Rattle.std.specs.Prelude.{Contains, OnOk, IsSorted}
use Rattle.std.specs.Ordering.{nat_cmp}
use Rattle.std.specs.Borrow.{Bor}
use Rattle.std.specs.Iterator.{Drains, YieldsFirstRef}
use Rattle.std.specs.List.Sorted.{IsPermutation}
use Rattle.std.proofs.lemmas.Grind.{common_steps}
use Rattle.std.proofs.lemmas.List.{length-map, map_push}
use Rattle.std.proofs.lemmas.List.Sorted.{length_permutation, IsPermutation-map, IsPermutation-sym, IsPermutation-trans}
use Rattle.std.proofs.Math.ListN.{get_or-map}
use Rattle.table_held.specs.Shown.{Shows, Stands, entries_of, value_of, ShowsAt, IsLawfulInsert, InsertAnswers, PlacesAsList, InsertReplies, equal, LooksUpAsList, LookupReplies, IsLawfulLookup}
use Rattle.table_terms.specs.ListObject.{ListReply, Placed, Found, Refused, Insert, Lookup, Answers, AcceptsNone}
use Rattle.table_terms.specs.Laws.{same_pair, pair_hash}
use Rattle.tool_commands.specs.Pairs.{InsertsPair, LooksUpPair, HoldsPairs, IsPairTable, ShowsPairs, AppendsNumbers, ListsNumbers, numbers_of, insertion_of}

same_self : (x : ℕ × ℕ) → same_pair x x ≡ true
same_self x = grind (arith, common_steps)

same_equal : (x y : ℕ × ℕ) → same_pair x y ≡ true → y ≡ x
same_equal x y h =
    let firsts : y.0 ≡ x.0 = grind (arith, common_steps) in
    let seconds : y.1 ≡ x.1 = grind (arith, common_steps) in
    let first_of : ℕ → ℕ × ℕ = λ a. (a, y.1) in
    let second_of : ℕ → ℕ × ℕ = λ b. (x.0, b) in
    ap first_of firsts ∙ ap second_of seconds

small_hash : (n : ℕ) → n < 2 ^ 64 → n % 2 ^ 64 ≡ n
small_hash n small = grind (arith, common_steps)

module _ {T : Type 0} (pair_of : T → ℕ × ℕ) where
  -- the pair of an element is among the pairs
  has_pair : (M : List T) (e : T) → Contains M e → Contains (map pair_of M) (pair_of e)
  has_pair M e (k, below, is) = (k, rw length-map below, get_or-map pair_of M k e ∙ ap pair_of is)

  -- where no element's pair is the same, the pair is not among them
  has_none : (M : List T) (x : ℕ × ℕ) → ((e : T) → Contains M e → same_pair x (pair_of e) ≡ false) → ¬ Contains (map pair_of M) x
  has_none [] x none (k, below, is) = omega (arith, below)
  has_none (e ∷ M) x none (zero, below, is) =
      let different : same_pair x (pair_of e) ≡ false = none e (0, omega arith, refl) in
      let same : same_pair x (pair_of e) ≡ true = rw is (same_self x) in
      cc
  has_none (e ∷ M) x none (suc k, below, is) =
      has_none M x (λ f (j, in_range, at). none f (suc j, omega arith, at)) (k, omega arith, is)

  -- the list's answers to an insert
  module _ (M N : List T) (value : T) (reply : ListReply T) where
    abbrev Answered : Type 0
    Answered = Answers (equal pair_of same_pair pair_hash) M (Insert value) reply N

    placed : (shown : Option T) → ShowsAt shown (λ e. reply ≡ Placed e) → Answered → AcceptsNone (equal pair_of same_pair pair_hash value) M × (N ≡ M ++ value ∷ [])
    placed None s h = absurd s
    placed (Some e) s h = let told = rw s at h in (told.0, told.2)

    refused : (back : T) → reply ≡ Refused back → Answered → AcceptsNone (equal pair_of same_pair pair_hash value) M × (N ≡ M)
    refused back e h = let told = rw e at h in (told.0, told.2)

    found : (back : T) (shown : Option T) → ShowsAt shown (λ e. reply ≡ Found e back) → Answered → (e : T) × Contains M e × (same_pair (pair_of value) (pair_of e) ≡ true) × (N ≡ M)
    found back None s h = absurd s
    found back (Some e) s h = let told = rw s at h in (e, told.0.0, told.0.1, told.2)

  -- a look-up of a pair, on every list of pairs
  module _ (M : List T) (x : ℕ × ℕ) (reply : ListReply T) where
    looked_up : (shown : Option (ℕ × ℕ)) → LookupReplies pair_of shown reply → Answers (equal pair_of same_pair pair_hash) M (Lookup (λ v. same_pair x (pair_of v))) reply M
        → LooksUpPair (map pair_of M) x (Rattle.std.specs.Prelude.option_map (λ y. y.1) shown)
    looked_up None replies h = let told = rw replies at h in has_none M x told.0
    looked_up (Some y) (e, shown_is, is) h =
        let told = rw is at h in
        let same : pair_of e ≡ x = same_equal x (pair_of e) told.0.1 in
        ((rw same at (has_pair M e told.0.0)), ap (λ z. z.1) (shown_is ∙ same))

-- a walk at its end has shown the numbers of all
drained : {T : Type 0} (pair_of : T → ℕ × ℕ) (walk : List T) (pairs : List (Bor (ℕ × ℕ))) → Drains (YieldsFirstRef (λ rest. map pair_of rest)) walk pairs
    → map (λ p. p.now.1) pairs ≡ numbers_of pair_of walk
drained pair_of walk [] (u, (t, same, ended)) = sym (rw same (ap (λ xs. map (λ x. x.1) xs) ended.0))
drained pair_of walk (x ∷ xs) (u, (t, (j, first, more), ended)) =
    let rest : map (λ p. p.now.1) xs ≡ numbers_of pair_of j = drained pair_of j xs (u, (t, more, ended)) in
    let whole : numbers_of pair_of walk ≡ x.now.1 ∷ numbers_of pair_of j = ap (λ ys. map (λ y. y.1) ys) first in
    cc

module _ {X T P : Type 0} (s : Shows X T P) (pair_of : T → ℕ × ℕ) where
  module _ (new : X) (lawful : IsPairTable s pair_of new) (value : T) (M N : List T) (reply : ListReply T) (stands : Stands s new N) where
    inserted : (r : Result (P × Option T) T) → InsertReplies (value_of s new) r reply → Answers (equal pair_of same_pair pair_hash) M (Insert value) reply N
        → (qs : List (ℕ × ℕ)) × InsertsPair (map pair_of M) (pair_of value) (insertion_of r) qs × HoldsPairs s pair_of new qs
    inserted (Ok (p, None)) replies h =
        let told = placed pair_of M N value reply (value_of s new p) replies h in
        (map pair_of N, (has_none pair_of M (pair_of value) told.0, rw told.1 (map_push pair_of M value)), (lawful, N, stands, refl))
    inserted (Ok (p, Some back)) replies h =
        let told = found pair_of M N value reply back (value_of s new p) replies h in
        let among : Contains (map pair_of M) (pair_of told.0) = has_pair pair_of M told.0 told.1 in
        let same : pair_of told.0 ≡ pair_of value = same_equal (pair_of value) (pair_of told.0) told.2 in
        (map pair_of N, ((rw same at among), rw told.3 refl), (lawful, N, stands, refl))
    inserted (Err back) replies h =
        let told = refused pair_of M N value reply back replies h in
        (map pair_of N, (has_none pair_of M (pair_of value) told.0, rw told.1 refl), (lawful, N, stands, refl))

  -- an insert of a value by closures that answer as pairs do, on every list of pairs
  pub inserts : (eq : ℕ × ℕ → ℕ × ℕ → Bool → Type 0) (rehash : ℕ × ℕ → ℕ → Type 0) (old new : X) (hash : ℕ) (value : T) (r : Result (P × Option T) T)
      → ((x y : ℕ × ℕ) (answer : Bool) → eq x y answer → answer ≡ same_pair x y)
      → ((x : ℕ × ℕ) (h : ℕ) → rehash x h → h ≡ pair_hash x)
      → hash ≡ pair_hash (pair_of value)
      → InsertAnswers pair_of same_pair pair_hash eq rehash (IsPairTable s pair_of old) (entries_of s old) hash value r (IsPairTable s pair_of new)
      → PlacesAsList pair_of same_pair pair_hash s eq rehash old hash value r new
      → (ps : List (ℕ × ℕ)) → HoldsPairs s pair_of old ps → (qs : List (ℕ × ℕ)) × InsertsPair ps (pair_of value) (insertion_of r) qs × HoldsPairs s pair_of new qs
  inserts eq rehash old new hash value r asks hashes hash_is keeps as_list ps (table_is, M, stands, is) =
      let lawful : IsLawfulInsert pair_of same_pair pair_hash eq rehash (IsPairTable s pair_of old) (entries_of s old) hash value = record {
        eq_is = λ e answer among h. asks _ _ answer h;
        rehash_is = λ e h among k. hashes _ h k;
        rehash_value_is = λ h k. hashes _ h k;
        hash_is = hash_is;
        table_is = table_is;
      } in
      let told = as_list lawful M stands in
      rw (← is) (inserted new (keeps lawful).0 value M told.1 told.0 told.4 r told.2 told.3)

  -- the length of a table is that of the list
  pub held_length : (t : X) (ps : List (ℕ × ℕ)) → HoldsPairs s pair_of t ps → length (entries_of s t) ≡ length ps
  held_length t ps (table_is, M, stands, is) = sym (length_permutation _ _ stands.permuted) ∙ sym (length-map M pair_of) ∙ ap length is

  -- a look-up by a test that answers as pairs do, on every list of pairs
  pub looks_up : (answers : ℕ × ℕ → Bool → Type 0) (t : X) (x : ℕ × ℕ) (shown : Option (ℕ × ℕ)) → x.0 < 2 ^ 64
      → ((y : ℕ × ℕ) (answer : Bool) → answers y answer → answer ≡ same_pair x y)
      → LooksUpAsList pair_of same_pair pair_hash s answers t x.0 shown
      → (ps : List (ℕ × ℕ)) → HoldsPairs s pair_of t ps → LooksUpPair ps x (Rattle.std.specs.Prelude.option_map (λ y. y.1) shown)
  looks_up answers t x shown small asks as_list ps (table_is, M, stands, is) =
      let lawful : IsLawfulLookup pair_of same_pair pair_hash answers (IsPairTable s pair_of t) (entries_of s t) x.0 (same_pair x) = record {
        test_is = λ e answer among h. asks _ answer h;
        hash_is = λ e among h. let same : pair_of e ≡ x = same_equal x (pair_of e) h in rw same (small_hash x.0 small);
        table_is = table_is;
      } in
      let told = as_list (same_pair x) lawful M stands in
      rw (← is) (looked_up pair_of M x told.0 shown told.1 told.2)

  -- the numbers of the entries are those of every list of pairs, in some order
  pub numbers_held : (t : X) (ps : List (ℕ × ℕ)) → HoldsPairs s pair_of t ps → IsPermutation (map (λ x. x.1) ps) (numbers_of pair_of (entries_of s t))
  numbers_held t ps (table_is, M, stands, is) =
      let of_pairs : IsPermutation (map pair_of (entries_of s t)) ps = rw is at (IsPermutation-map pair_of (entries_of s t) M stands.permuted) in
      IsPermutation-sym _ _ (IsPermutation-map (λ x. x.1) _ _ of_pairs)

  -- what is appended of a walk over the entries are the numbers of every list of pairs
  pub appends_numbers : {V E : Type 0} (r : Result V E) (t : X) (walk : List T) (old new : List ℕ) → walk ≡ entries_of s t
      → OnOk r ((pairs : List (Bor (ℕ × ℕ))) × Drains (YieldsFirstRef (λ rest. map pair_of rest)) walk pairs × (new ≡ old ++ map (λ p. p.now.1) pairs))
      → OnOk r ((ps : List (ℕ × ℕ)) → HoldsPairs s pair_of t ps → (ns : List ℕ) × (new ≡ old ++ ns) × IsPermutation (map (λ x. x.1) ps) ns)
  appends_numbers (Ok v) t walk old new is (pairs, drains, gathered) = λ ps holds.
      (map (λ p. p.now.1) pairs, gathered, rw (drained pair_of walk pairs drains, is) (numbers_held t ps holds))
  appends_numbers (Err e) t walk old new is h = h

-- numbers that are appended to none, and then sorted
pub lists_numbers : {X : Type 0} (s : ShowsPairs X) (t : X) (none pushed ns : List ℕ) → AppendsNumbers s t none pushed → none ≡ [] → IsPermutation pushed ns → IsSorted nat_cmp ns
    → (ps : List (ℕ × ℕ)) → s.holds t ps → ListsNumbers ps ns
lists_numbers s t none pushed ns appends is_none sorting sorted ps holds =
    let told = appends ps holds in
    let whole : pushed ≡ told.0 = told.1 ∙ ap (λ xs. xs ++ told.0) is_none in
    record { permuted = IsPermutation-trans _ _ _ told.2 (rw whole at sorting); sorted = sorted }
