-- Where one shard takes a value or gives an answer, so does the table over all shards.
use Rattle.std.proofs.Common.{◌≡◌, ℕ, zero, suc, ◌+◌, ◌<◌, ◌⊎◌, Bool, false, List, [], ◌∷◌, ◌++◌, Option, Some, None, Result, Ok, Err, length, refl, sym, ap, subst, ◌∙◌, append_assoc, append-nil, arith, inl, inr, set, get_or, map, ltb, replicate, take, ◌≤◌}
use Rattle.std.specs.Prelude.{Contains, IfOk, IsSome, IfNone, min, option_map, slice_index_or}
use Rattle.std.specs.Array.{IsFromFnResultFrom}
use Rattle.std.specs.Fn.{Called}
use denote.Param.Members.{Mut}
use Rattle.std.specs.Int.{IsPowerOfTwo}
use Rattle.std.specs.List.{flat_map, sum_by}
use Rattle.std.specs.List.Sorted.{IsPermutation}
use Rattle.std.proofs.lemmas.Bool.{cases_Bool, cases_eq, ltb-true, ltb-false, false≢true}
use Rattle.std.proofs.lemmas.Nat.{pow_pos}
use Rattle.std.proofs.lemmas.List.{map-append, length-set, length-map, length-append, length-replicate, take_all, get_or-set_same, get_or-set_other, get_or-replicate, get_or_default, get_or_past}
use Rattle.std.proofs.lemmas.List.Elements.{Contains-append_left, Contains-append_right, Contains-append_cases, Contains-push_cases}
use Rattle.std.proofs.lemmas.List.Sums.{sum_by-cons}
use Rattle.std.proofs.lemmas.List.Sorted.{length_permutation, IsPermutation-refl, IsPermutation-sym, IsPermutation-trans, IsPermutation-append_left, IsPermutation-append_right, Contains-permutation}
use Rattle.table_cell.specs.declared.bucket.Entry.{Entry}
use Rattle.table_generations.specs.Buckets.{value_at}
use Rattle.table_generations.specs.Growth.{entry_of}
use Rattle.table_terms.specs.Laws.{IsLaw}
use Rattle.table_held.specs.Growth.{KeepsPlaces}
use Rattle.table_held.specs.Shown as shown
use Rattle.table_held.specs.Shown.{InsertKeeps, InsertMarks, InsertAnswers, IsLawfulInsert, IsNewUnlessFound, FindsOne, FindsNone, IsLater, InsertSays, ShowsAt, Stands, CountsAsList}
use Rattle.table_terms.specs.ListObject.{greatest_length}
use Rattle.table_held.specs.Table as table
use Rattle.table_held.specs.Table.{HeldTable, empty_table, held}
use Rattle.table_shards.specs.Shards.{AreCounted, AreLawful, AreLawfulForAll, empty_shards, capped_sum, shard_of, shard_at, marked, marked_at, entries, entry_at, sharded, LivesInItsShard}
use Rattle.table_held.specs.declared.place.Place.{Place}
use Rattle.table_shards.specs.declared.sharded.place.ShardPlace.{ShardPlace}
use Rattle.table_held.proofs.Again.{every_answer_lives}
use Rattle.table_held.proofs.Answered.{stays, places_as_list}
use Rattle.table_held.specs.Empty.{held_without_entries}
use Rattle.table_held.proofs.Lists.{values_kept, values_more, home_with, swapped}

no_element : {X : Type 0} (x : X) → Contains [] x → ⊥
no_element x (k, within, is) = omega arith

module _ {X V : Type 0} (f : X → List V) where
  -- where one element's values become those and more, so do the values of all
  flat_map-set : (xs : List X) (k : ℕ) (d new : X) (more : List V) → k < length xs → IsPermutation (f (get_or xs k d) ++ more) (f new) → IsPermutation (flat_map f xs ++ more) (flat_map f (set xs k new))
  flat_map-set [] k d new more within one = absurd (omega arith)
  flat_map-set (x ∷ xs) zero d new more within one = IsPermutation-trans _ _ _ (swapped (f x) (flat_map f xs) more) (IsPermutation-append_left (flat_map f xs) (f x ++ more) (f new) one)
  flat_map-set (x ∷ xs) (suc k) d new more within one = rw (append_assoc (f x) (flat_map f xs) more) (IsPermutation-append_right (f x) _ _ (flat_map-set xs k d new more (omega arith) one))

  -- a value of an element is among the values of all, and each of those is of some element
  Contains-flat_map : (xs : List X) (k : ℕ) (d : X) (v : V) → k < length xs → Contains (f (get_or xs k d)) v → Contains (flat_map f xs) v
  Contains-flat_map [] k d v within among = absurd (omega arith)
  Contains-flat_map (x ∷ xs) zero d v within among = Contains-append_left (f x) (flat_map f xs) v among
  Contains-flat_map (x ∷ xs) (suc k) d v within among = Contains-append_right (f x) (flat_map f xs) v (Contains-flat_map xs k d v (omega arith) among)

  pub flat_map-Contains : (xs : List X) (d : X) (v : V) → Contains (flat_map f xs) v → (k : ℕ) × (k < length xs) × Contains (f (get_or xs k d)) v
  flat_map-Contains [] d v (k, within, is) = absurd (omega arith)
  flat_map-Contains (x ∷ xs) d v among = elim (Contains-append_cases (f x) (flat_map f xs) v among) [
    | inl here ↦ (zero, omega arith, here)
    | inr there ↦ (let at = flat_map-Contains xs d v there in (suc at.0, omega (arith, at.1), at.2))
  ]

-- where one element is replaced by one of which the same is read, the same is read of all
map-set_same : {X V : Type 0} (f : X → V) (xs : List X) (k : ℕ) (d new : X) → k < length xs → f new ≡ f (get_or xs k d) → map f (set xs k new) ≡ map f xs
map-set_same f [] k d new within one = absurd (omega arith)
map-set_same f (x ∷ xs) zero d new within one = ap (λ v. v ∷ map f xs) one
map-set_same f (x ∷ xs) (suc k) d new within one = ap (λ vs. f x ∷ vs) (map-set_same f xs k d new (omega arith) one)

module _ {T : Type 0} where
  -- the first capacities stay where one shard's does
  pub first_kept : (ts : List (HeldTable T)) (k : ℕ) → k < length ts → (new : HeldTable T) → new.first_capacity ≡ (shard_at ts k).first_capacity
      → map (λ t. t.first_capacity) (set ts k new) ≡ map (λ t. t.first_capacity) ts
  first_kept ts k within new one = map-set_same (λ t. t.first_capacity) ts k (empty_table 0) new within one

  -- the entries are those of each shard
  pub entries_by_shard : (ts : List (HeldTable T)) → entries ts ≡ flat_map table.entries ts
  entries_by_shard [] = refl
  entries_by_shard (t ∷ ts) = rw (map-append (λ (e : Entry T). e.value) (table.marked t) (marked ts), entries_by_shard ts) refl

  pub in_all : (ts : List (HeldTable T)) (k : ℕ) (v : T) → k < length ts → Contains (table.entries (shard_at ts k)) v → Contains (entries ts) v
  in_all ts k v within among = rw (entries_by_shard ts) (Contains-flat_map table.entries ts k (empty_table 0) v within among)

  in_one : (ts : List (HeldTable T)) (v : T) → Contains (entries ts) v → (k : ℕ) × (k < length ts) × Contains (table.entries (shard_at ts k)) v
  in_one ts v among = flat_map-Contains table.entries ts (empty_table 0) v (rw (entries_by_shard ts) at among)

-- an answer of one shard, as one of all shards
abbrev pub in_shard : {T : Type 0} → ℕ → Result (Place × Option T) T → Result (ShardPlace × Option T) T
in_shard k (Ok (p, back)) = Ok (record { shard = k; place = p }, back)
in_shard k (Err back) = Err back

-- its place is in that shard
pub named_in_shard : {T : Type 0} (k home : ℕ) (r : Result (Place × Option T) T) (out : Result (ShardPlace × Option T) T) → out ≡ in_shard k r → k ≡ home → IfOk out (λ placed. placed.0.shard ≡ home)
named_in_shard k home (Ok (p, back)) out is at = rw is at
named_in_shard k home (Err back) out is at = rw is tt

module _ {T : Type 0} (ts : List (HeldTable T)) (k : ℕ) (within : k < length ts) (new : HeldTable T) where
  shard_set : shard_at (set ts k new) k ≡ new
  shard_set = get_or-set_same ts k new (empty_table 0) within

  pub shard_kept : (j : ℕ) → (j ≡ k → ⊥) → shard_at (set ts k new) j ≡ shard_at ts j
  shard_kept j other = get_or-set_other ts k j new (empty_table 0) other

  -- what holds of the new shard and of the others holds of each
  each_shard : (P : HeldTable T → Type 0) → P new → ((j : ℕ) → j < length ts → P (shard_at ts j)) → (j : ℕ) → j < length (set ts k new) → P (shard_at (set ts k new) j)
  each_shard P here there j inside = elim (cases_eq j k) [
    | inl is ↦ rw (is, shard_set) here
    | inr other ↦ rw (shard_kept j other) (there j (rw length-set at inside))
  ]

  -- what each place shows stays
  pub places_kept : KeepsPlaces (shard_at ts k) new → shown.KeepsPlaces sharded ts (set ts k new)
  places_kept places p e at = elim (cases_eq p.shard k) [
    | inl is ↦ rw (is, shard_set) (places p.place e (rw is at at))
    | inr other ↦ rw (shard_kept p.shard other) at
  ]

  pub counted_shards : table.IsCounted new → AreCounted ts → AreCounted (set ts k new)
  counted_shards here there j inside = each_shard (λ t. table.IsCounted t) here there j inside

  module _ (hash : ℕ) (value : T) where
    marked_more : (es : List (Entry T)) → IsPermutation (table.marked (shard_at ts k) ++ es) (table.marked new) → IsPermutation (marked ts ++ es) (marked (set ts k new))
    marked_more es one = flat_map-set table.marked ts k (empty_table 0) new es within one

    marked_same : IsPermutation (table.marked (shard_at ts k)) (table.marked new) → IsPermutation (marked ts) (marked (set ts k new))
    marked_same one = rw append-nil at (marked_more [] (rw append-nil one))

    pub marks_shards : (r : Result (Place × Option T) T) → InsertMarks (table.marked (shard_at ts k)) hash value r (table.marked new) → InsertMarks (marked ts) hash value (in_shard k r) (marked (set ts k new))
    marks_shards (Ok (p, None)) marks = marked_more (entry_of value hash ∷ []) marks
    marks_shards (Ok (p, Some back)) marks = marked_same marks
    marks_shards (Err back) marks = marked_same marks

    module _ {U : Type 0} (target : T → U) (accepts : U → Bool → Type 0) where
      abbrev one_keeps : Result (Place × Option T) T → Type 0
      one_keeps r = InsertKeeps target accepts (table.entry_at new) (table.entries (shard_at ts k)) value r (table.entries new)

      abbrev all_keep : Result (Place × Option T) T → Type 0
      all_keep r = InsertKeeps target accepts (entry_at (set ts k new)) (entries ts) value (in_shard k r) (entries (set ts k new))

      pub keeps_shards : (r : Result (Place × Option T) T) → InsertMarks (table.marked (shard_at ts k)) hash value r (table.marked new) → one_keeps r → all_keep r
      keeps_shards (Ok (p, None)) marks (lives, kept) = (rw shard_set lives, values_more (marked ts) (marked (set ts k new)) (entry_of value hash) (marks_shards (Ok (p, None)) marks))
      keeps_shards (Ok (p, Some back)) marks (is, (e, lives, among, accepted), kept) =
          (is, (e, rw shard_set lives, in_all ts k e within among, accepted), values_kept (marked ts) (marked (set ts k new)) (marks_shards (Ok (p, Some back)) marks))
      keeps_shards (Err back) marks (is, kept) = (is, values_kept (marked ts) (marked (set ts k new)) (marks_shards (Err back) marks))

      -- what an answer names lives in its shard
      pub lives_inside : (r : Result (Place × Option T) T) (out : Result (ShardPlace × Option T) T) → out ≡ in_shard k r → one_keeps r → IfOk out (λ placed. LivesInItsShard (set ts k new) placed.0)
      lives_inside (Ok (p, back)) out is keeps = rw (is, shard_set) (every_answer_lives held target (λ _. accepts) (shard_at ts k) new value p back keeps)
      lives_inside (Err back) out is keeps = rw is tt

      pub later_shards : (r : Result (Place × Option T) T) → all_keep r → KeepsPlaces (shard_at ts k) new → IsLater sharded ts (set ts k new)
      later_shards r keeps places p v at =
          let was = home_with (marked_at ts p) v at.lives in
          record { lives = rw (places_kept places p was.0 was.1) (ap Some was.2); among = stays target accepts (entry_at (set ts k new)) (entries ts) value (entries (set ts k new)) (in_shard k r) keeps v at.among }

      -- an entry of the new shard was one, or is the value
      was_or_is : (r : Result (Place × Option T) T) → one_keeps r → (v : T) → Contains (table.entries new) v → Contains (table.entries (shard_at ts k)) v ⊎ (value ≡ v)
      was_or_is (Ok (p, None)) (lives, kept) v among = Contains-push_cases (table.entries (shard_at ts k)) value v (Contains-permutation _ _ v (IsPermutation-sym _ _ kept) among)
      was_or_is (Ok (p, Some back)) (is, found, kept) v among = inl (Contains-permutation _ _ v (IsPermutation-sym _ _ kept) among)
      was_or_is (Err back) (is, kept) v among = inl (Contains-permutation _ _ v (IsPermutation-sym _ _ kept) among)

    module _ {U : Type 0} (target : T → U) (same : U → U → Bool) (hash_of : U → ℕ) (law : IsLaw same hash_of)
        (eq : U → U → Bool → Type 0) (rehash : U → ℕ → Type 0) (home : shard_of (length ts) hash ≡ k)
        (lawful : IsLawfulInsert target same hash_of eq rehash (AreLawful target same hash_of ts) (entries ts) hash value) where
      insert_in_one : IsLawfulInsert target same hash_of eq rehash (table.IsLawful target same hash_of (shard_at ts k)) (table.entries (shard_at ts k)) hash value
      insert_in_one = record {
        eq_is = λ e answer among says. lawful.eq_is e answer (in_all ts k e within among) says;
        rehash_is = λ e h among says. lawful.rehash_is e h (in_all ts k e within among) says;
        rehash_value_is = lawful.rehash_value_is;
        hash_is = lawful.hash_is;
        table_is = lawful.table_is.each k within;
      }

      home_of_value : shard_of (length ts) (hash_of (target value)) ≡ k
      home_of_value = rw (← lawful.hash_is) home

      -- each entry stays at home
      homes_kept : (r : Result (Place × Option T) T) → one_keeps target (eq (target value)) r → (j : ℕ) (v : T) → j < length (set ts k new) → Contains (table.entries (shard_at (set ts k new) j)) v → shard_of (length (set ts k new)) (hash_of (target v)) ≡ j
      homes_kept r keeps j v inside among = elim (cases_eq j k) [
        | inl is ↦ elim (was_or_is target (eq (target value)) r keeps v (rw (is, shard_set) at among)) [
          | inl was ↦ rw (length-set, is) (lawful.table_is.home k v within was)
          | inr value_is ↦ rw (length-set, is, ← value_is) home_of_value
        ]
        | inr other ↦ rw length-set (lawful.table_is.home j v (rw length-set at inside) (rw (shard_kept j other) at among))
      ]

      -- an entry that is the same as the value lies in the value's shard
      new_in_all : ((e : T) → Contains (table.entries (shard_at ts k)) e → same (target value) (target e) ≡ false) → (e : T) → Contains (entries ts) e → same (target value) (target e) ≡ false
      new_in_all none e among = elim (cases_Bool (same (target value) (target e))) [
        | inl found ↦
            (let at = in_one ts e among in
            let here : at.0 ≡ k = sym (lawful.table_is.home at.0 e at.1 at.2) ∙ (ap (λ h. shard_of (length ts) h) (sym (law.agrees (target value) (target e) found)) ∙ home_of_value) in
            none e (subst (λ j. Contains (table.entries (shard_at ts j)) e) here at.2))
        | inr new_here ↦ new_here
      ]

      new_unless_found : (r : Result (Place × Option T) T) → IsNewUnlessFound target same hash_of (table.entries (shard_at ts k)) value r → IsNewUnlessFound target same hash_of (entries ts) value (in_shard k r)
      new_unless_found (Ok (p, None)) none = new_in_all none
      new_unless_found (Ok (p, Some back)) none = none
      new_unless_found (Err back) none = new_in_all none

      pub lawful_shards : (r : Result (Place × Option T) T) → one_keeps target (eq (target value)) r
          → InsertAnswers target same hash_of eq rehash (table.IsLawful target same hash_of (shard_at ts k)) (table.entries (shard_at ts k)) hash value r (table.IsLawful target same hash_of new)
          → AreLawful target same hash_of (set ts k new) × IsNewUnlessFound target same hash_of (entries ts) value (in_shard k r)
      lawful_shards r keeps answers =
          let one = answers insert_in_one in (
            record {
              each = each_shard (λ t. table.IsLawful target same hash_of t) one.0 lawful.table_is.each;
              home = homes_kept r keeps;
            },
            new_unless_found r one.1,
          )

-- all that an insert into one shard says of all
pub says_shards : {T U : Type 0} (target : T → U) (same : U → U → Bool) (hash_of : U → ℕ) → IsLaw same hash_of → (eq : U → U → Bool → Type 0) (rehash : U → ℕ → Type 0)
    (ts : List (HeldTable T)) (k : ℕ) (within : k < length ts) (new : HeldTable T) (hash : ℕ) (value : T) (r : Result (Place × Option T) T)
    → shard_of (length ts) hash ≡ k → AreCounted ts
    → InsertKeeps target (eq (target value)) (table.entry_at new) (table.entries (shard_at ts k)) value r (table.entries new)
    → InsertMarks (table.marked (shard_at ts k)) hash value r (table.marked new) → KeepsPlaces (shard_at ts k) new → table.IsCounted new
    → InsertAnswers target same hash_of eq rehash (table.IsLawful target same hash_of (shard_at ts k)) (table.entries (shard_at ts k)) hash value r (table.IsLawful target same hash_of new)
    → InsertSays target same hash_of sharded eq rehash ts hash value (in_shard k r) (set ts k new)
says_shards target same hash_of law eq rehash ts k within new hash value r home counted keeps marks places counts lawful =
    let all_keep = keeps_shards ts k within new hash value target (eq (target value)) r marks keeps in
    let all_counted = counted_shards ts k within new counts counted in
    let all_lawful : InsertAnswers target same hash_of eq rehash (AreLawful target same hash_of ts) (entries ts) hash value (in_shard k r) (AreLawful target same hash_of (set ts k new)) = λ l. lawful_shards ts k within new hash value target same hash_of law eq rehash home l r keeps lawful in
    record {
      keeps = all_keep;
      marks = marks_shards ts k within new hash value r marks;
      later = later_shards ts k within new hash value target (eq (target value)) r all_keep places;
      counted = all_counted;
      lawful = all_lawful;
      as_list = places_as_list target same hash_of sharded eq rehash ts hash value (set ts k new) (in_shard k r) all_keep all_counted all_lawful;
    }

module _ {T U : Type 0} (target : T → U) (answers : U → Bool → Type 0) (ts : List (HeldTable T)) (k : ℕ) (within : k < length ts) where
  -- what a shard shows is an entry of all
  pub found_in_all : (shown : U) → FindsOne target answers (table.entries (shard_at ts k)) shown → FindsOne target answers (entries ts) shown
  found_in_all shown found = record { entry = found.entry; among = in_all ts k found.entry within found.among; shown_is = found.shown_is; accepted = found.accepted }

  -- what a lawful test doesn't find in its hash's shard is in none
  pub none_in_all : (same : U → U → Bool) (hash_of : U → ℕ) (hash : ℕ) → shard_of (length ts) hash ≡ k
      → FindsNone target same hash_of answers (table.IsLawful target same hash_of (shard_at ts k)) (table.entries (shard_at ts k)) hash
      → FindsNone target same hash_of answers (AreLawful target same hash_of ts) (entries ts) hash
  none_in_all same hash_of hash home none p lawful e among = elim (cases_Bool (p (target e))) [
    | inl found ↦
        (let at = in_one ts e among in
        let here : at.0 ≡ k = sym (lawful.table_is.home at.0 e at.1 at.2) ∙ (ap (λ h. shard_of (length ts) h) (lawful.hash_is e among found) ∙ home) in
        none p (record {
          test_is = λ v answer inside says. lawful.test_is v answer (in_all ts k v within inside) says;
          hash_is = λ v inside accepted. lawful.hash_is v (in_all ts k v within inside) accepted;
          table_is = lawful.table_is.each k within;
        }) e (subst (λ j. Contains (table.entries (shard_at ts j)) e) here at.2))
    | inr refused ↦ refused
  ]

-- what each call of a closure that stays as it is makes is so
pub made_from : {F B : Type 0} (g : Mut F (ℕ × Unit {0}) B) (P : B → Type 0) (f : F) → ((i : ℕ) (y : B) (q : F) → Called g f (i, tt) y q → (q ≡ f) × P y)
    → (ys : List B) (n i : ℕ) (now : F) → now ≡ f → IsFromFnResultFrom g now ys i n → (k : ℕ) (d : B) → i ≤ k → k < i + n → P (get_or ys k d)
made_from g P f step ys zero i now is made k d low high = absurd (omega arith)
made_from g P f step ys (suc n) i now is (q, y, at, called, rest) k d low high =
    let told = step i y q (subst (λ p. Called g p (i, tt) y q) is called) in
    elim (cases_eq k i) [
      | inl here ↦ rw (here, at.1 d) told.1
      | inr later ↦ made_from g P f step ys n (i + 1) q told.0 rest k d (omega arith) (omega arith)
    ]

-- a power of two is not 0
pub some_shards : (n : ℕ) → IsPowerOfTwo n → 0 < n
some_shards n (k, is) = rw is (pow_pos k)

-- a hash has a shard
pub shard_within : {X : Type 0} (n k : ℕ) (ts : List X) → IsPowerOfTwo n → length ts ≡ n → (0 < n → k < n) → k < length ts
shard_within n k ts power long inside = rw long (inside (some_shards n power))

-- the shard that was read, whatever is past the last one
pub read_shard : {X : Type 0} (ts : List X) (k : ℕ) (past t : X) → k < length ts → t ≡ get_or ts k t → slice_index_or ts k past ≡ t
read_shard ts k past t within is = get_or_default ts k past t within ∙ sym is

-- a table without a generation shows nothing
blank : {X : Type 0} (rows : List (List (Option X))) → rows ≡ [] ∷ [] → (g i : ℕ) → value_at (get_or rows g []) i ≡ None
blank rows is zero i = rw is refl
blank rows is (suc g) i = rw is refl

module _ {T : Type 0} where
  -- where an entry lives at a place, the place is in a shard
  pub place_within : (ts : List (HeldTable T)) (p : ShardPlace) → IsSome (entry_at ts p) → p.shard < length ts
  place_within ts p some = elim (cases_Bool (ltb p.shard (length ts))) [
    | inl within ↦ ltb-true p.shard (length ts) within
    | inr past ↦
        (let none : entry_at ts p ≡ None = ap (λ t. table.entry_at t p.place) (get_or_past ts p.shard (empty_table 0) (ltb-false p.shard (length ts) past)) ∙ ap (λ o. option_map (λ (e : Entry T). e.value) o) (blank ([] ∷ []) refl p.place.generation p.place.index) in
        absurd (false≢true (rw none at some)))
  ]

  pub some_in_shard : (ts : List (HeldTable T)) (p : ShardPlace) (t : HeldTable T) → shard_at ts p.shard ≡ t → IsSome (entry_at ts p) → IsSome (table.entry_at t p.place)
  some_in_shard ts p t read some = rw (← read) some

  pub shows_in_shard : (P : T → Type 0) (ts : List (HeldTable T)) (p : ShardPlace) (t : HeldTable T) → shard_at ts p.shard ≡ t → ShowsAt (table.entry_at t p.place) P → ShowsAt (entry_at ts p) P
  shows_in_shard P ts p t read shows = rw read shows

  -- new shards

  same_elements : (ts : List (HeldTable T)) (n : ℕ) (t : HeldTable T) → length ts ≡ n → ((k : ℕ) (d : HeldTable T) → k < n → get_or ts k d ≡ t) → ts ≡ replicate n t
  same_elements [] zero t long each = refl
  same_elements [] (suc n) t long each = absurd (omega arith)
  same_elements (u ∷ ts) zero t long each = absurd (omega arith)
  same_elements (u ∷ ts) (suc n) t long each = rw (each 0 t (omega arith), same_elements ts n t (omega arith) (λ k d within. each (suc k) d (omega arith))) refl

  pub shards_new : (ts : List (HeldTable T)) (n first : ℕ) → length ts ≡ n → ((k : ℕ) (d : HeldTable T) → k < n → get_or ts k d ≡ empty_table first) → ts ≡ empty_shards n first
  shards_new ts n first long each = same_elements ts n (empty_table first) long each

module _ (T : Type 0) where
  no_entries : (n first : ℕ) → entries (empty_shards {T = T} n first) ≡ []
  no_entries zero first = refl
  no_entries (suc n) first = no_entries n first

  new_shard : (n first k : ℕ) → k < length (empty_shards {T = T} n first) → shard_at (empty_shards {T = T} n first) k ≡ empty_table first
  new_shard n first k within = get_or-replicate n k (empty_table first) (empty_table 0) (rw length-replicate at within)

  pub new_counted : (n first : ℕ) → AreCounted (empty_shards {T = T} n first)
  new_counted n first k within = rw (new_shard n first k within) refl

  pub new_stands : (n first : ℕ) → Stands sharded (empty_shards {T = T} n first) []
  new_stands n first = record { counted = new_counted n first; permuted = rw (no_entries n first) (IsPermutation-refl _) }

pub new_lawful : {T U : Type 0} (target : T → U) (n first : ℕ) → AreLawfulForAll target (empty_shards n first)
new_lawful {T} target n first same hash_of = record {
  each = λ k within. rw (new_shard T n first k within) (held_without_entries target (empty_table first) refl same hash_of);
  home = λ k v within among. absurd (no_element v (rw (new_shard T n first k within) at among));
}

-- what holds where nothing was found
pub if_none : {X : Type 0} (r : Option X) {P Q : Type 0} → IfNone r P → (P → Q) → IfNone r Q
if_none None p into = into p
if_none (Some x) p into = p

module _ {T : Type 0} where
  -- the shards' counts, together
  sum_of_counts : (ts : List (HeldTable T)) → sum_by (λ t. length (table.entries t)) ts ≡ length (entries ts)
  sum_of_counts [] = refl
  sum_of_counts (t ∷ ts) =
      let one : length (table.entries t) ≡ length (table.marked t) = length-map _ _ in
      let all : length (entries (t ∷ ts)) ≡ length (table.marked t ++ marked ts) = length-map _ _ in
      let rest : length (entries ts) ≡ length (marked ts) = length-map _ _ in
      omega (arith, one, all, rest, length-append (table.marked t) (marked ts), sum_by-cons (λ (u : HeldTable T). length (table.entries u)) t ts, sum_of_counts ts)

  pub counts_all : (ts : List (HeldTable T)) (i sum : ℕ) → length ts ≤ i → sum ≡ capped_sum (λ t. length (table.entries t)) (take i ts) → sum ≡ min (length (entries ts)) greatest_length
  counts_all ts i sum past is = is ∙ ap (λ n. min n greatest_length) (ap (sum_by (λ t. length (table.entries t))) (take_all i ts past) ∙ sum_of_counts ts)

  pub counts_as_list : (ts : List (HeldTable T)) (sum : ℕ) → sum ≡ min (length (entries ts)) greatest_length → CountsAsList sharded ts sum
  counts_as_list ts sum is equal M stands = (rw (length_permutation _ _ stands.permuted) is, refl)

-- an answer of the shard of a hash, as one of all
pub says_all : {T U : Type 0} (target : T → U) (same : U → U → Bool) (hash_of : U → ℕ) → IsLaw same hash_of → (eq : U → U → Bool → Type 0) (rehash : U → ℕ → Type 0)
    (n : ℕ) (ts : List (HeldTable T)) (k : ℕ) (within : k < length ts) (t new : HeldTable T) (hash : ℕ) (value : T) (r : Result (Place × Option T) T) (out : Result (ShardPlace × Option T) T)
    → length ts ≡ n → k ≡ shard_of n hash → shard_at ts k ≡ t → AreCounted ts → out ≡ in_shard k r
    → InsertKeeps target (eq (target value)) (table.entry_at new) (table.entries t) value r (table.entries new)
    → InsertMarks (table.marked t) hash value r (table.marked new) → KeepsPlaces t new → table.IsCounted new
    → InsertAnswers target same hash_of eq rehash (table.IsLawful target same hash_of t) (table.entries t) hash value r (table.IsLawful target same hash_of new)
    → InsertSays target same hash_of sharded eq rehash ts hash value out (set ts k new)
says_all target same hash_of law eq rehash n ts k within t new hash value r out long home read counted answered keeps marks places counts lawful =
    rw answered (says_shards target same hash_of law eq rehash ts k within new hash value r (rw long (sym home)) counted (rw read keeps) (rw read marks) (rw read places) counts (rw read lawful))
