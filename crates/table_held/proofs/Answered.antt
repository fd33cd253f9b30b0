-- What the answers of calls say to whoever holds a table, of whatever kind: entries stay, and calls are answered as the
-- lists are that the table stands for.
use Rattle.std.proofs.Common.{ℕ, Bool, true, List, [], ◌∷◌, ◌++◌, Option, Some, None, Result, Ok, Err, refl, sym}
use Rattle.std.specs.Prelude.{Contains, IfSome, IfNone, option_copied}
use Rattle.std.specs.Borrow.{Bor}
use Rattle.std.proofs.lemmas.List.Elements.{Contains-append_left}
use Rattle.std.proofs.lemmas.List.Sorted.{IsPermutation-sym, IsPermutation-trans, IsPermutation-append_left, Contains-permutation}
use Rattle.table_terms.specs.ListObject.{Placed, Found, Refused, Shown, Absent}
use Rattle.std.specs.List.Sorted.{IsPermutation}
use Rattle.table_held.specs.Shown.{Shows, InsertKeeps, InsertAnswers, PlacesAsList, LooksUpAsList, WalksAsList, FindsOne, FindsNone, entries_of, value_of}

-- each entry stays one
pub stays : {T U P : Type 0} (target : T → U) (accepts : U → Bool → Type 0) (value_at : P → Option T) (old : List T) (value : T) (new : List T) (r : Result (P × Option T) T) → InsertKeeps target accepts value_at old value r new → (v : T) → Contains old v → Contains new v
stays target accepts value_at old value new (Ok (p, None)) keeps v among = Contains-permutation (old ++ value ∷ []) new v keeps.1 (Contains-append_left old (value ∷ []) v among)
stays target accepts value_at old value new (Ok (p, Some back)) keeps v among = Contains-permutation old new v keeps.2 among
stays target accepts value_at old value new (Err back) keeps v among = Contains-permutation old new v keeps.1 among

module _ {X T P : Type 0} (s : Shows X T P) where
  -- entries in some order answer a walk as each list that the table stands for does
  pub walks_as_list : (t : X) (es : List T) → IsPermutation (entries_of s t) es → WalksAsList s t es
  walks_as_list t es permuted equal M stands = (IsPermutation-trans _ _ _ (IsPermutation-sym _ _ stands.permuted) permuted, refl)

module _ {X T U P : Type 0} (target : T → U) (same : U → U → Bool) (hash_of : U → ℕ) (s : Shows X T P) where
  -- a lawful insert is answered as a list answers it
  pub places_as_list : (eq : U → U → Bool → Type 0) (rehash : U → ℕ → Type 0) (old : X) (hash : ℕ) (value : T) (new : X) (r : Result (P × Option T) T)
      → InsertKeeps target (eq (target value)) (value_of s new) (entries_of s old) value r (entries_of s new) → s.counted new
      → InsertAnswers target same hash_of eq rehash (s.lawful U target same hash_of old) (entries_of s old) hash value r (s.lawful U target same hash_of new)
      → PlacesAsList target same hash_of s eq rehash old hash value r new
  places_as_list eq rehash old hash value new (Ok (p, None)) (lives, kept) counted answers lawful M stands = (
    Placed value,
    M ++ value ∷ [],
    rw lives refl,
    ((λ v among. (answers lawful).1 v (Contains-permutation M (entries_of s old) v (IsPermutation-sym (entries_of s old) M stands.permuted) among)), refl, refl),
    record { counted = counted; permuted = IsPermutation-trans _ _ _ (IsPermutation-sym (entries_of s old ++ value ∷ []) (entries_of s new) kept) (IsPermutation-append_left (value ∷ []) (entries_of s old) M stands.permuted) },
  )
  places_as_list eq rehash old hash value new (Ok (p, Some back)) (back_is, (e, lives, among, accepted), kept) counted answers lawful M stands = (
    Found e back,
    M,
    rw lives refl,
    ((Contains-permutation (entries_of s old) M e stands.permuted among, sym (lawful.eq_is e true among accepted)), back_is, refl),
    record { counted = counted; permuted = IsPermutation-trans _ _ _ (IsPermutation-sym (entries_of s old) (entries_of s new) kept) stands.permuted },
  )
  places_as_list eq rehash old hash value new (Err back) (back_is, kept) counted answers lawful M stands = (
    Refused back,
    M,
    refl,
    ((λ v among. (answers lawful).1 v (Contains-permutation M (entries_of s old) v (IsPermutation-sym (entries_of s old) M stands.permuted) among)), back_is, refl),
    record { counted = counted; permuted = IsPermutation-trans _ _ _ (IsPermutation-sym (entries_of s old) (entries_of s new) kept) stands.permuted },
  )

  module _ (answers : U → Bool → Type 0) (t : X) (hash : ℕ) where
    -- a lawful look-up is answered as a list answers it
    pub found_as_list : (shown : U) → FindsOne target answers (entries_of s t) shown → LooksUpAsList target same hash_of s answers t hash (Some shown)
    found_as_list shown found p lawful M stands = (
      Shown found.entry,
      (found.entry, found.shown_is, refl),
      ((Contains-permutation (entries_of s t) M found.entry stands.permuted found.among, sym (lawful.test_is found.entry true found.among found.accepted)), refl),
    )

    pub none_as_list : FindsNone target same hash_of answers (s.lawful U target same hash_of t) (entries_of s t) hash → LooksUpAsList target same hash_of s answers t hash None
    none_as_list none p lawful M stands = (Absent, refl, ((λ v among. none p lawful v (Contains-permutation M (entries_of s t) v (IsPermutation-sym (entries_of s t) M stands.permuted) among)), refl))

    pub looks_up_as_list : (result : Option (Bor U)) → IfSome result (λ found. FindsOne target answers (entries_of s t) found.now)
        → IfNone result (FindsNone target same hash_of answers (s.lawful U target same hash_of t) (entries_of s t) hash)
        → LooksUpAsList target same hash_of s answers t hash (option_copied result)
    looks_up_as_list (Some found) one none = found_as_list found.now one
    looks_up_as_list None one none = none_as_list none
