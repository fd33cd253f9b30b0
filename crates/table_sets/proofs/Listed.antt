-- What the clauses of a table held alone say of the list of its entries.
use Rattle.std.proofs.Common.{◌≡◌, cond, ℕ, ◌+◌, Bool, true, List, [], ◌∷◌, Option, Some, None, map, refl, sym, ◌∙◌, ap}
use Rattle.std.specs.Prelude.{count_by, IfSome, IfNone, option_copied}
use Rattle.std.specs.Borrow.{Bor}
use Rattle.std.proofs.lemmas.List.Sums.{sum_by-cons}
use Rattle.table_held.specs.Held.{FindsOne, FindsNone}
use Rattle.table_held.specs.Table.{HeldTable, IsLawful, entries, marked}
use Rattle.table_sets.specs.Sets.{AllApart, Finds}

-- as many of a mapped list pass as pass of the list by the map
count_by-map : {X Y : Type 0} (f : X → Y) (passes : Y → Bool) (xs : List X) → count_by passes (map f xs) ≡ count_by (λ x. passes (f x)) xs
count_by-map f passes [] = refl
count_by-map f passes (x ∷ xs) =
    sum_by-cons (λ y. cond (passes y) 1 0) (f x) (map f xs)
    ∙ ap (λ n. cond (passes (f x)) 1 0 + n) (count_by-map f passes xs)
    ∙ sym (sum_by-cons (λ y. cond (passes (f y)) 1 0) x xs)

module _ {T U : Type 0} (target : T → U) (same : U → U → Bool) (hash_of : U → ℕ) where
  -- no two entries of a lawful table are the same
  pub lawful_apart : (t : HeldTable T) → IsLawful target same hash_of t → AllApart target same (entries t)
  lawful_apart t lawful x =
      rw (count_by-map (λ e. e.value) (λ v. same x (target v)) (marked t)) (lawful.apart x)

  -- a look-up by a test of one hash shows an entry that passes, or none does
  pub finds : (answers : U → Bool → Type 0) (test : U → Bool) (t : HeldTable T) (hash : ℕ) (r : Option (Bor U))
      → ((x : U) (answer : Bool) → answers x answer → answer ≡ test x)
      → ((x : U) → test x ≡ true → hash_of x ≡ hash)
      → IsLawful target same hash_of t
      → IfSome r (λ found. FindsOne target answers (entries t) found.now)
      → IfNone r (FindsNone target same hash_of answers (IsLawful target same hash_of t) (entries t) hash)
      → Finds target test (entries t) (option_copied r)
  finds answers test t hash (Some found) answer_is hash_is lawful one none = record {
    entry = one.entry;
    among = one.among;
    shown_is = one.shown_is;
    passes = rw one.shown_is (sym (answer_is (target one.entry) true one.accepted));
  }
  finds answers test t hash None answer_is hash_is lawful one none =
      none test (record {
        test_is = λ e answer among says. answer_is (target e) answer says;
        hash_is = λ e among passes. hash_is (target e) passes;
        table_is = lawful;
      })
