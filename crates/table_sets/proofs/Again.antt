-- What an insert into a set says of later look-ups.
use Rattle.std.proofs.Common.{◌≡◌, ◌++◌, ℕ, Bool, true, List, [], ◌∷◌, Option, Some, None, refl, sym, ◌∙◌, ap}
use Rattle.std.specs.Prelude.{Contains}
use Rattle.std.proofs.lemmas.Bool.{false≢true}
use Rattle.std.proofs.lemmas.List.Elements.{Contains-append_left, Contains-push}
use Rattle.std.proofs.lemmas.List.Sorted.{Contains-permutation}
use Rattle.table_terms.specs.Laws.{IsLaw}
use Rattle.table_sets.specs.Sets.{IsShown, Finds}
use Rattle.table_sets.specs.Again.{InsertsLater, FindsAgain}
use Rattle.table_sets.specs.declared.inserted.Inserted.TheVariants.{Placed, Found, Refused}

module _ {T U : Type 0} (target : T → U) where
  -- where an entry passes, a look-up shows one that does
  shows_one : (test : U → Bool) (entries : List T) (e : T) (found : Option U) → Contains entries e → test (target e) ≡ true
      → Finds target test entries found → (shown : U) × (found ≡ Some shown) × IsShown target test entries shown
  shows_one test entries e None among passes none = absurd (false≢true (sym (none e among) ∙ passes))
  shows_one test entries e (Some shown) among passes one = (shown, refl, one)

  module _ (same : U → U → Bool) where
    pub inserts_later : InsertsLater target same
    inserts_later old new value Placed told e among =
        Contains-permutation (old ++ value ∷ []) new e told.1 (Contains-append_left old (value ∷ []) e among)
    inserts_later old new value (Found back) told e among = Contains-permutation old new e told.2 among
    inserts_later old new value (Refused back) told e among = Contains-permutation old new e told.2 among

    pub finds_again : (hash_of : U → ℕ) → IsLaw same hash_of → FindsAgain target same
    finds_again hash_of law old new later value Placed found told not_refused is_later finds =
        shows_one (same (target value)) later value found
        (is_later value (Contains-permutation (old ++ value ∷ []) new value told.1 (Contains-push old value)))
        (law.reflexive (target value)) finds
    finds_again hash_of law old new later value (Found back) found told not_refused is_later finds =
        let one = told.0.1 in
        shows_one (same (target value)) later one.entry found
        (is_later one.entry (inserts_later old new value (Found back) told one.entry one.among))
        (ap (same (target value)) (sym one.shown_is) ∙ one.passes) finds
    finds_again hash_of law old new later value (Refused back) found told not_refused is_later finds =
        absurd (not_refused back refl)
