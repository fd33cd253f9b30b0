-- Why places stay good, and why a value that was inserted is found again.
use Rattle.std.proofs.Common.{◌≡◌, cond, ℕ, ◌+◌, ◌≤◌, Bool, true, List, [], ◌∷◌, refl, sym, ◌∙◌, arith, inl, inr}
use Rattle.std.specs.Prelude.{Option, Some, None, Ok, Contains}
use Rattle.std.specs.List.{sum_by}
use Rattle.std.proofs.lemmas.Bool.{false≢true}
use Rattle.std.proofs.lemmas.List.Elements.{Contains-push}
use Rattle.std.proofs.lemmas.List.Sorted.{IsPermutation-refl, Contains-permutation}
use Rattle.std.proofs.lemmas.List.Sums.{sum_by-cons}
use Rattle.table_terms.specs.ListObject.{ListReply, Lookup, Answers}
use Rattle.table_terms.specs.Laws.{IsLaw}
use Rattle.table_generations.specs.Buckets.{values_of}
use Rattle.table_cell.specs.declared.bucket.Entry.{Entry}
use Rattle.table_held.specs.Shown.{Shows, IsEntryAt, IsLawfulInsert, IsLawfulLookup, InsertKeeps, LookupReplies, entries_of, value_of, equal}
use Rattle.table_held.proofs.Apart.{first_or_other}
use Rattle.table_held.specs.Again.{LaterIsReflexive, LaterIsTransitive, AnswersLive, LawfulIsApart, FindsAgain}

module _ {T : Type 0} (passes : T → Bool) where
  -- how many entries pass
  abbrev passing : List (Entry T) → ℕ
  passing es = sum_by (λ e. cond (passes e.value) 1 0) es

  -- one more entry passes or not
  one_more : (e : Entry T) (es : List (Entry T)) → passing (e ∷ es) ≡ cond (passes e.value) 1 0 + passing es
  one_more e es = sum_by-cons (λ e. cond (passes e.value) 1 0) e es

  head_passes : (e : Entry T) (es : List (Entry T)) (v : T) → e.value ≡ v → passes v ≡ true → passing (e ∷ es) ≡ 1 + passing es
  head_passes e es v is passed = rw (one_more e es, is, passed)

  one_passes : (es : List (Entry T)) (v : T) → Contains (values_of es) v → passes v ≡ true → 1 ≤ passing es
  one_passes [] v (k, within, is) passed = absurd (omega arith)
  one_passes (e ∷ es) v among passed = elim (first_or_other e.value (values_of es) v among) [
    | inl is ↦ omega (arith, head_passes e es v is passed)
    | inr other ↦ omega (arith, one_more e es, one_passes es v other passed)
  ]

  -- where at most one entry passes, two values that pass are one
  only_one_passes : (es : List (Entry T)) (v w : T) → passing es ≤ 1 → Contains (values_of es) v → Contains (values_of es) w → passes v ≡ true → passes w ≡ true → v ≡ w
  only_one_passes [] v w few (k, within, is) among passed also = absurd (omega arith)
  only_one_passes (e ∷ es) v w few among_v among_w passed also =
      elim (first_or_other e.value (values_of es) v among_v) [
        | inl is_v ↦ elim (first_or_other e.value (values_of es) w among_w) [
          | inl is_w ↦ sym is_v ∙ is_w
          | inr other ↦ absurd (omega (arith, head_passes e es v is_v passed, one_passes es w other also))
        ]
        | inr other_v ↦ elim (first_or_other e.value (values_of es) w among_w) [
          | inl is_w ↦ absurd (omega (arith, head_passes e es w is_w also, one_passes es v other_v passed))
          | inr other_w ↦ only_one_passes es v w (omega (arith, one_more e es)) other_v other_w passed also
        ]
      ]

-- a look-up whose test accepts one entry alone shows that one
shows_the_one : {T U : Type 0} (target : T → U) (eq : T → T → Bool) (M : List T) (accepts : T → Bool) (e : T) (result : Option U) (r : ListReply T) → LookupReplies target result r → Answers eq M (Lookup accepts) r M → Contains M e → accepts e ≡ true → ((v : T) → Contains M v → accepts v ≡ true → v ≡ e) → result ≡ Some (target e)
shows_the_one target eq M accepts e None r is answers among passed alone =
    let none = rw is at answers in
    absurd (false≢true (sym (none.0 e among) ∙ passed))
shows_the_one target eq M accepts e (Some shown) r (v, shown_is, is) answers among passed alone =
    let one = rw is at answers in
    rw (shown_is, alone v one.0.0 one.0.1) refl

module _ {X T P : Type 0} (s : Shows X T P) where
  -- a table is later than itself, and later is transitive
  pub later_reflexive : LaterIsReflexive s
  later_reflexive t p v at = at

  pub later_transitive : LaterIsTransitive s
  later_transitive a b c before after p v at = after p v (before p v at)

  -- what an insert answers with lives
  pub every_answer_lives : {U : Type 0} (target : T → U) (eq : U → U → Bool → Type 0) → AnswersLive s target eq
  every_answer_lives target eq old new value p None (lives, moved) =
      (value, record { lives = lives; among = Contains-permutation _ _ value moved (Contains-push (entries_of s old) value) })
  every_answer_lives target eq old new value p (Some back) (is, (e, lives, among, accepted), moved) =
      (e, record { lives = lives; among = Contains-permutation _ _ e moved among })

  module _ {U : Type 0} (target : T → U) (same : U → U → Bool) (hash_of : U → ℕ) (law : IsLaw same hash_of) where
    -- the place that a lawful insert named shows an entry that is the same as the value
    names_same : (eq : U → U → Bool → Type 0) (rehash : U → ℕ → Type 0) (x : T) (p : P) (old new : X) (hash : ℕ) (back : Option T) →
        IsLawfulInsert target same hash_of eq rehash (s.lawful U target same hash_of old) (entries_of s old) hash x →
        InsertKeeps target (eq (target x)) (value_of s new) (entries_of s old) x (Ok (p, back)) (entries_of s new) →
        (e : T) × IsEntryAt s new p e × (same (target x) (target e) ≡ true)
    names_same eq rehash x p old new hash None lawful (lives, moved) =
        (x, record { lives = lives; among = Contains-permutation _ _ x moved (Contains-push (entries_of s old) x) }, law.reflexive (target x))
    names_same eq rehash x p old new hash (Some back) lawful (is, (e, lives, among, accepted), moved) =
        (e, record { lives = lives; among = Contains-permutation _ _ e moved among }, sym (lawful.eq_is e true among accepted))

    -- the entry at the place of an insert is found again, where the entries of a lawful table are apart
    pub found_again : LawfulIsApart s target same hash_of
        → (eq : U → U → Bool → Type 0) (rehash : U → ℕ → Type 0) (answers : U → Bool → Type 0) → FindsAgain s target same hash_of eq rehash answers
    found_again apart eq rehash answers x p t later result was is_later looks =
        let named = names_same eq rehash x p was.old t was.hash was.back was.lawful was.keeps in
        let e = named.0 in
        let now = is_later p e named.1 in
        let is_lawful : IsLawfulLookup target same hash_of answers (s.lawful U target same hash_of later) (entries_of s later) (hash_of (target x)) (λ y. same (target x) y) = record {
          test_is = looks.test_is;
          hash_is = λ v among passed. sym (law.agrees _ _ passed);
          table_is = looks.lawful;
        } in
        let told = looks.told (λ y. same (target x) y) is_lawful (entries_of s later) (record { counted = looks.counted; permuted = IsPermutation-refl (entries_of s later) }) in (
          e,
          named.1.lives,
          named.2,
          shows_the_one target (equal target same hash_of) (entries_of s later) (λ v. same (target x) (target v)) e result told.0 told.1 told.2 now.among named.2
              (λ v among passed. only_one_passes (λ w. same (target x) (target w)) (s.marked later) v e (apart law later looks.lawful (target x)) among now.among passed named.2),
        )
