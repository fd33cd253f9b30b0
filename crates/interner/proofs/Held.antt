-- What the table's clauses say of the numbers that an interner holds.
use Rattle.std.proofs.Common.{◌≡◌, ℕ, ◌+◌, ◌-◌, ◌<◌, ◌++◌, Bool, List, [], ◌∷◌, Option, Some, None, Result, Ok, Err, length, sym, ap, ◌∙◌, arith, inl, inr}
use Rattle.std.specs.Prelude.{slice_get, Contains}
use Rattle.std.specs.Str.{bytes_eq}
use Rattle.std.proofs.lemmas.List.{length-map, map_push, length-append}
use Rattle.std.proofs.lemmas.List.Sorted.{Contains-permutation}
use Rattle.std.proofs.lemmas.Option.{slice_get-map, slice_get-get_or}
use Rattle.std.proofs.lemmas.Slice.Eq.{bytes_eq-Decides}
use Rattle.table_terms.specs.ListObject.{ListReply, Placed, Found, Refused, Insert, Lookup, Answers}
use Rattle.table_held.specs.Table.{HeldTable, Place, IsLawful, entries, entry_at}
use Rattle.table_held.specs.Held.{ShowsAt, IsLawfulInsert, IsLawfulLookup, LookupReplies, PlacesAsList, LooksUpAsList, InsertAnswers, equal}
use Rattle.interner.specs.Texts.{same_by_text, hash_by_text, HasNumber, greatest_number}
use Rattle.interner.specs.Kept.{TellsText, HashesText, AreNumbered, IsKept}
use Rattle.interner.proofs.Among.{equal_both_ways, not_among}
use Rattle.interner.proofs.Numbers.{among_texts, push_cases, different_push}

module _ {T V : Type 0} (target : T → V) (text : V → List ℕ) (number : V → ℕ) (hash : List ℕ → ℕ) where
  abbrev text_of : T → List ℕ
  text_of e = text (target e)

  -- an entry has the number of its text
  has_number : (texts : List (List ℕ)) (M : List T) (e : T) → AreNumbered target text number texts M → Contains M e → HasNumber texts (text_of e) (number (target e))
  has_number texts M e are (k, within, is) =
      let at : slice_get M k ≡ Some e = slice_get-get_or M k e within ∙ ap Some is in
      let numbered : number (target e) ≡ k + 1 = are.numbered k e at in
      let before : number (target e) - 1 ≡ k = omega arith in
      (omega arith, rw (before, ← are.texts_are, slice_get-map text_of M k, at))

  -- the test "has this text", and its look-up
  abbrev pub has_text : List ℕ → V → Bool
  has_text x v = bytes_eq (text v) x

  module _ (texts : List (List ℕ)) (t : HeldTable T) (kept : IsKept target text number hash texts t) where
    abbrev IsTextTable : HeldTable T → Type 0
    IsTextTable table = IsLawful target (same_by_text text) (hash_by_text text hash) table

    -- the number of an entry leads to its text
    of_entry : (e : T) → Contains (entries t) e → HasNumber texts (text_of e) (number (target e))
    of_entry e among = has_number texts kept.held.0 e kept.held.2 (Contains-permutation (entries t) kept.held.0 e kept.held.1.permuted among)

    lawful_lookup : (answers : V → Bool → Type 0) (x : List ℕ) → ((v : V) (answer : Bool) → answers v answer → TellsText texts (number v) x answer)
        → IsLawfulLookup target (same_by_text text) (hash_by_text text hash) answers (IsTextTable t) (entries t) (hash x) (has_text x)
    lawful_lookup answers x told = record {
      test_is = λ e answer among h. told _ answer h (text_of e) (of_entry e among);
      hash_is = λ e among h. ap hash ((bytes_eq-Decides (text_of e) x).0 h);
      table_is = kept.lawful;
    }

    -- a look-up by text: the target shown has the number of the text, and none is shown only where it has none
    abbrev pub ShowsNumber : List ℕ → Option V → Type 0
    ShowsNumber x (Some v) = HasNumber texts x (number v)
    ShowsNumber x None = ¬ Contains texts x

    shows : (x : List ℕ) (shown : Option V) (reply : ListReply T) → LookupReplies target shown reply
        → Answers (equal target (same_by_text text) (hash_by_text text hash)) kept.held.0 (Lookup (λ e. has_text x (target e))) reply kept.held.0 → ShowsNumber x shown
    shows x None reply replies answers =
        let told = rw replies at answers in
        rw (← kept.held.2.texts_are) (not_among text_of kept.held.0 x told.0)
    shows x (Some v) reply (e, shown_is, replies) answers =
        let told = rw replies at answers in
        let has : HasNumber texts (text_of e) (number (target e)) = has_number texts kept.held.0 e kept.held.2 told.0.0 in
        let text_is : text_of e ≡ x = (bytes_eq-Decides (text_of e) x).0 told.0.1 in
        rw shown_is (rw text_is at has)

    pub looks_up : (answers : V → Bool → Type 0) (x : List ℕ) (key : ℕ) (shown : Option V)
        → ((v : V) (answer : Bool) → answers v answer → TellsText texts (number v) x answer) → key ≡ hash x
        → LooksUpAsList target (same_by_text text) (hash_by_text text hash) answers t key shown → ShowsNumber x shown
    looks_up answers x key shown told hash_is as_list =
        let at_hash : LooksUpAsList target (same_by_text text) (hash_by_text text hash) answers t (hash x) shown = rw hash_is at as_list in
        let reply = at_hash (has_text x) (lawful_lookup answers x told) kept.held.0 kept.held.1 in
        shows x shown reply.0 reply.1 reply.2

  -- what an insert is told by the list of the entries
  module _ (M N : List T) (value : T) (reply : ListReply T) where
    abbrev Answered : Type 0
    Answered = Answers (equal target (same_by_text text) (hash_by_text text hash)) M (Insert value) reply N

    placed : (shown : Option T) → ShowsAt shown (λ e. reply ≡ Placed e) → Answered → N ≡ M ++ value ∷ []
    placed None s h = absurd s
    placed (Some e) s h = (rw s at h).2

    refused : (back : T) → reply ≡ Refused back → Answered → N ≡ M
    refused back is h = (rw is at h).2

    found : (back : T) (shown : Option T) → ShowsAt shown (λ e. reply ≡ Found e back) → Answered → (e : T) × Contains M e × (text_of value ≡ text_of e)
    found back None s h = absurd s
    found back (Some e) s h = let told = rw s at h in (e, told.0.0, (bytes_eq-Decides (text_of value) (text_of e)).0 told.0.1)

  -- an insert of the next number, whose text is new, by closures that look texts up by their numbers
  module _ (eq : V → V → Bool → Type 0) (rehash : V → ℕ → Type 0) (texts : List (List ℕ)) (t new : HeldTable T) (key : ℕ) (value : T) (x : List ℕ)
      (kept : IsKept target text number hash texts t)
      (eq_is : (a b : V) (answer : Bool) → eq a b answer → TellsText texts (number b) x answer)
      (rehash_is : (a : V) (h : ℕ) → rehash a h → HashesText hash texts (number a) key h)
      (hash_is : key ≡ hash x)
      (text_is : text_of value ≡ x)
      (next : number (target value) ≡ length texts + 1)
      (is_new : ¬ Contains texts x) where
    lawful_insert : IsLawfulInsert target (same_by_text text) (hash_by_text text hash) eq rehash (IsTextTable texts t kept t) (entries t) key value
    lawful_insert = record {
      eq_is = λ e answer among h. eq_is _ _ answer h (text_of e) (of_entry texts t kept e among) ∙ equal_both_ways (text_of e) x ∙ ap (λ y. bytes_eq y (text_of e)) (sym text_is);
      rehash_is = λ e h among r. (rehash_is _ h r).given (text_of e) (of_entry texts t kept e among);
      rehash_value_is = λ h r. (rehash_is _ h r).next (omega (arith, next)) ∙ hash_is ∙ ap hash (sym text_is);
      hash_is = hash_is ∙ ap hash (sym text_is);
      table_is = kept.lawful;
    }

    abbrev AsList : Result (Place × Option T) T → Type 0
    AsList r = PlacesAsList target (same_by_text text) (hash_by_text text hash) eq rehash t key value r new

    abbrev Lawfully : Result (Place × Option T) T → Type 0
    Lawfully r = InsertAnswers target (same_by_text text) (hash_by_text text hash) eq rehash (IsTextTable texts t kept t) (entries t) key value r (IsTextTable texts t kept new)

    -- no entry is its equal
    pub never_found : (p : Place) (back : T) → AsList (Ok (p, Some back)) → ⊥
    never_found p back as_list =
        let told = as_list lawful_insert kept.held.0 kept.held.1 in
        let e = found kept.held.0 told.1 value told.0 back (entry_at new p) told.2 told.3 in
        let among : Contains texts (text_of e.0) = among_texts texts (text_of e.0) _ (has_number texts kept.held.0 e.0 kept.held.2 e.1) in
        is_new (rw (← e.2, text_is) at among)

    -- a refused insert keeps what is kept
    pub kept_refused : (back : T) → AsList (Err back) → Lawfully (Err back) → IsKept target text number hash texts new
    kept_refused back as_list lawful =
        let told = as_list lawful_insert kept.held.0 kept.held.1 in
        let same : told.1 ≡ kept.held.0 = refused kept.held.0 told.1 value told.0 back told.2 told.3 in
        record {
          different = kept.different;
          few = kept.few;
          held = (told.1, told.4, rw same kept.held.2);
          lawful = (lawful lawful_insert).0;
        }

    -- the numbers with one more are those of the texts with this one
    one_more : (M : List T) → AreNumbered target text number texts M → AreNumbered target text number (texts ++ x ∷ []) (M ++ value ∷ [])
    one_more M are =
        let lengths : length texts ≡ length M = sym (ap length are.texts_are) ∙ length-map M text_of in
        record {
          numbered = λ k e at. elim (push_cases M value k e at) [ inl old ↦ are.numbered k e old | inr last ↦ rw (last.1, last.0, next, lengths) ];
          texts_are = rw (map_push text_of M value, are.texts_are, text_is);
        }

    -- with the text behind the others, all is kept
    pub kept_placed : (p : Place) → length texts < greatest_number → AsList (Ok (p, None)) → Lawfully (Ok (p, None)) → IsKept target text number hash (texts ++ x ∷ []) new
    kept_placed p few as_list lawful =
        let told = as_list lawful_insert kept.held.0 kept.held.1 in
        let more : told.1 ≡ kept.held.0 ++ value ∷ [] = placed kept.held.0 told.1 value told.0 (entry_at new p) told.2 told.3 in
        record {
          different = different_push texts x kept.different is_new;
          few = omega (arith, length-append texts (x ∷ []));
          held = (told.1, told.4, rw more (one_more kept.held.0 kept.held.2));
          lawful = (lawful lawful_insert).0;
        }
