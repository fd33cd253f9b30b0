-- What the table's clauses say of the lines that it holds.
use Rattle.std.proofs.Common.{◌≡◌, ℕ, ◌++◌, Bool, true, false, List, [], ◌∷◌, Option, Some, None, Ok, map, refl, sym, ◌∙◌, ap}
use Rattle.std.specs.Prelude.{Contains, ◌↔◌, IsTrue, is_some}
use Rattle.std.specs.Str.{bytes_eq}
use Rattle.std.proofs.lemmas.Bool.{false≢true}
use Rattle.std.proofs.lemmas.List.{length-map, map_push}
use Rattle.std.proofs.lemmas.Slice.Eq.{bytes_eq-Decides}
use Rattle.std.proofs.Math.ListN.{get_or-map}
use Rattle.table_generations.specs.declared.atomic_value.InPlace.{InPlace}
use Rattle.table_held.specs.Table.{HeldTable, Place, entries, entry_at}
use Rattle.table_held.specs.Held.{ShowsAt, IsLawfulInsert, PlacesAsList, InsertReplies, equal, LooksUpAsList, LookupReplies, IsLawfulLookup}
use Rattle.table_terms.specs.ListObject.{ListReply, Placed, Found, Insert, Lookup, Answers}
use Rattle.interner.specs.Hashes.{mixed_hash}
use Rattle.interner.proofs.Among.{equal_both_ways, not_among}
use Rattle.tool_lines.specs.Hashes.{same_by_bytes, hash_by_bytes}
use Rattle.std.specs.Io.KnownBytes.{Appends}
use Rattle.std.proofs.KnownBytes.{Appends-trans}
use Rattle.tool_lines.specs.Firsts.{firsts, deduped, with_break}
use Rattle.tool_lines.specs.LineSet.{IsLineTable, HoldsLines, SeesLine, RefusesLine}
use Rattle.tool_lines.specs.Taken.{TakesLines}
use Rattle.tool_lines.proofs.Firsts.{firsts_known, firsts_new, Contains_from_firsts, Contains_in_firsts, deduped_known, deduped_new}

module _ {V : Type 0} (bytes : V → List ℕ) where
  abbrev T : Type 0
  T = InPlace V

  abbrev target : T → V
  target e = e.0

  abbrev bytes_of : T → List ℕ
  bytes_of e = bytes e.0

  -- the bytes of an element are among the bytes of all
  has_bytes : (M : List T) (e : T) → Contains M e → Contains (map bytes_of M) (bytes_of e)
  has_bytes M e (k, below, is) = (k, rw length-map below, get_or-map bytes_of M k e ∙ ap bytes_of is)

  -- the test "has these bytes"
  abbrev has : List ℕ → V → Bool
  has x v = bytes_eq (bytes v) x

  lawful_lookup : (t : HeldTable T) (answers : V → Bool → Type 0) (x : List ℕ) → ((v : V) (answer : Bool) → answers v answer → answer ≡ has x v) → IsLineTable bytes t
      → IsLawfulLookup target (same_by_bytes bytes) (hash_by_bytes bytes) answers (IsLineTable bytes t) (entries t) (mixed_hash x) (has x)
  lawful_lookup t answers x test_is lawful = record {
    test_is = λ e answer among h. test_is _ answer h;
    hash_is = λ e among h. ap mixed_hash ((bytes_eq-Decides (bytes_of e) x).0 h);
    table_is = lawful;
  }

  -- something is shown exactly where the bytes are among those of the list
  shown_among : (M : List T) (x : List ℕ) (reply : ListReply T) (shown : Option V) → LookupReplies target shown reply
      → Answers (equal target (same_by_bytes bytes) (hash_by_bytes bytes)) M (Lookup (λ e. has x (target e))) reply M
      → IsTrue (is_some shown) ↔ Contains (map bytes_of M) x
  shown_among M x reply None replies answers =
      let told = rw replies at answers in
      let none = not_among bytes_of M x told.0 in
      (λ no. absurd (false≢true no), λ among. absurd (none among))
  shown_among M x reply (Some v) (e, shown_is, replies) answers =
      let told = rw replies at answers in
      let same : bytes_of e ≡ x = (bytes_eq-Decides (bytes_of e) x).0 told.0.1 in
      (λ yes. rw same at (has_bytes M e told.0.0), λ among. refl)

  pub looks_up : (answers : V → Bool → Type 0) (t : HeldTable T) (x : List ℕ) (hash : ℕ) (shown : Option V) → IsLineTable bytes t
      → ((v : V) (answer : Bool) → answers v answer → answer ≡ has x v) → hash ≡ mixed_hash x
      → LooksUpAsList target (same_by_bytes bytes) (hash_by_bytes bytes) answers t hash shown
      → (lines : List (List ℕ)) → HoldsLines bytes t lines → IsTrue (is_some shown) ↔ Contains lines x
  looks_up answers t x hash shown lawful test_is hash_is as_list lines (M, stands, is) =
      let at_hash : LooksUpAsList target (same_by_bytes bytes) (hash_by_bytes bytes) answers t (mixed_hash x) shown = rw hash_is at as_list in
      let told = at_hash (has x) (lawful_lookup t answers x test_is lawful) M stands in
      let among : IsTrue (is_some shown) ↔ Contains (firsts lines) x = rw is at (shown_among M x told.0 shown told.1 told.2) in
      (λ yes. Contains_from_firsts lines x (among.0 yes), λ known. among.1 (Contains_in_firsts lines x known))

  -- the list's answer to an insert, and the lines of the list after
  module _ (M N : List T) (value : T) (reply : ListReply T) (lines : List (List ℕ)) (is : map bytes_of M ≡ firsts lines) where
    abbrev Answered : Type 0
    Answered = Answers (equal target (same_by_bytes bytes) (hash_by_bytes bytes)) M (Insert value) reply N

    placed : (shown : Option T) → ShowsAt shown (λ e. reply ≡ Placed e) → Answered → map bytes_of N ≡ firsts (lines ++ bytes_of value ∷ [])
    placed None s h = absurd s
    placed (Some e) s h =
        let told = rw s at h in
        let none : ¬ Contains (firsts lines) (bytes_of value) = rw is at (not_among bytes_of M (bytes_of value) (λ e among. equal_both_ways (bytes_of e) (bytes_of value) ∙ told.0 e among)) in
        let new : ¬ Contains lines (bytes_of value) = λ known. none (Contains_in_firsts lines (bytes_of value) known) in
        ap (map bytes_of) told.2 ∙ map_push bytes_of M value ∙ ap (λ ls. ls ++ bytes_of value ∷ []) is ∙ sym (firsts_new lines (bytes_of value) new)

    found : (back : T) (shown : Option T) → ShowsAt shown (λ e. reply ≡ Found e back) → Answered → map bytes_of N ≡ firsts (lines ++ bytes_of value ∷ [])
    found back None s h = absurd s
    found back (Some e) s h =
        let told = rw s at h in
        let same : bytes_of value ≡ bytes_of e = (bytes_eq-Decides (bytes_of value) (bytes_of e)).0 told.0.1 in
        let among : Contains (firsts lines) (bytes_of e) = rw is at (has_bytes M e told.0.0) in
        let known : Contains lines (bytes_of value) = Contains_from_firsts lines (bytes_of value) (rw same among) in
        ap (map bytes_of) told.2 ∙ is ∙ sym (firsts_known lines (bytes_of value) known)

    kept : (new : HeldTable T) (p : Place) (back : Option T) → InsertReplies (entry_at new) (Ok (p, back)) reply → Answered → map bytes_of N ≡ firsts (lines ++ bytes_of value ∷ [])
    kept new p None replies h = placed (entry_at new p) replies h
    kept new p (Some back) replies h = found back (entry_at new p) replies h

  lawful_insert : (eq : V → V → Bool → Type 0) (rehash : V → ℕ → Type 0) (old : HeldTable T) (hash : ℕ) (value : T) (x : List ℕ) → IsLineTable bytes old
      → ((a b : V) (answer : Bool) → eq a b answer → answer ≡ same_by_bytes bytes a b)
      → ((a : V) (h : ℕ) → rehash a h → h ≡ hash_by_bytes bytes a)
      → hash ≡ mixed_hash x → bytes_of value ≡ x
      → IsLawfulInsert target (same_by_bytes bytes) (hash_by_bytes bytes) eq rehash (IsLineTable bytes old) (entries old) hash value
  lawful_insert eq rehash old hash value x lawful eq_is rehash_is hash_is value_is = record {
    eq_is = λ e answer among h. eq_is _ _ answer h;
    rehash_is = λ e h among r. rehash_is _ h r;
    rehash_value_is = λ h r. rehash_is _ h r;
    hash_is = hash_is ∙ ap mixed_hash (sym value_is);
    table_is = lawful;
  }

  -- after an Ok the table holds the lines and the new one
  pub keeps : (eq : V → V → Bool → Type 0) (rehash : V → ℕ → Type 0) (old new : HeldTable T) (hash : ℕ) (value : T) (x : List ℕ) (p : Place) (back : Option T) → IsLineTable bytes old
      → ((a b : V) (answer : Bool) → eq a b answer → answer ≡ same_by_bytes bytes a b)
      → ((a : V) (h : ℕ) → rehash a h → h ≡ hash_by_bytes bytes a)
      → hash ≡ mixed_hash x → bytes_of value ≡ x
      → PlacesAsList target (same_by_bytes bytes) (hash_by_bytes bytes) eq rehash old hash value (Ok (p, back)) new
      → (lines : List (List ℕ)) → HoldsLines bytes old lines → HoldsLines bytes new (lines ++ x ∷ [])
  keeps eq rehash old new hash value x p back lawful eq_is rehash_is hash_is value_is as_list lines (M, stands, is) =
      let told = as_list (lawful_insert eq rehash old hash value x lawful eq_is rehash_is hash_is value_is) M stands in
      (told.1, told.4, rw value_is at (kept M told.1 value told.0 lines is new p back told.2 told.3))

  -- a known line changes nothing
  pub sees_known : (t : HeldTable T) (x : List ℕ) → ((lines : List (List ℕ)) → HoldsLines bytes t lines → Contains lines x) → SeesLine bytes t x true t
  sees_known t x known lines (M, stands, is) =
      let among = known lines (M, stands, is) in
      ((λ yes. among, λ held. refl), (M, stands, is ∙ sym (firsts_known lines x among)))

  -- a line that is not known, and a table that holds the same lines
  pub refuses_new : (old new : HeldTable T) (x : List ℕ) → ((lines : List (List ℕ)) → HoldsLines bytes old lines → IsTrue false ↔ Contains lines x)
      → ((lines : List (List ℕ)) → HoldsLines bytes old lines → HoldsLines bytes new lines) → RefusesLine bytes old x new
  refuses_new old new x unknown stay lines held = (λ known. false≢true ((unknown lines held).1 known), stay lines held)

  pub takes_known : (old new : HeldTable T) (x : List ℕ) (before : Option (List ℕ)) → SeesLine bytes old x true new → TakesLines (HoldsLines bytes) deduped old (x ∷ []) new before before
  takes_known old new x before sees lines start held wrote =
      let told = sees lines held in
      (told.1, (let same = deduped_known lines x (told.0.0 refl) in rw same wrote))

  pub takes_new : (old new : HeldTable T) (x : List ℕ) (before after : Option (List ℕ)) → SeesLine bytes old x false new → Appends before after (with_break x) → TakesLines (HoldsLines bytes) deduped old (x ∷ []) new before after
  takes_new old new x before after sees more lines start held wrote =
      let told = sees lines held in
      let none : ¬ Contains lines x = λ known. false≢true (told.0.1 known) in
      (told.1, (let longer = deduped_new lines x none in rw longer (Appends-trans start before after (deduped lines) (with_break x) wrote more)))
