-- What the reply to one call says.
use Rattle.std.proofs.Common.{◌≡◌, ℕ, Bool, List, [], ◌∷◌, ◌++◌, Option, Some, None, refl}
use Rattle.std.specs.Prelude.{Ok, Err}
use Rattle.std.specs.List.Sorted.{IsPermutation}
use Rattle.std.proofs.lemmas.List.Sorted.{IsPermutation-append_left}
use Rattle.table_terms.specs.ListObject.{ListReply, Placed, Found, Counted}
use Rattle.table_held.specs.Shown.{Shows, ShowsAt, InsertKeeps, InsertAnswers, PlacesAsList, LooksUpAsList, CountsAsList, entries_of, value_of}
use Rattle.table_held.specs.Calls.{shown_as}
use Rattle.table_held.specs.Runs.{InsertRepliesAsList, LookupRepliesAsList, CallAnswers}
use Rattle.table_held.specs.declared.runs.Call.TheVariants as call
use Rattle.table_held.specs.declared.runs.Reply.{Reply}
use Rattle.table_held.specs.declared.runs.Reply.TheVariants as reply

module _ {T U : Type 0} (target : T → U) where
  -- a reply that shows the entry at the place of an insert
  shows_placed : (o : Option T) (shown : U) (q : ListReply T) → ShowsAt o (λ v. shown ≡ target v) → ShowsAt o (λ e. q ≡ Placed e) → shown_as target q ≡ Some (reply.Placed shown)
  shows_placed None shown q here is = absurd here
  shows_placed (Some v) shown q here is = rw (is, here) refl

  shows_found : (o : Option T) (shown : U) (back : T) (q : ListReply T) → ShowsAt o (λ v. shown ≡ target v) → ShowsAt o (λ e. q ≡ Found e back) → shown_as target q ≡ Some (reply.Found shown back)
  shows_found None shown back q here is = absurd here
  shows_found (Some v) shown back q here is = rw (is, here) refl

  module _ {P : Type 0} (accepts : U → Bool → Type 0) (value_at : P → Option T) (old : List T) (value : T) (new : List T) where
    -- a value that comes back is handed out again
    pub found_keeps : (p : P) (back : T) → InsertKeeps target accepts value_at old value (Ok (p, Some back)) new → IsPermutation (old ++ value ∷ []) (new ++ back ∷ [])
    found_keeps p back keeps = rw keeps.0 (IsPermutation-append_left (value ∷ []) old new keeps.2)

    pub refused_keeps : (back : T) → InsertKeeps target accepts value_at old value (Err back) new → IsPermutation (old ++ value ∷ []) (new ++ back ∷ [])
    refused_keeps back keeps = rw keeps.0 (IsPermutation-append_left (value ∷ []) old new keeps.1)

module _ {X T P U : Type 0} (target : T → U) (same : U → U → Bool) (hash_of : U → ℕ) (s : Shows X T P) where
  module _ (eq : U → U → Bool → Type 0) (rehash : U → ℕ → Type 0) (old : X) (hash : ℕ) (value : T) (new : X) where
    pub placed_replies : (p : P) (shown : U) → ShowsAt (value_of s new p) (λ v. shown ≡ target v)
        → InsertAnswers target same hash_of eq rehash (s.lawful U target same hash_of old) (entries_of s old) hash value (Ok (p, None)) (s.lawful U target same hash_of new)
        → PlacesAsList target same hash_of s eq rehash old hash value (Ok (p, None)) new
        → InsertRepliesAsList target same hash_of s eq rehash old hash value (reply.Placed shown) new
    placed_replies p shown here answers listed lawful = ((answers lawful).0, λ M stands. let told = listed lawful M stands in (told.0, told.1, shows_placed target (value_of s new p) shown told.0 here told.2, told.3, told.4))

    pub found_replies : (p : P) (shown : U) (back : T) → ShowsAt (value_of s new p) (λ v. shown ≡ target v)
        → InsertAnswers target same hash_of eq rehash (s.lawful U target same hash_of old) (entries_of s old) hash value (Ok (p, Some back)) (s.lawful U target same hash_of new)
        → PlacesAsList target same hash_of s eq rehash old hash value (Ok (p, Some back)) new
        → InsertRepliesAsList target same hash_of s eq rehash old hash value (reply.Found shown back) new
    found_replies p shown back here answers listed lawful = ((answers lawful).0, λ M stands. let told = listed lawful M stands in (told.0, told.1, shows_found target (value_of s new p) shown back told.0 here told.2, told.3, told.4))

    pub refused_replies : (back : T)
        → InsertAnswers target same hash_of {P = P} eq rehash (s.lawful U target same hash_of old) (entries_of s old) hash value (Err back) (s.lawful U target same hash_of new)
        → PlacesAsList target same hash_of s eq rehash old hash value (Err back) new
        → InsertRepliesAsList target same hash_of s eq rehash old hash value (reply.Refused back) new
    refused_replies back answers listed lawful = ((answers lawful).0, λ M stands. let told = listed lawful M stands in (told.0, told.1, rw told.2 refl, told.3, told.4))

  -- where each answer of one test is one of the other, what a look-up by the first says holds for the second
  module _ (asked answers : U → Bool → Type 0) (into : (x : U) (answer : Bool) → asked x answer → answers x answer) (t : X) (hash : ℕ) where
    pub some_replies : (shown : U) → LooksUpAsList target same hash_of s asked t hash (Some shown) → LookupRepliesAsList target same hash_of s answers t hash (reply.Some shown)
    some_replies shown listed p lawful M stands =
        let (r, (e, is, shows), listed_too) = listed p (record { test_is = λ v answer among says. lawful.test_is v answer among (into _ _ says); hash_is = lawful.hash_is; table_is = lawful.table_is }) M stands in
        (r, M, rw (shows, is) refl, listed_too, stands)

    pub none_replies : LooksUpAsList target same hash_of s asked t hash None → LookupRepliesAsList target same hash_of s answers t hash reply.None
    none_replies listed p lawful M stands =
        let told = listed p (record { test_is = λ v answer among says. lawful.test_is v answer among (into _ _ says); hash_is = lawful.hash_is; table_is = lawful.table_is }) M stands in
        (told.0, M, rw told.1 refl, told.2, stands)

  module _ {K : Type 0} (eq : U → U → Bool → Type 0) (rehash : U → ℕ → Type 0) (test : K → U → Bool → Type 0) (old : X) where
    pub insert_answers : (hash : ℕ) (value : T) (r : Reply T U) (new : X) → InsertRepliesAsList target same hash_of s eq rehash old hash value r new → CallAnswers target same hash_of s eq rehash test old (call.Insert hash value) r new
    insert_answers hash value r new replies meets lawful = replies lawful

    pub lookup_answers : (hash : ℕ) (key : K) (r : Reply T U) → LookupRepliesAsList target same hash_of s (test key) old hash r → CallAnswers target same hash_of s eq rehash test old (call.Lookup hash key) r old
    lookup_answers hash key r replies meets lawful = (lawful.table_is, replies (meets key) lawful)

    pub len_answers : (k : ℕ) → CountsAsList s old k → CallAnswers target same hash_of s eq rehash test old call.Len (reply.Len k) old
    len_answers k counts meets lawful = (lawful, λ M stands. (Counted k, M, refl, counts (λ v w. same (target v) (target w)) M stands, stands))
