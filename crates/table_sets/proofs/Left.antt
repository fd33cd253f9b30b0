-- What an insert by a law says of a set, once its entry is shown.
use Rattle.std.proofs.Common.{◌≡◌, ◌++◌, ℕ, Bool, [], ◌∷◌, Option, Some, None, Result, Ok, Err, refl, ◌∙◌, subst}
use Rattle.std.specs.Prelude.{IfOk, IsSome}
use Rattle.std.specs.Borrow.{Bor}
use Rattle.std.proofs.lemmas.List.Elements.{Contains-push}
use Rattle.std.proofs.lemmas.List.Sorted.{Contains-permutation}
use Rattle.table_held.specs.Shown.{ShowsAt}
use Rattle.table_held.specs.Table.{HeldTable, IsLawful, entries, entry_at}
use Rattle.table_held.specs.declared.place.Place.{Place}
use Rattle.table_sets.specs.Placing.{PlacesByLaw, ShowsByLaw}
use Rattle.table_sets.specs.Sets.{InsertLeaves, InsertShows}
use Rattle.table_sets.specs.declared.inserted.Shown.{Shown}
use Rattle.table_sets.specs.declared.inserted.Shown.TheVariants as show
use Rattle.table_sets.proofs.Listed.{lawful_apart}

-- what is shown at a place is that of the entry that lives there
shown_at : {T : Type 0} (at : Option T) (e : T) (P : T → Type 0) → at ≡ Some e → ShowsAt at P → P e
shown_at at e P is shows = subst (λ o. ShowsAt o P) is shows

module _ {T U : Type 0} (target : T → U) (same : U → U → Bool) where
  -- where an insert by a law says that its entry is, an entry lives
  pub lives_by_law : (old new : HeldTable T) (value : T) (r : Result (Place × Option T) T) → PlacesByLaw target same old value r new → IfOk r (λ p. IsSome (entry_at new p.0))
  lives_by_law old new value (Ok (p, None)) places = rw places.1 refl
  lives_by_law old new value (Ok (p, Some back)) places = rw places.0.lives refl
  lives_by_law old new value (Err back) places = tt

  pub shows_by_law : (old new : HeldTable T) (value : T) (r : Result (Place × Option T) T) (s : Shown (Bor U) T) → PlacesByLaw target same old value r new → ShowsByLaw target r new s
      → InsertShows target same (entries old) value s
  shows_by_law old new value (Ok (p, None)) (show.Placed shown) (none, at, kept) shows = (none, shown_at (entry_at new p) value (λ e. shown.now ≡ target e) at shows)
  shows_by_law old new value (Ok (p, Some b)) (show.Found shown back) (one, b_is, kept) (shows, back_is) =
      let is : shown.now ≡ target one.entry = shown_at (entry_at new p) one.entry (λ e. shown.now ≡ target e) one.lives shows in
      (record { entry = one.entry; among = one.among; shown_is = is; passes = rw is one.is_same }, back_is ∙ b_is)
  shows_by_law old new value (Err b) (show.Refused back) (none, b_is, kept) back_is = (none, back_is ∙ b_is)
  shows_by_law old new value (Ok (p, None)) (show.Found shown back) places shows = absurd shows
  shows_by_law old new value (Ok (p, None)) (show.Refused back) places shows = absurd shows
  shows_by_law old new value (Ok (p, Some b)) (show.Placed shown) places shows = absurd shows
  shows_by_law old new value (Ok (p, Some b)) (show.Refused back) places shows = absurd shows
  shows_by_law old new value (Err b) (show.Placed shown) places shows = absurd shows
  shows_by_law old new value (Err b) (show.Found shown back) places shows = absurd shows

  pub leaves_by_law : (hash_of : U → ℕ) (old new : HeldTable T) (value : T) (r : Result (Place × Option T) T) (s : Shown (Bor U) T) → IsLawful target same hash_of new → PlacesByLaw target same old value r new → ShowsByLaw target r new s
      → InsertLeaves target same (entries old) value s (entries new)
  leaves_by_law hash_of old new value (Ok (p, None)) (show.Placed shown) lawful (none, at, kept) shows = record {
    inserts = (none, kept);
    apart = lawful_apart target same hash_of new lawful;
    shows_entry = (value, Contains-permutation (entries old ++ value ∷ []) (entries new) value kept (Contains-push (entries old) value), shown_at (entry_at new p) value (λ e. shown.now ≡ target e) at shows);
  }
  leaves_by_law hash_of old new value (Ok (p, Some b)) (show.Found shown back) lawful (one, b_is, kept) (shows, back_is) = record {
    inserts = ((target one.entry, record { entry = one.entry; among = one.among; shown_is = refl; passes = one.is_same }), back_is ∙ b_is, kept);
    apart = lawful_apart target same hash_of new lawful;
    shows_entry = (one.entry, Contains-permutation (entries old) (entries new) one.entry kept one.among, shown_at (entry_at new p) one.entry (λ e. shown.now ≡ target e) one.lives shows);
  }
  leaves_by_law hash_of old new value (Err b) (show.Refused back) lawful (none, b_is, kept) back_is = record {
    inserts = (none, back_is ∙ b_is, kept);
    apart = lawful_apart target same hash_of new lawful;
    shows_entry = tt;
  }
  leaves_by_law hash_of old new value (Ok (p, None)) (show.Found shown back) lawful places shows = absurd shows
  leaves_by_law hash_of old new value (Ok (p, None)) (show.Refused back) lawful places shows = absurd shows
  leaves_by_law hash_of old new value (Ok (p, Some b)) (show.Placed shown) lawful places shows = absurd shows
  leaves_by_law hash_of old new value (Ok (p, Some b)) (show.Refused back) lawful places shows = absurd shows
  leaves_by_law hash_of old new value (Err b) (show.Placed shown) lawful places shows = absurd shows
  leaves_by_law hash_of old new value (Err b) (show.Found shown back) lawful places shows = absurd shows
