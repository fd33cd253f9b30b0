-- What an insert answers, as its caller says it.
use Rattle.std.proofs.Common.{◌≡◌, ℕ, ◌++◌, Bool, [], ◌∷◌, Some, refl, subst, sym, ◌∙◌, arith, inl}
use Rattle.std.proofs.lemmas.List.Elements.{Contains-append_right}
use mathlib.Core.List.{IsPrefix}
use Rattle.table_numbered.specs.Words.{mark_of, numbered, of_value}
use Rattle.table_numbered.specs.declared.event.Numbered.{Numbered}
use Rattle.table_numbered.specs.declared.event.Stored.TheVariants.{Entry}
use Rattle.table_numbered.specs.History.{History, event, HasSize, IsEntry}
use Rattle.table_numbered.specs.Generations.{HasRoom, HasNoRoom}
use Rattle.table_numbered.specs.Generations as generation
use Rattle.table_numbered.proofs.Histories.{size_is}
use Rattle.shared_set.specs.declared.insert.Attempt.{Attempt}
use Rattle.shared_set.specs.declared.insert.Attempt.TheVariants as attempt
use Rattle.shared_set.specs.declared.insert.Inserted.{Inserted}
use Rattle.shared_set.specs.declared.insert.Inserted.TheVariants as inserted
use Rattle.shared_set.specs.Known.{SharedView, KnownView, known_view, Keeps, KnowsMore}
use Rattle.shared_set.specs.Inserting.{IsPlaced, HasBucket, HasNoBucket, Inserts, InsertsHere}
use Rattle.shared_set.proofs.Keeping.{keeps_trans, keeps_longer}

-- a handle that has seen more of its generation knows more
pub knows_longer : {V : Type 0} (g : SharedView) (v : KnownView V) (a b : History (Numbered V)) → known_view g a ≡ v → IsPrefix a b → KnowsMore v (known_view g b)
knows_longer {V} g v a b is on = subst (λ (x : KnownView V). KnowsMore x (known_view g b)) is (refl, keeps_longer a b on)

module _ {V : Type 0} (same : V → V → Bool) where
  -- what was known before is kept to what was known at the insert
  pub placed_after : (k : ℕ) (v : V) (old mid new : History (Numbered V)) → Keeps old mid → IsPlaced same k v mid new → IsPlaced same k v old new
  placed_after k v old mid new kept it = record {
    place = it.place;
    before = it.before;
    keeps = keeps_trans old mid it.before kept it.keeps;
    none = it.none;
    then = it.then;
  }

  -- what was placed is an entry
  pub placed_entry : (k : ℕ) (v : V) (old new : History (Numbered V)) → IsPlaced same k v old new → IsEntry new (numbered k v)
  placed_entry k v old new it =
      let last : IsEntry (it.before ++ event it.place (Some (Entry (numbered k v))) ∷ []) (numbered k v) =
      (it.place, Contains-append_right it.before (event it.place (Some (Entry (numbered k v))) ∷ []) (event it.place (Some (Entry (numbered k v)))) (0, omega arith, refl)) in
      subst (λ (log : History (Numbered V)). IsEntry log (numbered k v)) (sym it.then) last

  -- what a generation says that was placed
  pub placed_here : (hash : V → ℕ) (k : ℕ) (v : V) (old new : History (Numbered V)) → generation.IsPlaced same hash k v old new → IsPlaced same k v old new
  placed_here hash k v old new it = record {
    place = it.place;
    before = it.before;
    keeps = keeps_longer old it.before it.known;
    none = it.none;
    then = it.then;
  }

module _ {V : Type 0} (same : V → V → Bool) (hash : V → ℕ) where
  -- a probe of as many buckets as the history has
  pub bucket_in : (n : ℕ) (v : V) (log : History (Numbered V)) → HasSize n log → HasRoom (same v) n (mark_of (hash v)) log → HasBucket same hash v log
  bucket_in n v log size it = subst (λ (m : ℕ). HasRoom (same v) m (mark_of (hash v)) log) (sym (size_is n log size)) it

  pub no_bucket_in : (n : ℕ) (v : V) (log : History (Numbered V)) → HasSize n log → HasNoRoom (same v) n (mark_of (hash v)) log → HasNoBucket same hash v log
  no_bucket_in n v log size it = subst (λ (m : ℕ). HasNoRoom (same v) m (mark_of (hash v)) log) (sym (size_is n log size)) it

  -- what an insert answers of a value that is the same one, by what was known before
  pub inserts_after : (r : Inserted V) (v w : V) (old mid new : History (Numbered V)) → w ≡ v → Keeps old mid → Inserts same hash w mid new r → Inserts same hash v old new r
  inserts_after (inserted.Placed k e r) v w old mid new is kept told = (told.0 ∙ is, subst (λ (x : V). IsPlaced same k x old new) is (placed_after same k w old mid new kept told.1))
  inserts_after (inserted.Found k e back) v w old mid new is kept told = subst (λ (x : V). Inserts same hash x old new (inserted.Found k e back)) is told
  inserts_after (inserted.Refused back) v w old mid new is kept told = subst (λ (x : V). Inserts same hash x old new (inserted.Refused back)) is told

  pub here_after : (r : Attempt V) (v w : V) (old mid new : History (Numbered V)) → w ≡ v → Keeps old mid → InsertsHere same hash w mid new r → InsertsHere same hash v old new r
  here_after (attempt.Done (inserted.Placed k e r)) v w old mid new is kept told = (told.0 ∙ is, subst (λ (x : V). IsPlaced same k x old new) is (placed_after same k w old mid new kept told.1))
  here_after (attempt.Done (inserted.Found k e back)) v w old mid new is kept told = subst (λ (x : V). InsertsHere same hash x old new (attempt.Done (inserted.Found k e back))) is told
  here_after (attempt.Done (inserted.Refused back)) v w old mid new is kept told = subst (λ (x : V). InsertsHere same hash x old new (attempt.Done (inserted.Refused back))) is told
  here_after (attempt.Full back) v w old mid new is kept told = subst (λ (x : V). InsertsHere same hash x old new (attempt.Full back)) is told

  -- what is done in one generation is done
  pub done_here : (r : Inserted V) (v : V) (old new : History (Numbered V)) → InsertsHere same hash v old new (attempt.Done r) → Inserts same hash v old new r
  done_here (inserted.Placed k e r) v old new told = told
  done_here (inserted.Found k e back) v old new told = told
  done_here (inserted.Refused back) v old new told = (told.0, told.1, inl told.2)
