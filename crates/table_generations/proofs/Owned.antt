-- What buckets own.
use Rattle.std.proofs.Common.{◌≡◌, ℕ, suc, ◌+◌, ◌<◌, ◌++◌, List, [], ◌∷◌, length, take, ap, refl}
use Rattle.std.specs.Prelude.{All}
use Rattle.std.proofs.lemmas.List.{length-append, map-append, take_more}
use Rattle.std.proofs.lemmas.List.Elements.{All-head, All-tail}
use Rattle.table_cell.specs.Contents.{NamesNone}
use Rattle.table_generations.specs.Buckets.{Content, vacant, own, named, shown_entries, owned_values, content_at}
use Rattle.table_generations.proofs.Entries.{values-append}

module _ {T : Type 0} where
  -- buckets that name nothing own what they show
  pub owned_as_shown : (ps : List (Content T)) → All NamesNone ps → length (shown_entries ps) ≡ length (owned_values ps)
  owned_as_shown [] none = refl
  owned_as_shown (vacant ∷ ps) none = owned_as_shown ps (All-tail NamesNone vacant ps none)
  owned_as_shown (own e ∷ ps) none = ap suc (owned_as_shown ps (All-tail NamesNone (own e) ps none))
  owned_as_shown (named e ∷ ps) none = absurd (All-head NamesNone (named e) ps none)

  -- one bucket more is counted
  pub count_more : (ps : List (Content T)) (i : ℕ) → i < length ps
      → length (shown_entries (take (i + 1) ps)) ≡ length (shown_entries (take i ps)) + length (shown_entries (content_at ps i ∷ []))
  count_more ps i lt =
      let more : take (i + 1) ps ≡ take i ps ++ content_at ps i ∷ [] = take_more ps i vacant lt in
      rw (more, map-append, values-append) (length-append (shown_entries (take i ps)) (shown_entries (content_at ps i ∷ [])))
