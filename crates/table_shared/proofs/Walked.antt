-- The entries that a walk has left, bucket by bucket.
use Rattle.std.proofs.Common.{◌≡◌, ◌∙◌, ◌⊎◌, inl, inr, ℕ, ◌-◌, ◌<◌, ◌≤◌, List, ◌∷◌, length, suc, drop, ap, refl, sym, arith}
use Rattle.std.proofs.Math.Seq.{drop-cons}
use Rattle.std.specs.Prelude.{Option, Some}
use Rattle.table_cell.specs.declared.bucket.Entry.{Entry}
use Rattle.table_generations.specs.Buckets.{Content, vacant, own, named, content_at, shown_entries, values_of}
use Rattle.table_generations.specs.Looks.{IsSeen}
use Rattle.table_shared.specs.Walks.{last_shown}
use Rattle.table_shared.proofs.Looked.{some_same}

module _ {T : Type 0} where
  -- a bucket that was found to show an entry was set to it alone, or to nothing alone
  entry_adds : (c : Content T) (rest : List (Content T)) (old new : Option (Entry T)) (e : Entry T) → IsSeen c old new (λ o. Some e ≡ o)
      → (values_of (shown_entries rest) ≡ values_of (shown_entries (c ∷ rest))) ⊎ (values_of (shown_entries (c ∷ rest)) ≡ e.value ∷ values_of (shown_entries rest))
  entry_adds vacant rest old new e saw = inl refl
  entry_adds (own x) rest old new e saw = inr (ap (λ (y : Entry T). y.value ∷ values_of (shown_entries rest)) (sym (some_same e x saw.alone.0)))
  entry_adds (named x) rest old new e saw = inr (ap (λ (y : Entry T). y.value ∷ values_of (shown_entries rest)) (sym (some_same e x saw.alone.0)))

  module _ (ps : List (Content T)) (left : ℕ) (some : 0 < left) (fits : left ≤ length ps) where
    -- the bucket that comes next, and those behind it
    next_is : drop (length ps - left) ps ≡ content_at ps (length ps - left) ∷ drop (length ps - (left - 1)) ps
    next_is =
        let behind : suc (length ps - left) ≡ length ps - (left - 1) = omega arith in
        drop-cons ps (length ps - left) vacant (omega arith) ∙ ap (λ (k : ℕ). content_at ps (length ps - left) ∷ drop k ps) behind

    -- a walk that found an entry in the next bucket shows the next of those set alone, or another
    pub showed_entry : (old new : Option (Entry T)) (e : Entry T) → IsSeen (content_at ps (length ps - left)) old new (λ o. Some e ≡ o)
        → (last_shown ps (left - 1) ≡ last_shown ps left) ⊎ (last_shown ps left ≡ e.value ∷ last_shown ps (left - 1))
    showed_entry old new e saw = rw next_is (entry_adds (content_at ps (length ps - left)) (drop (length ps - (left - 1)) ps) old new e saw)
