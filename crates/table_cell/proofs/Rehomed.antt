-- Buckets that are moved to another home, one after the other.
use Rattle.std.proofs.Common.{◌≡◌, ℕ, zero, suc, ◌+◌, ◌<◌, List, [], ◌∷◌, length, inl, inr, refl, ap, subst, ◌∙◌, arith, get_or-set_other, get_or-set_same}
use Rattle.std.specs.Prelude.{All, slice_index_or, slice_set, map}
use Rattle.std.proofs.lemmas.Bool.{cases_eq}
use Rattle.std.proofs.lemmas.List.{length-map, length-set, get_or-map, get_or_default}
use Rattle.std.proofs.lemmas.List.Elements.{All-head, All-tail}
use Rattle.table_cell.specs.Contents.{BucketView, bucket, Lies, KeepsOwn, NamesNone}
use Rattle.table_cell.specs.Contents.{Content, vacant, bucket_of}
use Rattle.table_cell.specs.Words.{WordView}
use Rattle.table_cell.specs.Rows.{contents_of, buckets_of, AreMarked, WordLies}
use Rattle.table_cell.specs.Rehomed.{AreRehomed, RehomesAt, AreMovedBelow}
use Rattle.table_cell.specs.declared.bucket.Entry.{Entry}
use Rattle.table_cell.specs.declared.bucket.Mark.{Mark}

module _ {A T : Type 0} where
  -- what a bucket holds
  abbrev pub content : BucketView A T → Content T
  content b = b.content

  -- what buckets hold is what their marks and words say
  pub contents-buckets : (ms : List Mark) (ws : List (WordView A (Entry T))) → map content (buckets_of ms ws) ≡ contents_of ms ws
  contents-buckets [] ws = refl
  contents-buckets (m ∷ ms) [] = refl
  contents-buckets (m ∷ ms) (w ∷ ws) = ap (λ ps. content (bucket_of m w) ∷ ps) (contents-buckets ms ws)

  -- where a mark and its word are set, a bucket is
  pub bucket_set : (ms : List Mark) (ws : List (WordView A (Entry T))) (i : ℕ) (m : Mark) (w : WordView A (Entry T)) → AreMarked ms ws
      → buckets_of (slice_set ms i m) (slice_set ws i w) ≡ slice_set (buckets_of ms ws) i (bucket_of m w)
  bucket_set [] [] i m w are = refl
  bucket_set [] (v ∷ ws) i m w are = absurd are
  bucket_set (n ∷ ms) [] i m w are = absurd are
  bucket_set (n ∷ ms) (v ∷ ws) zero m w are = refl
  bucket_set (n ∷ ms) (v ∷ ws) (suc i) m w are = ap (λ bs. bucket_of n v ∷ bs) (bucket_set ms ws i m w are.1)

  -- the mark and the word at an index are the bucket there
  pub bucket_read : (ms : List Mark) (ws : List (WordView A (Entry T))) (i : ℕ) (m : Mark) (w : WordView A (Entry T)) → AreMarked ms ws → i < length ms
      → m ≡ slice_index_or ms i m → w ≡ slice_index_or ws i w → bucket_of m w ≡ slice_index_or (buckets_of ms ws) i (bucket_of m w)
  bucket_read [] ws i m w are lt is at = absurd (omega arith)
  bucket_read (n ∷ ms) [] i m w are lt is at = absurd are
  bucket_read (n ∷ ms) (v ∷ ws) zero m w are lt is at = rw (← is, ← at) refl
  bucket_read (n ∷ ms) (v ∷ ws) (suc i) m w are lt is at = bucket_read ms ws i m w are.1 (omega arith) is at

  -- there are as many buckets as marks
  pub length-buckets : (ms : List Mark) (ws : List (WordView A (Entry T))) → AreMarked ms ws → length (buckets_of ms ws) ≡ length ms
  length-buckets [] [] are = refl
  length-buckets [] (w ∷ ws) are = absurd are
  length-buckets (m ∷ ms) [] are = absurd are
  length-buckets (m ∷ ms) (w ∷ ws) are = ap suc (length-buckets ms ws are.1)

  -- where each bucket is of a home, each word is
  pub words_lie : (home : ℕ) (from : A) (ms : List Mark) (ws : List (WordView A (Entry T))) → AreMarked ms ws → All (Lies home from) (buckets_of ms ws) → All (WordLies home from) ws
  words_lie home from [] [] are lie k d lt = absurd (omega arith)
  words_lie home from [] (w ∷ ws) are lie k d lt = absurd are
  words_lie home from (m ∷ ms) [] are lie k d lt = absurd are
  words_lie home from (m ∷ ms) (w ∷ ws) are lie zero d lt = All-head (Lies home from) (bucket_of m w) (buckets_of ms ws) lie
  words_lie home from (m ∷ ms) (w ∷ ws) are lie (suc k) d lt = words_lie home from ms ws are.1 (All-tail (Lies home from) (bucket_of m w) (buckets_of ms ws) lie) k d (omega arith)

  -- where each word of a row is of a home, each bucket is
  pub buckets_lie : (home : ℕ) (from : A) (ms : List Mark) (ws : List (WordView A (Entry T))) → AreMarked ms ws → All (WordLies home from) ws → All (Lies home from) (buckets_of ms ws)
  buckets_lie home from [] [] are lie k d lt = absurd (omega arith)
  buckets_lie home from [] (w ∷ ws) are lie k d lt = absurd are
  buckets_lie home from (m ∷ ms) [] are lie k d lt = absurd are
  buckets_lie home from (m ∷ ms) (w ∷ ws) are lie zero d lt = All-head (WordLies home from) w ws lie
  buckets_lie home from (m ∷ ms) (w ∷ ws) are lie (suc k) d lt = buckets_lie home from ms ws are.1 (All-tail (WordLies home from) w ws lie) k d (omega arith)

module _ {A T : Type 0} (home : ℕ) (from : A) where
  pub rehomes_at : (i : ℕ) (bs : List (BucketView A T)) (was b : BucketView A T) → i < length bs → was ≡ slice_index_or bs i was → Lies home from b → KeepsOwn was.content b.content → NamesNone b.content
      → RehomesAt home from i bs (slice_set bs i b)
  rehomes_at i bs was b lt read lies keeps unnamed = record {
    bucket = b;
    set = refl;
    moved = record { lies = lies; own = subst (λ (x : BucketView A T). KeepsOwn x.content b.content) (read ∙ get_or_default bs i was b lt) keeps; unnamed = unnamed };
  }

  pub none_moved : (bs : List (BucketView A T)) → AreMovedBelow home from 0 bs bs
  none_moved bs = record { long = refl; moved = λ k d lt. absurd (omega arith); left = λ k d le. refl }

  -- one bucket more is moved
  pub one_moved : (i : ℕ) (was bs new : List (BucketView A T)) → i < length was → AreMovedBelow home from i was bs → RehomesAt home from i bs new → AreMovedBelow home from (i + 1) was new
  one_moved i was bs new lt below at = rw at.set (record {
    long = length-set bs i at.bucket ∙ below.long;
    moved = λ k d less within. elim (cases_eq k i) [
      | inl e ↦ (let here : i < length bs = omega (arith, below.long) in rw e (rw (get_or-set_same bs i at.bucket d here, ← below.left i d (omega arith), get_or_default bs i d at.bucket here) at.moved))
      | inr ne ↦ rw (get_or-set_other bs i k at.bucket d ne) (below.moved k d (omega (arith, ne)) within)
    ];
    left = λ k d le. get_or-set_other bs i k at.bucket d (λ e. absurd (omega (arith, e))) ∙ below.left k d (omega arith);
  })

  -- where each bucket was moved, all of them are of the other home
  pub all_lie : (was new : List (BucketView A T)) → AreMovedBelow home from (length was) was new → All (Lies home from) new
  all_lie was new below k d lt = let within : k < length was = omega (arith, below.long) in (below.moved k d within within).lies

  pub all_unnamed : (was new : List (BucketView A T)) → AreMovedBelow home from (length was) was new → All NamesNone (map content new)
  all_unnamed was new below k c lt =
      let within : k < length new = rw (← length-map new content) lt in
      let d : BucketView A T = bucket from home c in
      let inside : k < length was = omega (arith, below.long, within) in
      rw (get_or-map content new k d c within) (below.moved k d inside inside).unnamed

  pub all_keep : (was new : List (BucketView A T)) → AreMovedBelow home from (length was) was new → AreRehomed (map content was) (map content new)
  all_keep was new below = record {
    long = rw (length-map, length-map) below.long;
    each = λ k lt. (
        let within : k < length was = rw (← length-map was content) lt in
        let d : BucketView A T = bucket from home vacant in
        let inside : k < length new = omega (arith, below.long, within) in
        rw (get_or-map content was k d vacant within, get_or-map content new k d vacant inside) (below.moved k d within within).own);
  }
