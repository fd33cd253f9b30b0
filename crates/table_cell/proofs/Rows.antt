-- Marks beside words, bucket by bucket.
use Rattle.std.proofs.Common.{◌≡◌, ◌≢◌, ℕ, zero, suc, Some, sym, ◌<◌, List, [], ◌∷◌, length, refl, ap, ◌∙◌, arith, replicate, slice_index_or}
use Rattle.std.specs.Prelude.{All, map, slice_set}
use Rattle.std.proofs.lemmas.List.{get_or-map}
use Rattle.std.proofs.lemmas.List.Elements.{All-head, All-tail, All-get_or}
use Rattle.table_cell.specs.Words.{WordView}
use Rattle.table_cell.specs.Contents.{vacant, IsMarked, content_of, bucket_of}
use Rattle.table_cell.specs.Rows.{RowView, content_at, contents_of, AreMarked, WordLies, bucket_at, row_of, IsRow}
use Rattle.table_cell.specs.declared.bucket.Entry.{Entry}
use Rattle.table_cell.specs.declared.bucket.Mark.{Mark}
use Rattle.table_cell.specs.declared.bucket.Mark.TheVariants.{Unmarked, Own, Named}

module _ {A T : Type 0} where
  -- there are as many buckets as marks
  pub length-marks : (ms : List Mark) (ws : List (WordView A (Entry T))) → AreMarked ms ws → length (contents_of ms ws) ≡ length ms
  length-marks [] [] are = refl
  length-marks [] (w ∷ ws) are = absurd are
  length-marks (m ∷ ms) [] are = absurd are
  length-marks (m ∷ ms) (w ∷ ws) are = ap suc (length-marks ms ws are.1)

  -- and as many as words
  pub length-words : (ms : List Mark) (ws : List (WordView A (Entry T))) → AreMarked ms ws → length (contents_of ms ws) ≡ length ws
  length-words [] [] are = refl
  length-words [] (w ∷ ws) are = absurd are
  length-words (m ∷ ms) [] are = absurd are
  length-words (m ∷ ms) (w ∷ ws) are = ap suc (length-words ms ws are.1)

  -- an index of a row is one of its marks
  pub within_marks : {from : A} {home : ℕ} {ms : List Mark} {ws : List (WordView A (Entry T))} {r : RowView A T} (i : ℕ) → IsRow from home ms ws → row_of from home ms ws ≡ r → i < length r.contents → i < length ms
  within_marks {ms = ms} {ws = ws} i row is within = rw (← is, length-marks ms ws row.marked) at within

  -- and one of its words
  pub within_words : {from : A} {home : ℕ} {ms : List Mark} {ws : List (WordView A (Entry T))} {r : RowView A T} (i : ℕ) → IsRow from home ms ws → row_of from home ms ws ≡ r → i < length r.contents → i < length ws
  within_words {ms = ms} {ws = ws} i row is within = rw (← is, length-words ms ws row.marked) at within

  -- the mark and the word at an index agree
  pub marked_at : (ms : List Mark) (ws : List (WordView A (Entry T))) (i : ℕ) (m : Mark) (w : WordView A (Entry T)) → AreMarked ms ws → i < length ms
      → m ≡ slice_index_or ms i m → w ≡ slice_index_or ws i w → IsMarked m w
  marked_at [] ws i m w are lt is at = absurd (omega arith)
  marked_at (n ∷ ms) [] i m w are lt is at = absurd are
  marked_at (n ∷ ms) (v ∷ ws) zero m w are lt is at = rw (is, at) are.0
  marked_at (n ∷ ms) (v ∷ ws) (suc i) m w are lt is at = marked_at ms ws i m w are.1 (omega arith) is at

  -- and they say what the bucket there holds
  content_read : (ms : List Mark) (ws : List (WordView A (Entry T))) (i : ℕ) (m : Mark) (w : WordView A (Entry T)) → AreMarked ms ws → i < length ms
      → m ≡ slice_index_or ms i m → w ≡ slice_index_or ws i w → content_of m w.value ≡ content_at (contents_of ms ws) i
  content_read [] ws i m w are lt is at = absurd (omega arith)
  content_read (n ∷ ms) [] i m w are lt is at = absurd are
  content_read (n ∷ ms) (v ∷ ws) zero m w are lt is at = rw (is, at) refl
  content_read (n ∷ ms) (v ∷ ws) (suc i) m w are lt is at = content_read ms ws i m w are.1 (omega arith) is at

  -- where a mark and a word that agree are set, all agree
  pub marked_set : (ms : List Mark) (ws : List (WordView A (Entry T))) (i : ℕ) (m : Mark) (w : WordView A (Entry T)) → AreMarked ms ws → IsMarked m w
      → AreMarked (slice_set ms i m) (slice_set ws i w)
  marked_set [] [] i m w are is = tt
  marked_set [] (v ∷ ws) i m w are is = absurd are
  marked_set (n ∷ ms) [] i m w are is = absurd are
  marked_set (n ∷ ms) (v ∷ ws) zero m w are is = (is, are.1)
  marked_set (n ∷ ms) (v ∷ ws) (suc i) m w are is = (are.0, marked_set ms ws i m w are.1 is)

  -- and one bucket holds something else
  pub content_set : (ms : List Mark) (ws : List (WordView A (Entry T))) (i : ℕ) (m : Mark) (w : WordView A (Entry T)) → AreMarked ms ws
      → contents_of (slice_set ms i m) (slice_set ws i w) ≡ slice_set (contents_of ms ws) i (content_of m w.value)
  content_set [] [] i m w are = refl
  content_set [] (v ∷ ws) i m w are = absurd are
  content_set (n ∷ ms) [] i m w are = absurd are
  content_set (n ∷ ms) (v ∷ ws) zero m w are = refl
  content_set (n ∷ ms) (v ∷ ws) (suc i) m w are = ap (λ ps. content_of n v.value ∷ ps) (content_set ms ws i m w are.1)

  -- marks of vacant buckets agree with words that are null
  pub marked-vacant : (n : ℕ) (ws : List (WordView A (Entry T))) → length ws ≡ n → All (IsMarked Unmarked) ws → AreMarked (replicate n Unmarked) ws
  marked-vacant zero [] long all = tt
  marked-vacant zero (w ∷ ws) long all = absurd (omega arith)
  marked-vacant (suc n) [] long all = absurd (omega arith)
  marked-vacant (suc n) (w ∷ ws) long all = (All-head (IsMarked Unmarked) w ws all, marked-vacant n ws (omega arith) (All-tail (IsMarked Unmarked) w ws all))

  -- and such buckets are vacant
  pub contents-vacant : (n : ℕ) (ws : List (WordView A (Entry T))) → length ws ≡ n → contents_of (replicate n Unmarked) ws ≡ replicate n vacant
  contents-vacant zero ws long = refl
  contents-vacant (suc n) [] long = absurd (omega arith)
  contents-vacant (suc n) (w ∷ ws) long = ap (λ ps. vacant ∷ ps) (contents-vacant n ws (omega arith))

  -- a word of a row is of the row's home and allocator
  lies_read : (ws : List (WordView A (Entry T))) (i : ℕ) (w : WordView A (Entry T)) (home : ℕ) (from : A) → i < length ws → w ≡ slice_index_or ws i w
      → All (WordLies home from) ws → WordLies home from w
  lies_read ws i w home from lt e all = rw e (All-get_or (WordLies home from) ws i w lt all)

  -- the mark and the word at an index of a row are its bucket there
  pub bucket_is : (ms : List Mark) (ws : List (WordView A (Entry T))) (i : ℕ) (m : Mark) (w : WordView A (Entry T)) (home : ℕ) (from : A) → AreMarked ms ws → i < length ms → i < length ws
      → m ≡ slice_index_or ms i m → w ≡ slice_index_or ws i w → All (WordLies home from) ws → bucket_of m w ≡ bucket_at (row_of from home ms ws) i
  bucket_is ms ws i m w home from are low lt is at all =
      let lies = lies_read ws i w home from lt at all in
      let named : slice_index_or (map (λ (v : WordView A (Entry T)). v.id) ws) i 0 ≡ w.id = get_or-map (λ (v : WordView A (Entry T)). v.id) ws i w 0 lt ∙ ap (λ v. v.id) (sym at) in
      rw (lies.0, lies.1, named, ← content_read ms ws i m w are low is at) refl

  -- where the mark says so, the bucket is vacant
  pub vacant_shows : (ms : List Mark) (ws : List (WordView A (Entry T))) (i : ℕ) (m : Mark) → AreMarked ms ws → i < length ms → m ≡ slice_index_or ms i m → m ≡ Unmarked
      → content_at (contents_of ms ws) i ≡ vacant
  vacant_shows [] ws i m are lt is null = absurd (omega arith)
  vacant_shows (n ∷ ms) [] i m are lt is null = absurd are
  vacant_shows (n ∷ ms) (v ∷ ws) zero m are lt is null = ap (λ k. content_of k v.value) (sym is ∙ null)
  vacant_shows (n ∷ ms) (v ∷ ws) (suc i) m are lt is null = vacant_shows ms ws i m are.1 (omega arith) is null

  -- where it says something else, the bucket is set
  set_holds : (m : Mark) (w : WordView A (Entry T)) → IsMarked m w → m ≢ Unmarked → content_of m w.value ≢ vacant
  set_holds Unmarked w marked set = absurd (set refl)
  set_holds (Own bits) w (own, e, is, same) set = λ none. (let held : content_of (Own bits) (Some e) ≡ vacant = rw is at none in cc)
  set_holds (Named bits) w (named, e, is, same) set = λ none. (let held : content_of (Named bits) (Some e) ≡ vacant = rw is at none in cc)

  pub set_shows : (ms : List Mark) (ws : List (WordView A (Entry T))) (i : ℕ) (m : Mark) → AreMarked ms ws → i < length ms → m ≡ slice_index_or ms i m → m ≢ Unmarked
      → content_at (contents_of ms ws) i ≢ vacant
  set_shows [] ws i m are lt is set = absurd (omega arith)
  set_shows (n ∷ ms) [] i m are lt is set = absurd are
  set_shows (n ∷ ms) (v ∷ ws) zero m are lt is set = set_holds n v are.0 (λ null. set (is ∙ null))
  set_shows (n ∷ ms) (v ∷ ws) (suc i) m are lt is set = set_shows ms ws i m are.1 (omega arith) is set
