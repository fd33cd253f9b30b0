-- What is read into a window of buckets one after another, before any of it is used.
use Rattle.std.proofs.Common.{◌≡◌, ◌∙◌, ◌≢◌, ℕ, zero, suc, ◌+◌, ◌<◌, ◌≤◌, inl, inr, List, None, length, sym, arith, get_or-set_other}
use Rattle.std.specs.Prelude.{slice_index_or, slice_set}
use Rattle.std.proofs.lemmas.Bool.{cases_eq}
use Rattle.std.proofs.lemmas.Grind.{get_or-set_at}
use Rattle.table_generations.specs.Buckets.{Content, content_at, shown}
use Rattle.table_generations.specs.Windows.{NoneShown, AreReadFrom}

module _ {T : Type 0} (ps : List (Content T)) where
  -- where none was shown so far, and the next bucket shows none either
  pub none_on : (i k : ℕ) → shown (content_at ps k) ≡ None → NoneShown ps i k → NoneShown ps i (k + 1)
  none_on i k none so j from to = elim (cases_eq j k) [
    | inl same ↦ rw same none
    | inr other ↦ so j from (omega arith)
  ]

  module _ {X : Type 0} (of : ℕ → X → Type 0) where
    -- what was read of the next bucket is put into the place after those that are taken
    pub one_more : (p n k b place : ℕ) (x : X) (window : List X) → place ≡ k + n → place < length window → of b x
        → AreReadFrom ps of b p n k window → AreReadFrom ps of (b + 1) p (suc n) k (slice_set window place x)
    one_more p zero k b place x window is within here (on, none) = (
      b,
      x,
      λ d. get_or-set_at window place k x d (omega arith) within,
      on,
      none,
      here,
      omega arith,
      (omega arith, λ j from to. absurd (let bad : ⊥ = omega arith in bad)),
    )
    one_more p (suc n) k b place x window is within here (i, first, at, on, none, so, below, rest) = (
      i,
      first,
      λ d. (let other : k ≢ place = λ eq. (let bad : ⊥ = omega arith in bad) in get_or-set_other window place k x d other ∙ at d),
      on,
      none,
      so,
      omega arith,
      one_more (i + 1) n (k + 1) b place x window (omega arith) within here rest,
    )

    -- the next bucket showed none, and no place is taken for it
    pub none_more : (p n k b : ℕ) (window : List X) → shown (content_at ps b) ≡ None
        → AreReadFrom ps of b p n k window → AreReadFrom ps of (b + 1) p n k window
    none_more p zero k b window here (on, none) = (omega arith, none_on p b here none)
    none_more p (suc n) k b window here (i, first, at, on, none, so, below, rest) =
        (i, first, at, on, none, so, omega arith, none_more (i + 1) n (k + 1) b window here rest)

    -- what the first of the places holds was read of a bucket, and what the others hold of those after it
    pub first_read : (end p m n k : ℕ) (window : List X) (x d : X) → m ≡ suc n → slice_index_or window k d ≡ x
        → AreReadFrom ps of end p m k window
        → (i : ℕ) × (p ≤ i) × NoneShown ps p i × of i x × (i < end) × AreReadFrom ps of end (i + 1) n (k + 1) window
    first_read end p zero n k window x d is there so = absurd (omega arith)
    first_read end p (suc m) n k window x d is there (i, y, at, on, none, here, below, rest) =
        let same : y ≡ x = sym (at d) ∙ there in
        let left : m ≡ n = omega arith in
        (i, on, none, rw same at here, below, rw left at rest)

    -- the places after one that is written are as they were
    pub one_taken : (end p n k place : ℕ) (left : X) (window : List X) → place < k
        → AreReadFrom ps of end p n k window → AreReadFrom ps of end p n k (slice_set window place left)
    one_taken end p zero k place left window before so = so
    one_taken end p (suc n) k place left window before (i, x, at, on, none, so, below, rest) = (
      i,
      x,
      λ d. (let other : k ≢ place = λ eq. (let bad : ⊥ = omega arith in bad) in get_or-set_other window place k left d other ∙ at d),
      on,
      none,
      so,
      below,
      one_taken end (i + 1) n (k + 1) place left window (omega arith) rest,
    )
