-- Lists up to order.
use Rattle.std.specs.Prelude.{ℕ, ◌≡◌, List, sum_by}

-- two lists have the same values, each as often: their sums are the same, whatever each value
-- counts
abbrev pub SameBag : List ℕ → List ℕ → Type 0
SameBag xs ys = (h : ℕ → ℕ) → sum_by h xs ≡ sum_by h ys
