-- What publishing a block leads to.
use Rattle.std.specs.Prelude.{ℕ, Option}

-- the `Latest` that was told, and that a block was published there; the word through which it was, what that word holds, and the
-- block that was given back
pub record PublishedView (X : Type 0) : Type 0 where
  pub latest : ℕ
  pub since : Option (Unit {0})
  pub word : ℕ
  pub holds : Option X
  pub back : Option X

abbrev pub published_of : {X : Type 0} → ℕ → Option (Unit {0}) → ℕ → Option X → Option X → PublishedView X
published_of i since word holds back = record { latest = i; since = since; word = word; holds = holds; back = back }
