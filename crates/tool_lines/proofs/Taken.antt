-- How lines that are taken follow one another.
use Rattle.std.proofs.Common.{◌≡◌, ℕ, ◌++◌, List, [], Option, Some, None, ◌∙◌, append_assoc, append-nil}
use Rattle.std.specs.Prelude.{IfSome}
use Rattle.std.specs.Io.KnownBytes.{Appends, Keeps}
use Rattle.tool_lines.specs.Taken.{TakesLines}

-- what grew and was then kept
Keeps_after_Appends : (a b c : Option (List ℕ)) (bytes : List ℕ) → Appends a b bytes → Keeps b c → Appends a c bytes
Keeps_after_Appends None b c bytes grown kept = tt
Keeps_after_Appends (Some x) None c bytes grown kept = absurd grown
Keeps_after_Appends (Some x) (Some y) None bytes grown kept = absurd kept
Keeps_after_Appends (Some x) (Some y) (Some z) bytes grown kept = kept ∙ grown

module _ {X : Type 0} (has_taken : X → List (List ℕ) → Type 0) (written : List (List ℕ) → List ℕ) where
  -- no line is taken
  pub takes_none : (t : X) (now : Option (List ℕ)) → TakesLines has_taken written t [] t now now
  takes_none t now lines start taken grown = (rw append-nil taken, rw append-nil grown)

  -- the output is flushed behind the lines
  pub takes_kept : (old new : X) (more : List (List ℕ)) (before after flushed : Option (List ℕ)) → TakesLines has_taken written old more new before after → Keeps after flushed
      → TakesLines has_taken written old more new before flushed
  takes_kept old new more before after flushed takes kept lines start taken grown =
      let told = takes lines start taken grown in
      (told.0, Keeps_after_Appends _ _ _ _ told.1 kept)

  -- lines are taken behind others
  pub takes_more : (old between new : X) (done more : List (List ℕ)) (before middle after : Option (List ℕ)) → TakesLines has_taken written old done between before middle
      → TakesLines has_taken written between more new middle after → TakesLines has_taken written old (done ++ more) new before after
  takes_more old between new done more before middle after first second lines start taken grown =
      let told = first lines start taken grown in
      rw append_assoc at (second (lines ++ done) start told.0 told.1)

  -- these lines are those of texts that are known
  pub takes_all : {K : Type 0} (lines_of : K → List (List ℕ)) (known : Option K) (old new : X) (more : List (List ℕ)) (before after : Option (List ℕ))
      → IfSome known (λ k. lines_of k ≡ more) → TakesLines has_taken written old more new before after → IfSome known (λ k. TakesLines has_taken written old (lines_of k) new before after)
  takes_all lines_of None old new more before after is takes = tt
  takes_all lines_of (Some k) old new more before after is takes = rw is takes
