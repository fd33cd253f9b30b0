-- Generations that are settled, one after the other, and counted.
use Rattle.std.proofs.Common.{◌≡◌, ℕ, ◌+◌, ◌<◌, ◌≤◌, ◌++◌, List, [], ◌∷◌, length, take, inl, inr, refl, sym, ap, ◌∙◌, arith, get_or-set_other, get_or-set_same, append-nil}
use Rattle.std.specs.Prelude.{All, map, slice_index_or}
use Rattle.std.specs.declared.boxed.Box.{Box}
use Rattle.std.proofs.lemmas.Bool.{cases_eq}
use Rattle.std.proofs.lemmas.List.{length-append, length-set, take_more}
use Rattle.std.proofs.lemmas.List.Elements.{All-nil, All-cons, All-head, All-tail, All-append}
use Rattle.std.proofs.lemmas.Grind.{flat_map-append}
use Rattle.table_generations.specs.Buckets.{owned_values}
use Rattle.table_generations.specs.Generations.{GenerationView}
use Rattle.table_generations.specs.Values.{all_owned, with_later}
use Rattle.table_shared.specs.Settled.{IsSettled, SettlesAt, AreSettledBelow}

module _ {A T : Type 0} (home : ℕ) where
  pub none_settled : (old_home : ℕ) (gs : List (GenerationView A T)) → All (λ g. g.home ≡ old_home) gs → AreSettledBelow home old_home 0 gs
  none_settled old_home gs all = record { settled = λ k d lt. absurd (omega arith); left = λ k d le lt. all k d lt }

  -- one generation more is settled
  pub one_settled : (old_home i : ℕ) (gs new : List (GenerationView A T)) → i < length gs → AreSettledBelow home old_home i gs → SettlesAt home i gs new → AreSettledBelow home old_home (i + 1) new
  one_settled old_home i gs new lt below at = rw at.set (record {
    settled = λ k d less within. elim (cases_eq k i) [
      | inl e ↦ rw (e, get_or-set_same gs i at.generation d lt) at.settled
      | inr ne ↦ rw (get_or-set_other gs i k at.generation d ne) (below.settled k d (omega (arith, ne)) (rw length-set at within))
    ];
    left = λ k d le within. rw (get_or-set_other gs i k at.generation d (λ e. absurd (omega (arith, e)))) (below.left k d (omega arith) (rw length-set at within));
  })

  blocks_of_home : (blocks : List (Box (GenerationView A T) A)) → All (λ b. IsSettled home b.value) blocks → All (λ g. g.home ≡ home) (map (λ b. b.value) blocks)
  blocks_of_home [] all = All-nil (λ g. g.home ≡ home)
  blocks_of_home (b ∷ bs) all = All-cons (λ g. g.home ≡ home) b.value (map (λ b. b.value) bs) (All-head (λ b. IsSettled home b.value) b bs all).home_is (blocks_of_home bs (All-tail (λ b. IsSettled home b.value) b bs all))

  -- settled generations are of the home
  pub all_of_home : (gs : List (GenerationView A T)) (blocks : List (Box (GenerationView A T) A)) → All (IsSettled home) gs → All (λ b. IsSettled home b.value) blocks → All (λ g. g.home ≡ home) (with_later gs blocks)
  all_of_home gs blocks all others = All-append (λ g. g.home ≡ home) gs (map (λ b. b.value) blocks) (λ k d lt. (all k d lt).home_is) (blocks_of_home blocks others)

  pub all_settled : (old_home i : ℕ) (gs : List (GenerationView A T)) → length gs ≤ i → AreSettledBelow home old_home i gs → All (IsSettled home) gs
  all_settled old_home i gs whole below k d lt = below.settled k d (omega arith) lt

module _ {A T : Type 0} where
  -- one generation more is counted
  pub owned_more : (gs : List (GenerationView A T)) (i : ℕ) (g : GenerationView A T) → i < length gs → g ≡ slice_index_or gs i g → length (all_owned (take (i + 1) gs)) ≡ length (all_owned (take i gs)) + length (owned_values g.contents)
  owned_more gs i g lt read =
      let more : take (i + 1) gs ≡ take i gs ++ g ∷ [] = take_more gs i g lt ∙ ap (λ x. take i gs ++ x ∷ []) (sym read) in
      rw (more, flat_map-append) (length-append (all_owned (take i gs)) (owned_values g.contents ++ []) ∙ rw (append-nil (owned_values g.contents)) refl)
