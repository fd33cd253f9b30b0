-- What two seats know once they have met.
use Rattle.std.proofs.Common.{◌≡◌, ◌≢◌, ℕ, List, ◌++◌, refl}
use Rattle.std.specs.Prelude.{Contains}
use Rattle.std.proofs.lemmas.List.Elements.{Contains-append_left, Contains-append_right, Contains-push}
use Rattle.seated.specs.Numbers.{Knows, Within, Disjoint, Inserts}
use Rattle.seated.specs.declared.seat.NumberAnswer.{NumberAnswer}
use Rattle.seated.specs.declared.seat.NumberAnswer.TheVariants.{Placed, Found, Full}

module _ (n x : ℕ) (known known' : List (ℕ × ℕ)) (own own' : List ℕ) where
  -- an insert that wasn't refused is known of
  pub told_known : (answer : NumberAnswer) → Inserts n x known own answer known' own' → answer ≢ Full → Knows known' x
  told_known Placed told not_full = told.1
  told_known Found told not_full = told.1
  told_known Full told not_full = absurd (not_full refl)

  pub placed_owns : (answer : NumberAnswer) → Inserts n x known own answer known' own' → answer ≡ Placed → Contains own' x
  placed_owns answer told is =
      let placed : Inserts n x known own Placed known' own' = rw is at told in
      rw placed.0 (Contains-push own x)

module _ (ps qs rs : List (ℕ × ℕ)) (x : ℕ) (met : Within (ps ++ qs) rs) where
  pub from_first : Knows ps x → Knows rs x
  from_first (p, among) = (p, met p x (Contains-append_left ps qs (p, x) among))

  pub from_second : Knows qs x → Knows rs x
  from_second (p, among) = (p, met p x (Contains-append_right ps qs (p, x) among))

-- what one seat owns no other does
pub owned_once : (xs ys xs' ys' : List ℕ) (x y : ℕ) → xs' ≡ xs → ys' ≡ ys → Disjoint xs' ys' → x ≡ y → Contains xs x → ¬ Contains ys y
owned_once xs ys xs' ys' x y xs_is ys_is apart is first second =
    apart x (rw xs_is first) (rw (ys_is, is) second)
