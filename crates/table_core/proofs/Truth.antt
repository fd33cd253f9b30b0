-- Truth values beside a negation.
use Rattle.std.proofs.Common.{◌≡◌, Bool, true, false, refl}
use Rattle.std.specs.Prelude.{◌&&◌, not}

pub not_both_ways : (b : Bool) → not b ≡ true → b ≡ true → ⊥
not_both_ways true h k = cc
not_both_ways false h k = cc

pub and-not : (a b : Bool) → (a && not b) ≡ true → (a && b) ≡ false
and-not true true h = absurd (cc)
and-not true false h = refl
and-not false b h = refl

pub not-and : (a b : Bool) → not a ≡ true → (a && b) ≡ false
not-and true b h = absurd (cc)
not-and false b h = refl
