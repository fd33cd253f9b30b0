-- First capacities as powers of two.
use Rattle.std.proofs.Common.{◌≡◌, ℕ, ◌^◌, ◌<◌, ◌≤◌, arith, refl}
use Rattle.std.proofs.Math.Pow.{pow_mono}
use Rattle.table_terms.specs.Capacities.{IsFirstCapacity}

pub first_from_exponent : (k f : ℕ) → 4 ≤ k → k < 31 → f ≡ 2 ^ k → IsFirstCapacity f
first_from_exponent k f least greatest e =
    let low : 2 ^ 4 ≤ 2 ^ k = pow_mono least in
    let high : 2 ^ k ≤ 2 ^ 30 = pow_mono {j = 30} (omega arith) in
    ((k, e), omega arith, omega arith)

pub sixteen_is_first : IsFirstCapacity 16
sixteen_is_first = first_from_exponent 4 16 (omega arith) (omega arith) refl
