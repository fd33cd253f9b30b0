-- Numbers that are mixed into hashes.
use Rattle.std.proofs.Common.{◌≡◌, ◌∙◌, ℕ, ◌-◌, ◌/◌, ◌%◌, ◌<◌, ◌^◌, bit_and, ap, arith}
use Rattle.std.specs.Int.Bits.{bit_xor}
use Rattle.std.proofs.lemmas.Nat.{and_mask, xor_lt}
use Rattle.table_terms.specs.Laws.{mixing_factor, folded}

pub mixed-small : (n : ℕ) → n < 2 ^ 64 → bit_xor n mixing_factor < 2 ^ 64
mixed-small n small = xor_lt 64 n mixing_factor small (omega arith)

-- a mask in place of the remainder, and no remainder of what is small
pub folds : (product : ℕ) → product < 2 ^ 128 → bit_xor (bit_and product (2 ^ 64 - 1)) (product / 2 ^ 64) ≡ folded product
folds product small =
    let upper : product / 2 ^ 64 ≡ product / 2 ^ 64 % 2 ^ 64 = omega arith in
    ap (λ lower. bit_xor lower (product / 2 ^ 64)) (and_mask product 64) ∙ ap (bit_xor (product % 2 ^ 64)) upper
