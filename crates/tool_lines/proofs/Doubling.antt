-- A Fibonacci number from the two at half of its index.
use Rattle.std.proofs.Common.{◌≡◌, ℕ, ◌+◌, ◌-◌, ◌*◌, ◌/◌, ◌%◌, ◌^◌, ◌<◌, ◌≤◌, ◌≢◌, zero, suc, refl, sym, ap, ◌∙◌, arith}
use Rattle.std.proofs.lemmas.Grind.{common_steps}
use Rattle.std.proofs.lemmas.Nat.{mul-mod}
use Rattle.std.proofs.Math.Nat.{add-mod-mod, mod-add-mod}
use Rattle.tool_lines.specs.Fibonacci.{fibonacci_number, fibonacci_word}

next : (n : ℕ) → fibonacci_number (suc (suc n)) ≡ fibonacci_number (suc n) + fibonacci_number n
unfolding fibonacci_number
next n = refl

-- what one step of the recursion does to a sum of two products
step : (a b c d : ℕ) → a * (c + d) + b * c ≡ (a + b) * c + a * d
step a b c d = grind (arith, common_steps)

-- the number at a sum
at_sum : (m n : ℕ) → fibonacci_number (m + suc n) ≡ fibonacci_number (suc m) * fibonacci_number (suc n) + fibonacci_number m * fibonacci_number n
unfolding fibonacci_number
at_sum zero n =
    let index : 0 + suc n ≡ suc n = omega arith in
    ap fibonacci_number index ∙ (grind (arith, common_steps))
at_sum (suc m) n =
    let index : suc m + suc n ≡ m + suc (suc n) = omega arith in
    ap fibonacci_number index ∙ at_sum m (suc n) ∙ step (fibonacci_number (suc m)) (fibonacci_number m) (fibonacci_number (suc n)) (fibonacci_number n)

-- a sum of products doesn't see that its numbers are remainders
products_mod : (a b c d m : ℕ) → ((a % m) * (b % m) + (c % m) * (d % m)) % m ≡ (a * b + c * d) % m
products_mod a b c d m =
    sym (mod-add-mod ((a % m) * (b % m)) m ((c % m) * (d % m)))
    ∙ ap (λ x. (x + (c % m) * (d % m)) % m) (sym (mul-mod a b m))
    ∙ sym (add-mod-mod ((a * b) % m) ((c % m) * (d % m)) m)
    ∙ ap (λ x. ((a * b) % m + x) % m) (sym (mul-mod c d m))
    ∙ add-mod-mod ((a * b) % m) (c * d) m
    ∙ mod-add-mod (a * b) m (c * d)

-- the first two are as they are
pub first_two : (n : ℕ) → n < 2 → n ≡ fibonacci_word n
unfolding fibonacci_number
first_two zero below = refl
first_two (suc zero) below = refl
first_two (suc (suc n)) below = omega (arith, below)

module _ (n low high : ℕ) (two : 2 ≤ n)
    (low_is : low ≡ fibonacci_word ((n - 1) / 2))
    (high_is : high ≡ fibonacci_word ((n - 1) / 2 + 1)) where
  higher : high ≡ fibonacci_word (suc ((n - 1) / 2))
  higher = high_is ∙ ap fibonacci_word (omega arith)

  -- at an odd argument, the sum of two squares
  pub odd : n % 2 ≡ 1 → (high * high + low * low) % 2 ^ 64 ≡ fibonacci_word n
  odd is =
      let k = (n - 1) / 2 in
      let h = fibonacci_number (suc k) in
      let l = fibonacci_number k in
      let index : k + suc k ≡ n = omega (arith, two, is) in
      rw (higher, low_is) (products_mod h h l l (2 ^ 64) ∙ ap (λ x. x % 2 ^ 64) (sym (at_sum k k)) ∙ ap fibonacci_word index)

  -- at an even one, the higher number times the sum of itself and the lower one, and times the lower one
  pub even : n % 2 ≢ 1 → ((high + low) % 2 ^ 64 * high + high * low) % 2 ^ 64 ≡ fibonacci_word n
  even is =
      let k = (n - 1) / 2 in
      let h = fibonacci_number (suc k) in
      let l = fibonacci_number k in
      let index : suc k + suc k ≡ n = omega (arith, two, is) in
      let sum : (h % 2 ^ 64 + l % 2 ^ 64) % 2 ^ 64 ≡ (h + l) % 2 ^ 64 = mod-add-mod h (2 ^ 64) (l % 2 ^ 64) ∙ add-mod-mod h l (2 ^ 64) in
      let whole : fibonacci_number (suc k + suc k) ≡ (h + l) * h + h * l = at_sum (suc k) k ∙ ap (λ x. x * h + h * l) (next k) in
      rw (higher, low_is, sum) (products_mod (h + l) h h l (2 ^ 64) ∙ ap (λ x. x % 2 ^ 64) (sym whole) ∙ ap fibonacci_word index)
