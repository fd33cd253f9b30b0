-- Where numbers lie.
--     at_one_place     a number has one place and one offset
--     at_one_number    a place and an offset have one number
use Rattle.std.proofs.Common.{◌≡◌, ℕ, zero, ◌+◌, ◌*◌, ◌-◌, ◌^◌, ◌<◌, ◌≤◌, ◌⊎◌, inl, inr, ap, arith}
use Rattle.std.proofs.Math.Nat.{pow-le-pow_right}
use Rattle.std.proofs.lemmas.Bool.{cases_lt, cases_order}
use Rattle.std.proofs.lemmas.Nat.{pow-add}
use Rattle.table_slab.specs.Numbering.{chunk_len, IsAt}

pub pow_upto : (i j : ℕ) → i ≤ j → 2 ^ i ≤ 2 ^ j
pow_upto i j le = let two : zero < 2 = omega arith in pow-le-pow_right two le

-- twice a power of two is at most each greater one
pub twice_upto : (i j : ℕ) → i < j → 2 * 2 ^ i ≤ 2 ^ j
twice_upto i j lt = let le : 1 + i ≤ j = omega arith in omega (arith, pow_upto (1 + i) j le, pow-add 2 1 i)

-- the greatest power of two that isn't above a number
pub top_upto : (i n top : ℕ) → 2 ^ i ≤ n → n < 2 * 2 ^ top → i ≤ top
top_upto i n top low high = at (cases_lt top i)
  where
    at : (top < i) ⊎ (i ≤ top) → i ≤ top
    at (inl lt) = absurd (omega (arith, twice_upto top i lt, low, high))
    at (inr le) = le

pub where_at : (bits number top : ℕ) → 2 ^ top ≤ number + 2 ^ bits → number + 2 ^ bits < 2 * 2 ^ top → IsAt bits number (top - bits) (number + 2 ^ bits - 2 ^ top)
where_at bits number top low high =
    let own : 2 ^ bits ≤ number + 2 ^ bits = omega arith in let upto : bits ≤ top = top_upto bits (number + 2 ^ bits) top own high in
    let e : bits + (top - bits) ≡ top = omega arith in let is : 2 ^ (bits + (top - bits)) ≡ 2 ^ top = ap (λ (k : ℕ). 2 ^ k) e in
    record { within = omega (arith, is, low, high); counted = omega (arith, is, low) }

pub number_is_at : (bits place offset : ℕ) → offset < chunk_len bits place → IsAt bits (chunk_len bits place - chunk_len bits 0 + offset) place offset
number_is_at bits place offset within = let le : bits + 0 ≤ bits + place = omega arith in let e : bits + 0 ≡ bits = omega arith in let is : 2 ^ (bits + 0) ≡ 2 ^ bits = ap (λ (k : ℕ). 2 ^ k) e in
    record { within = within; counted = omega (arith, is, pow_upto (bits + 0) (bits + place) le) }

apart_places : (bits number p o q r : ℕ) → p < q → IsAt bits number p o → IsAt bits number q r → zero ≡ 1
apart_places bits number p o q r lt a b = let le : bits + p < bits + q = omega arith in omega (arith, twice_upto (bits + p) (bits + q) le, a.within, a.counted, b.counted)

pub at_one_place : {bits number p o q r : ℕ} → IsAt bits number p o → IsAt bits number q r → (p ≡ q) × (o ≡ r)
at_one_place {bits} {number} {p} {o} {q} {r} a b = by_order (cases_order p q)
  where
    by_order : (p ≡ q) ⊎ ((p < q) ⊎ (q < p)) → (p ≡ q) × (o ≡ r)
    by_order (inl same) = let is : 2 ^ (bits + p) ≡ 2 ^ (bits + q) = ap (λ (k : ℕ). 2 ^ (bits + k)) same in (same, omega (arith, is, a.counted, b.counted))
    by_order (inr (inl lt)) = absurd (let z : zero ≡ 1 = apart_places bits number p o q r lt a b in omega arith)
    by_order (inr (inr gt)) = absurd (let z : zero ≡ 1 = apart_places bits number q r p o gt b a in omega arith)

pub at_one_number : {bits m n p o : ℕ} → IsAt bits m p o → IsAt bits n p o → m ≡ n
at_one_number a b = omega (arith, a.counted, b.counted)

-- numbers of chunks of fewer than 2 ^ 32 slots
pub few_numbers : {bits number place offset : ℕ} → bits + place < 32 → IsAt bits number place offset → number < 2 ^ 32
few_numbers {bits} {number} {place} few a = omega (arith, twice_upto (bits + place) 32 few, a.within, a.counted)
