-- Digits that are read from the left.
use Rattle.std.proofs.Common.{◌≡◌, ℕ, ◌+◌, ◌*◌, ◌<◌, ◌≤◌, ◌^◌, List, [], ◌∷◌, length, get_or, drop, arith}
use Rattle.std.specs.Char.{digit_value}
use Rattle.std.specs.Str.Parse.{AllDigits, digits_value, digits_value_after}
use Rattle.std.proofs.Math.Nat.{mul-le-mul_left}
use Rattle.std.proofs.lemmas.List.{drop_more}
use Rattle.std.proofs.Math.ListN.{drop_of_length-le}
use Rattle.tool_streams.specs.Numbers.{Writes}

-- the digits from place i on follow those of a value that stands for the ones before
pub record ReadsTo (radix : ℕ) (digits : List ℕ) (i value : ℕ) : Type 0 where
  pub value_is : digits_value radix digits ≡ digits_value_after radix value (drop i digits)
  pub all_if : AllDigits radix (drop i digits) → AllDigits radix digits
  pub rest_if : AllDigits radix digits → AllDigits radix (drop i digits)
  pub fits : value < 2 ^ 64

-- digits make no number smaller
pub digits_value_after-≤ : (radix n : ℕ) (ds : List ℕ) → 1 ≤ radix → n ≤ digits_value_after radix n ds
digits_value_after-≤ radix n [] h = omega arith
digits_value_after-≤ radix n (c ∷ cs) h =
    let more : n * 1 ≤ n * radix = mul-le-mul_left n h in
    omega (arith, more, digits_value_after-≤ radix (n * radix + digit_value c) cs h)

-- one more digit is read
pub digits_value-next : (radix : ℕ) (digits : List ℕ) (i value : ℕ) → ReadsTo radix digits i value → i < length digits
    → digits_value radix digits ≡ digits_value_after radix (value * radix + digit_value (get_or digits i 0)) (drop (i + 1) digits)
digits_value-next radix digits i value so h = rw (drop_more digits i 0 h) at so.value_is

-- where the next value has no room, the digits write no number below 2^64
pub no_room : (radix most : ℕ) (digits : List ℕ) (i value n : ℕ) → ReadsTo radix digits i value → 1 ≤ radix → i < length digits
    → 2 ^ 64 ≤ value * radix + digit_value (get_or digits i 0) → ¬ Writes radix most digits n
no_room radix most digits i value n so h below full written =
    omega (
      arith,
      digits_value-next radix digits i value so below,
      digits_value_after-≤ radix (value * radix + digit_value (get_or digits i 0)) (drop (i + 1) digits) h,
      written.value,
      written.small,
    )

-- at the end the value is the number
pub all_read : (radix most : ℕ) (digits : List ℕ) (i value : ℕ) → ReadsTo radix digits i value → 0 < length digits → length digits ≤ most
    → length digits ≤ i → Writes radix most digits value
all_read radix most digits i value so some short end =
    let gone : drop i digits ≡ [] = drop_of_length-le digits end in
    let value_is : digits_value radix digits ≡ value = rw gone at so.value_is in
    let all : AllDigits radix digits = so.all_if (rw gone tt) in
    record { numeral = (some, all); short = short; value = omega (arith, value_is); small = so.fits }
