-- Numbers have no space, so a pair of them is cut at its first one.
use Rattle.std.proofs.Common.{◌≡◌, ◌≢◌, ℕ, zero, suc, ◌≤◌, List, [], ◌∷◌, ◌++◌, arith, refl, sym, ◌∙◌, ap, inl, inr}
use Rattle.std.specs.Prelude.{codes}
use Rattle.std.specs.Char.{digit_value}
use Rattle.std.specs.Str.Parse.{AllDigits, digits_value}
use Rattle.tool_streams.specs.Numbers.{SpellsNumber}
use Rattle.tool_commands.specs.Spelling.{SpellsPair, HasNoSpace}

pub HasNoSpace-tail : (c : ℕ) (cs : List ℕ) → HasNoSpace (c ∷ cs) → HasNoSpace cs
HasNoSpace-tail c cs h = λ k d below. h (suc k) d (omega arith)

HasNoSpace-cons : (c : ℕ) (cs : List ℕ) → c ≢ 32 → HasNoSpace cs → HasNoSpace (c ∷ cs)
HasNoSpace-cons c cs ne h zero d below = ne
HasNoSpace-cons c cs ne h (suc k) d below = h k d (omega arith)

no_digit : (c : ℕ) → c ≡ 32 → digit_value c ≡ 36
no_digit c e = rw e refl

digits_have_none : (radix : ℕ) (ds : List ℕ) → radix ≤ 36 → AllDigits radix ds → HasNoSpace ds
digits_have_none radix [] h all = λ k d below. absurd (omega (arith, below))
digits_have_none radix (c ∷ cs) h all = HasNoSpace-cons c cs (λ e. omega (arith, no_digit c e, all.0)) (digits_have_none radix cs h all.1)

pub numbers_have_none : (text : List ℕ) (n : ℕ) → SpellsNumber text n → HasNoSpace text
numbers_have_none text n (inl w) = digits_have_none 10 text (omega arith) w.numeral.1
numbers_have_none text n (inr (ds, is, w)) =
    rw is (HasNoSpace-cons 48 (120 ∷ ds) (λ e. omega (arith, e)) (HasNoSpace-cons 120 ds (λ e. omega (arith, e)) (digits_have_none 16 ds (omega arith) w.numeral.1)))

-- two cuts at a first space are one
pub cut_once : (a b c d : List ℕ) → HasNoSpace a → HasNoSpace c → a ++ codes " " ++ b ≡ c ++ codes " " ++ d → (a ≡ c) × (b ≡ d)
cut_once [] b [] d na nc e = (refl, cc)
cut_once [] b (x ∷ c) d na nc e = let same : 32 ≡ x = cc in absurd (nc 0 0 (omega arith) (sym same))
cut_once (x ∷ a) b [] d na nc e = let same : x ≡ 32 = cc in absurd (na 0 0 (omega arith) same)
cut_once (x ∷ a) b (y ∷ c) d na nc e =
    let heads : x ≡ y = cc in
    let rest = cut_once a b c d (HasNoSpace-tail x a na) (HasNoSpace-tail y c nc) (cc) in
    let tails : a ≡ c = rest.0 in
    (cc, rest.1)

-- a pair is its parts' numbers
pub pair_parts : (text before after : List ℕ) (first second : ℕ) → text ≡ before ++ codes " " ++ after → HasNoSpace before → SpellsPair text first second
    → SpellsNumber before first × SpellsNumber after second
pair_parts text before after first second e none p =
    let same : (before ≡ p.before) × (after ≡ p.after) = cut_once before after p.before p.after none (numbers_have_none p.before first p.first_is) (sym e ∙ p.parts) in
    (rw same.0 p.first_is, rw same.1 p.second_is)

-- 0x begins no decimal digits
not_decimal : (digits : List ℕ) → ¬ AllDigits 10 (48 ∷ 120 ∷ digits)
not_decimal digits all = let letter : digit_value 120 ≡ 33 = refl in omega (arith, letter, all.1.0)

-- a text spells one number at most
pub number_once : (text : List ℕ) (n m : ℕ) → SpellsNumber text n → SpellsNumber text m → n ≡ m
number_once text n m (inl a) (inl b) = a.value ∙ sym b.value
number_once text n m (inl a) (inr (ds, is, b)) = absurd (not_decimal ds (rw is at a.numeral.1))
number_once text n m (inr (ds, is, a)) (inl b) = absurd (not_decimal ds (rw is at b.numeral.1))
number_once text n m (inr (ds, is, a)) (inr (es, at, b)) =
    let same : ds ≡ es = cc in
    a.value ∙ ap (digits_value 16) same ∙ sym b.value
