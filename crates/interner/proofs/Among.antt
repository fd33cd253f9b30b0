-- Whether a text is among those of a list.
use Rattle.std.proofs.Common.{◌≡◌, ℕ, Bool, true, false, List, [], ◌∷◌, map, refl, sym, ◌∙◌, arith, zero, suc}
use Rattle.std.specs.Prelude.{Contains}
use Rattle.std.specs.Bool.{Decides}
use Rattle.std.specs.Str.{bytes_eq}
use Rattle.std.proofs.lemmas.Bool.{false≢true}
use Rattle.std.proofs.lemmas.Slice.Eq.{bytes_eq-Decides}

-- answers to one question asked both ways are the same
same_answer : (a b : List ℕ) (p q : Bool) → Decides p (a ≡ b) → Decides q (b ≡ a) → p ≡ q
same_answer a b true true one other = refl
same_answer a b false false one other = refl
same_answer a b true false one other = sym (other.1 (sym (one.0 refl)))
same_answer a b false true one other = one.1 (sym (other.0 refl))

pub equal_both_ways : (a b : List ℕ) → bytes_eq a b ≡ bytes_eq b a
equal_both_ways a b = same_answer a b _ _ (bytes_eq-Decides a b) (bytes_eq-Decides b a)

-- where none of these has the text, it is not among their texts
pub not_among : {T : Type 0} (text_of : T → List ℕ) (M : List T) (x : List ℕ) → ((e : T) → Contains M e → bytes_eq (text_of e) x ≡ false) → ¬ Contains (map text_of M) x
not_among text_of [] x none (k, below, is) = omega (arith, below)
not_among text_of (e ∷ M) x none (zero, below, is) =
    false≢true (sym (none e (0, omega arith, refl)) ∙ (bytes_eq-Decides (text_of e) x).1 is)
not_among text_of (e ∷ M) x none (suc k, below, is) =
    not_among text_of M x (λ f (j, in_range, at). none f (suc j, omega arith, at)) (k, omega arith, is)
