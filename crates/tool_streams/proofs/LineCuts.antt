-- How a line follows from what was read up to a line break.
use Rattle.std.proofs.Common.{◌≡◌, ◌⊎◌, ℕ, zero, suc, ◌≢◌, ◌-◌, ◌<◌, ◌++◌, true, false, List, [], ◌∷◌, Option, Some, None, length, take, refl, sym, ap, ◌∙◌, arith, get_or, inl, inr}
use Rattle.std.specs.Prelude.{IfSome}
use Rattle.std.specs.Io.BufRead.{take_through, drop_through, DropsThrough}
use Rattle.std.proofs.lemmas.Bool.{false≢true}
use Rattle.std.proofs.lemmas.Grind.{common_steps}
use Rattle.std.proofs.lemmas.List.{length-append, take_at, get_or_at, get_or_read}
use Rattle.tool_streams.specs.Lines.{is_break, AllAnswer, ReadsLine}

-- a text is cut behind its first line break, or has none
abbrev IsCut : List ℕ → Type 0
IsCut text =
    ((line : List ℕ) × (take_through 10 text ≡ line ++ 10 ∷ []) × (text ≡ line ++ 10 ∷ drop_through 10 text) × AllAnswer is_break false line)
    ⊎ ((take_through 10 text ≡ text) × (drop_through 10 text ≡ []) × AllAnswer is_break false text)

all_more : (byte : ℕ) (bytes : List ℕ) → is_break byte ≡ false → AllAnswer is_break false bytes → AllAnswer is_break false (byte ∷ bytes)
all_more byte bytes first all zero d below = first
all_more byte bytes first all (suc k) d below = all k d (omega arith)

cut_through : (text : List ℕ) → IsCut text
cut_through [] = inr (refl, refl, λ k d below. absurd (omega (arith, below)))
cut_through (byte ∷ text) = elim (is_break byte) as (λ b. is_break byte ≡ b → IsCut (byte ∷ text)) [
  | true ↦ λ is. let ten : byte ≡ 10 = grind (arith, common_steps) in
      inl ([], rw (is, ten) refl, rw (is, ten) refl, λ k d below. absurd (omega (arith, below)))
  | false ↦ λ is. elim (cut_through text) [
    | inl (line, taken, parts, all) ↦ inl (byte ∷ line, rw (is, taken) refl, rw is (ap (λ t. byte ∷ t) parts), all_more byte line is all)
    | inr (taken, dropped, all) ↦ inr (rw (is, taken) refl, rw (is, dropped) refl, all_more byte text is all)
  ]
] refl

-- a line that ended with its line break, which was taken off
pub reads_ended : (a b : Option (List ℕ)) (bytes : List ℕ) → IfSome a (λ text. bytes ≡ take_through 10 text) → DropsThrough a b 10 → 0 < length bytes
    → get_or bytes (length bytes - 1) 0 ≡ 10 → ReadsLine a b (take (length bytes - 1) bytes) true
reads_ended None b bytes taken dropped some last = tt
reads_ended (Some text) b bytes taken dropped some last = rw dropped (elim (cut_through text) [
  | inl (line, is, parts, all) ↦
      let same : bytes ≡ line ++ 10 ∷ [] = taken ∙ is in
      let long : length bytes - 1 ≡ length line = let h = ap length same ∙ length-append line (10 ∷ []) in omega arith in
      let cut : take (length bytes - 1) bytes ≡ line = rw (long, same) (take_at line (10 ∷ []) (length line) refl) in
      rw cut (all, inl parts)
  | inr (is, none, all) ↦
      let same : bytes ≡ text = taken ∙ is in
      let no : is_break (get_or bytes (length bytes - 1) 0) ≡ false = rw same (all (length text - 1) 0 (let h = ap length same in omega arith)) in
      let yes : is_break 10 ≡ false = rw last at no in
      absurd (false≢true (sym yes))
])

-- a last line without a line break, behind which nothing is left
pub reads_last : (a : Option (List ℕ)) (bytes : List ℕ) → IfSome a (λ text. bytes ≡ take_through 10 text) → 0 < length bytes
    → get_or bytes (length bytes - 1) 0 ≢ 10 → ReadsLine a (Some []) bytes true
reads_last None bytes taken some last = tt
reads_last (Some text) bytes taken some last = elim (cut_through text) [
  | inl (line, is, parts, all) ↦
      let same : bytes ≡ line ++ 10 ∷ [] = taken ∙ is in
      let long : length bytes - 1 ≡ length line = let h = ap length same ∙ length-append line (10 ∷ []) in omega arith in
      absurd (last (rw (long, same) (get_or_at line 10 [] 0 (length line) refl)))
  | inr (is, none, all) ↦ let same : bytes ≡ text = taken ∙ is in (rw same all, inr (sym same, some, refl))
]

-- the same, of a read: n bytes were read, the last of which is x
pub ended : (a b : Option (List ℕ)) (bytes : List ℕ) (n x : ℕ) → IfSome a (λ text. bytes ≡ take_through 10 text) → DropsThrough a b 10 → n ≡ length bytes → 0 < n
    → x ≡ get_or bytes (n - 1) x → x ≡ 10 → ReadsLine a b (take (n - 1) bytes) true
ended a b bytes n x taken dropped n_is some at x_is =
    let last : get_or bytes (n - 1) 0 ≡ 10 = sym (get_or_read bytes (n - 1) x (omega arith) at 0) ∙ x_is in
    rw n_is (reads_ended a b bytes taken dropped (omega arith) (rw n_is at last))

pub not_ended : (a : Option (List ℕ)) (bytes : List ℕ) (n x : ℕ) → IfSome a (λ text. bytes ≡ take_through 10 text) → n ≡ length bytes → 0 < n
    → x ≡ get_or bytes (n - 1) x → x ≢ 10 → ReadsLine a (Some []) bytes true
not_ended a bytes n x taken n_is some at x_is =
    let last : get_or bytes (n - 1) 0 ≢ 10 = λ is. x_is (get_or_read bytes (n - 1) x (omega arith) at 0 ∙ is) in
    reads_last a bytes taken (omega arith) (rw n_is at last)
