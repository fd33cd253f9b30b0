-- A line that begins with a call's letter and a space.
use Rattle.std.proofs.Common.{◌≡◌, ◌≢◌, refl, ℕ, ◌-◌, ◌≤◌, List, [], ◌∷◌, length, get_or, take, drop, arith, ap}
use Rattle.std.proofs.lemmas.List.{take_all}
use Rattle.tool_commands.specs.Spelling.{SpellsPair, SpellsCall, SpellsLine}
use Rattle.tool_commands.specs.declared.spelling.Line.{Line}
use Rattle.tool_commands.specs.declared.spelling.Line.TheVariants.{Insert, Lookup, Length, Walk, Capacity, Buckets}

-- no two numbers follow the first two bytes
abbrev pub NoPairAfter : List ℕ → Type 0
NoPairAfter text = (first second : ℕ) → ¬ SpellsPair (take (length text - 2) (drop 2 text)) first second

no_call : (letter : ℕ) (text : List ℕ) (hash number : ℕ) → NoPairAfter text → ¬ SpellsCall (letter ∷ []) text hash number
no_call letter text hash number none (rest, is, pair) =
    let same : take (length text - 2) (drop 2 text) ≡ rest = rw is (take_all _ rest (omega arith)) in
    none hash number (rw same pair)

other_letter : (a b : ℕ) (text : List ℕ) (hash number : ℕ) → get_or text 0 0 ≡ a → a ≢ b → ¬ SpellsCall (b ∷ []) text hash number
other_letter a b text hash number e ne (rest, is, pair) = let head : get_or text 0 0 ≡ b = rw is refl in ne (grind arith)

too_long : (a : ℕ) (text : List ℕ) → 2 ≤ length text → ¬ (text ≡ a ∷ [])
too_long a text long is = omega (arith, ap length is)

pub no_insert : (text : List ℕ) → get_or text 0 0 ≡ 105 → 2 ≤ length text → NoPairAfter text → (line : Line) → ¬ SpellsLine text line
no_insert text e long none (Insert hash number) = no_call 105 text hash number none
no_insert text e long none (Lookup hash number) = other_letter 105 108 text hash number e (λ h. omega (arith, h))
no_insert text e long none Length = too_long 110 text long
no_insert text e long none Walk = too_long 119 text long
no_insert text e long none Capacity = too_long 99 text long
no_insert text e long none Buckets = too_long 98 text long

pub no_lookup : (text : List ℕ) → get_or text 0 0 ≡ 108 → 2 ≤ length text → NoPairAfter text → (line : Line) → ¬ SpellsLine text line
no_lookup text e long none (Insert hash number) = other_letter 108 105 text hash number e (λ h. omega (arith, h))
no_lookup text e long none (Lookup hash number) = no_call 108 text hash number none
no_lookup text e long none Length = too_long 110 text long
no_lookup text e long none Walk = too_long 119 text long
no_lookup text e long none Capacity = too_long 99 text long
no_lookup text e long none Buckets = too_long 98 text long
