-- What the arguments don't ask for.
use Rattle.std.proofs.Common.{◌≡◌, ℕ, ◌-◌, ◌≤◌, List, [], ◌∷◌, length, take, drop, map, take_all, sym, subst, arith}
use Rattle.tool_lines.specs.Tools.{AsksTool, AsksRun}
use Rattle.tool_lines.specs.declared.tool.Tool.{Tool}

-- no tool is asked for where nothing is asked for behind the first word
pub nothing_asked : {S : Type 0} (text : S → List ℕ) (words : List S) → 1 ≤ length words
    → ((threads : ℕ) (names : List (List ℕ)) → ¬ AsksRun (map text (take (length words - 1) (drop 1 words))) threads names)
    → (tool : Tool) (threads : ℕ) (names : List (List ℕ)) → ¬ AsksTool (map text words) tool threads names
nothing_asked text [] some none tool threads names asks = asks
nothing_asked text (first ∷ rest) some none tool threads names asks =
    let same : take (length (first ∷ rest) - 1) (drop 1 (first ∷ rest)) ≡ rest = take_all _ rest (omega arith) in
    none threads names (subst (λ r. AsksRun (map text r) threads names) (sym same) asks.2)
