-- The text of a list of numbers is what Rust's debug form writes.
use Rattle.std.proofs.Common.{◌≡◌, ℕ, List, [], ◌∷◌, refl, Some}
use Rattle.std.specs.Prelude.{decimal}
use Rattle.std.specs.Fmt.{debug_items, debug_list, comma_space}
use Rattle.tool_commands.specs.Replies.{further_numbers, number_list}

pub debug_items-numbers : (ns : List ℕ) → debug_items (λ n. Some (decimal n)) comma_space ns ≡ Some (further_numbers ns)
debug_items-numbers [] = refl
debug_items-numbers (n ∷ ns) = rw (debug_items-numbers ns) refl

pub debug_list-numbers : (ns : List ℕ) → debug_list (λ n. Some (decimal n)) ns ≡ Some (number_list ns)
debug_list-numbers [] = refl
debug_list-numbers (n ∷ ns) = rw (debug_items-numbers ns) refl
