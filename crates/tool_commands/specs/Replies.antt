-- The text of each reply.
use Rattle.std.specs.Prelude.{ℕ, List, [], ◌∷◌, ◌++◌, Option, Some, None, codes, decimal}
use Rattle.tool_commands.specs.declared.replies.Reply.{Reply}
use Rattle.tool_commands.specs.declared.replies.Reply.TheVariants.{Inserted, LookedUp, Count, Numbers}
use Rattle.table_terms.specs.declared.insertion.Insertion.{Insertion}
use Rattle.table_terms.specs.declared.insertion.Insertion.TheVariants as insertion

-- each number after a comma and a space
abbrev pub further_numbers : List ℕ → List ℕ
further_numbers [] = []
further_numbers (n ∷ ns) = codes ", " ++ decimal n ++ further_numbers ns

-- decimal numbers between brackets, as [7, 9]
abbrev pub number_list : List ℕ → List ℕ
number_list [] = codes "[]"
number_list (n ∷ ns) = codes "[" ++ decimal n ++ further_numbers ns ++ codes "]"

-- what is told of an insert
abbrev pub insertion_text : Insertion → List ℕ
insertion_text insertion.Placed = codes "placed"
insertion_text insertion.Found = codes "found"
insertion_text insertion.Refused = codes "refused"

-- what is told of a look-up
abbrev pub lookup_text : Option ℕ → List ℕ
lookup_text (Some n) = codes "some " ++ decimal n
lookup_text None = codes "none"

-- what a reply prints
abbrev pub reply_text : Reply → List ℕ
reply_text (Inserted how) = insertion_text how
reply_text (LookedUp found) = lookup_text found
reply_text (Count n) = decimal n
reply_text (Numbers ns) = number_list ns.now
