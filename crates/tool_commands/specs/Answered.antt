-- Which reply a line is given.
use Rattle.std.specs.Prelude.{◌≡◌, ℕ, List, length, decimal, Option}
use Rattle.table_terms.specs.declared.insertion.Insertion.{Insertion}
use Rattle.tool_commands.specs.declared.spelling.Line.{Line}
use Rattle.tool_commands.specs.declared.spelling.Line.TheVariants as line
use Rattle.tool_commands.specs.Replies.{number_list, insertion_text, lookup_text}
use Rattle.tool_commands.specs.Pairs.{ShowsPairs, InsertsPair, LooksUpPair, ListsNumbers}

-- the table t was asked the line when it held the pairs ps; it is told this text, and then holds
-- the pairs qs
abbrev pub AnswersLine : {X : Type 0} → ShowsPairs X → X → List (ℕ × ℕ) → Line → List ℕ → List (ℕ × ℕ)
    → Type 0
AnswersLine s t ps (line.Insert hash number) text qs =
    (how : Insertion) × InsertsPair ps (hash, number) how qs × (text ≡ insertion_text how)
AnswersLine s t ps (line.Lookup hash number) text qs =
    (found : Option ℕ) × LooksUpPair ps (hash, number) found × (text ≡ lookup_text found)
    × (qs ≡ ps)
AnswersLine s t ps line.Length text qs = (text ≡ decimal (s.counts.told (length ps))) × (qs ≡ ps)
AnswersLine s t ps line.Walk text qs =
    (ns : List ℕ) × ListsNumbers ps ns × (text ≡ number_list ns) × (qs ≡ ps)
AnswersLine s t ps line.Capacity text qs = (text ≡ decimal (s.counts.capacity t)) × (qs ≡ ps)
AnswersLine s t ps line.Buckets text qs = (text ≡ decimal (s.counts.buckets t)) × (qs ≡ ps)

-- on each list of pairs that the old table holds, the line is told this text, and the new table
-- holds the list after
abbrev pub AnswersAsPairs : {X : Type 0} → ShowsPairs X → X → Line → List ℕ → X → Type 0
AnswersAsPairs s old line text new = (ps : List (ℕ × ℕ)) → s.holds old ps
    → (qs : List (ℕ × ℕ)) × AnswersLine s new ps line text qs × s.holds new qs
