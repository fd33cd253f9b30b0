-- Which requests a rule counts, and what an allocator under a rule is made of.
use Rattle.std.specs.Prelude.{ℕ, ◌≤◌}
use Rattle.testkit.specs.declared.refusing.Rule.{Rule}
use Rattle.testkit.specs.declared.refusing.Refusing.{Refusing}

-- the bytes of the smallest request that is counted
abbrev pub least_counted : Rule → ℕ
least_counted r = r.least

-- the bytes of the largest
abbrev pub most_counted : Rule → ℕ
most_counted r = r.most

-- requests of so many bytes are counted
abbrev pub Counts : Rule → ℕ → Type 0
Counts r bytes = (least_counted r ≤ bytes) × (bytes ≤ most_counted r)

-- the allocator whose memory is granted
abbrev pub memory_of : {B : Type 0} → Refusing B → B
memory_of heap = heap.inner

-- the rule by which requests are refused
abbrev pub rule_of : {B : Type 0} → Refusing B → Rule
rule_of heap = heap.rule
