-- Which words name which command.
use Rattle.std.specs.Prelude.{◌≡◌, ◌≤◌, ℕ, List, [], ◌∷◌, codes}
use Rattle.tool_commands.specs.declared.arguments.Command.{Command}
use Rattle.tool_commands.specs.declared.arguments.Command.TheVariants.{Calls, Shards, Core, Stress, Seats}
use Rattle.tool_commands.specs.declared.arguments.ShardCount.{ShardCount}
use Rattle.tool_commands.specs.declared.arguments.ShardCount.TheVariants.{One, Two, Four, Eight, Sixteen}
use Rattle.tool_streams.specs.Numbers.{Writes}
use Rattle.tool_commands.specs.Faults.{IsInputFault, IsThreadFault, IsStressFault}
use Rattle.tool_commands.specs.declared.faults.Fault.{Fault}
use Rattle.table_terms.specs.Capacities.{IsFirstCapacity}

-- the words after a command's name say with which first capacity it runs, and no word is for 16
abbrev pub NamesFirst : List (List ℕ) → ℕ → Type 0
NamesFirst [] f = f ≡ 16
NamesFirst (word ∷ []) f = Writes 10 20 word f × IsFirstCapacity f
NamesFirst (word ∷ more ∷ words) f = ⊥

-- how many shards these are
abbrev pub number_of : ShardCount → ℕ
number_of One = 1
number_of Two = 2
number_of Four = 4
number_of Eight = 8
number_of Sixteen = 16

-- the words after `shards` say over how many shards it runs, and with which first capacity
abbrev pub NamesShards : List (List ℕ) → ShardCount → ℕ → Type 0
NamesShards [] n f = ⊥
NamesShards (word ∷ words) n f = Writes 10 20 word (number_of n) × NamesFirst words f

-- as many threads as the commands with threads take
abbrev pub IsThreadCount : ℕ → Type 0
IsThreadCount n = (2 ≤ n) × (n ≤ 64)

-- these words are one word alone, which writes the number in decimal digits
abbrev pub NamesNumber : List (List ℕ) → ℕ → Type 0
NamesNumber [] n = ⊥
NamesNumber (word ∷ []) n = Writes 10 20 word n
NamesNumber (word ∷ more ∷ words) n = ⊥

-- the words after a command's name say how many threads it runs
abbrev pub NamesThreads : List (List ℕ) → ℕ → Type 0
NamesThreads words n = NamesNumber words n × IsThreadCount n

-- as many jobs as `stress` runs of each kind
abbrev pub IsJobCount : ℕ → Type 0
IsJobCount n = (1 ≤ n) × (n ≤ 1000)

-- the words after the number of threads say how many jobs of each kind it runs
abbrev pub NamesJobs : List (List ℕ) → ℕ → Type 0
NamesJobs words n = NamesNumber words n × IsJobCount n

-- the words after `stress` say how many threads it runs, and how many jobs of each kind
abbrev pub NamesStress : List (List ℕ) → ℕ → ℕ → Type 0
NamesStress [] n jobs = ⊥
NamesStress (word ∷ words) n jobs = (Writes 10 20 word n × IsThreadCount n) × NamesJobs words jobs

-- no word at all stands for `calls`
abbrev pub NamesCommand : List (List ℕ) → Command → Type 0
NamesCommand [] (Calls f) = f ≡ 16
NamesCommand [] (Shards n f) = ⊥
NamesCommand [] (Core f) = ⊥
NamesCommand [] (Stress n jobs) = ⊥
NamesCommand [] (Seats n) = ⊥
NamesCommand (name ∷ words) (Calls f) = (name ≡ codes "calls") × NamesFirst words f
NamesCommand (name ∷ words) (Shards n f) = (name ≡ codes "shards") × NamesShards words n f
NamesCommand (name ∷ words) (Core f) = (name ≡ codes "core") × NamesFirst words f
NamesCommand (name ∷ words) (Stress n jobs) = (name ≡ codes "stress") × NamesStress words n jobs
NamesCommand (name ∷ words) (Seats n) = (name ≡ codes "seats") × NamesThreads words n

-- a command that can be run
abbrev pub IsRunnable : Command → Type 0
IsRunnable (Calls f) = IsFirstCapacity f
IsRunnable (Shards n f) = IsFirstCapacity f
IsRunnable (Core f) = IsFirstCapacity f
IsRunnable (Stress n jobs) = IsThreadCount n × IsJobCount jobs
IsRunnable (Seats n) = IsThreadCount n

-- what may go wrong with a command: with its lines, or with its threads
abbrev pub IsFaultOf : Command → Fault → Type 0
IsFaultOf (Calls f) fault = IsInputFault fault
IsFaultOf (Shards n f) fault = IsInputFault fault
IsFaultOf (Core f) fault = IsInputFault fault
IsFaultOf (Stress n jobs) fault = IsStressFault fault
IsFaultOf (Seats n) fault = IsThreadFault fault
