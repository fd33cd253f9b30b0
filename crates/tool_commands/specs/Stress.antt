-- What the jobs of `stress` insert, how they end, and what is printed of them.
use Rattle.std.specs.Prelude.{ℕ, ◌+◌, ◌*◌, ◌%◌, ◌^◌, List, ◌++◌, Option, Some, None, codes, decimal}
use Rattle.tool_streams.specs.declared.faults.StreamFault.TheVariants.{NoMemory}
use Rattle.tool_commands.specs.declared.kinds.Kind.{Kind}
use Rattle.tool_commands.specs.declared.kinds.Kind.TheVariants.{InsertUnique, InsertSame, InsertLookup}
use Rattle.tool_commands.specs.declared.endings.Ending.{Ending}
use Rattle.tool_commands.specs.declared.endings.Ending.TheVariants.{Well, Missed, Stuck, Refused}
use Rattle.tool_commands.specs.declared.faults.Fault.{Fault}
use Rattle.tool_commands.specs.declared.faults.Fault.TheVariants.{JobFailed, GateStuck, Stream}

-- how many values each worker inserts in a job
abbrev pub inserts_of : Kind → ℕ
inserts_of InsertUnique = 1000
inserts_of InsertSame = 10000
inserts_of InsertLookup = 1000

-- the value that a worker inserts by its call of this number, in the job of this number
abbrev pub value_of : Kind → ℕ → ℕ → ℕ → ℕ
value_of InsertUnique job worker call = job + 1000 * worker + call
value_of InsertSame job worker call = call + job
value_of InsertLookup job worker call = job + 1000 * worker + call

-- how many different values so many workers insert in a job
abbrev pub entries_of : Kind → ℕ → ℕ
entries_of InsertUnique threads = 1000 * threads
entries_of InsertSame threads = 10000
entries_of InsertLookup threads = 1000 * threads

-- the hash of a value
abbrev pub value_hash : ℕ → ℕ
value_hash v = v * 0x9E3779B97F4A7C15 % 2 ^ 64

-- the name of a kind
abbrev pub kind_text : Kind → List ℕ
kind_text InsertUnique = codes "insert_unique"
kind_text InsertSame = codes "insert_same"
kind_text InsertLookup = codes "insert_lookup"

-- what is printed of a kind whose jobs went well
abbrev pub kind_line : Kind → ℕ → List ℕ
kind_line kind threads = kind_text kind ++ codes " " ++ decimal (entries_of kind threads) ++ codes "\n"

-- what is printed of a run that went well
abbrev pub stress_text : ℕ → List ℕ
stress_text threads =
    kind_line InsertUnique threads ++ kind_line InsertSame threads ++ kind_line InsertLookup threads

-- how bad an ending is
abbrev pub badness : Ending → ℕ
badness Well = 0
badness Missed = 1
badness Stuck = 2
badness Refused = 3

-- the fault of a job whose workers ended so
abbrev pub fault_of : Ending → Kind → ℕ → Option Fault
fault_of Well kind job = None
fault_of Missed kind job = Some (JobFailed kind job)
fault_of Stuck kind job = Some GateStuck
fault_of Refused kind job = Some (Stream NoMemory)
