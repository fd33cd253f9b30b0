-- The message and the status of each fault, and which faults a command has.
use Rattle.std.specs.Prelude.{◌≢◌, ℕ, List, ⊤, ◌++◌, codes, decimal}
use Rattle.tool_streams.specs.Faults.{stream_message, line_message, line_status, IsCountedFromOne}
use Rattle.tool_streams.specs.declared.faults.StreamFault.TheVariants as stream
use Rattle.tool_streams.specs.declared.faults.LineFault.{LineFault}
use Rattle.tool_streams.specs.declared.faults.LineFault.TheVariants as line
use Rattle.tool_commands.specs.Stress.{kind_text}
use Rattle.tool_commands.specs.declared.faults.Fault.{Fault}
use Rattle.tool_commands.specs.declared.faults.Fault.TheVariants.{Usage, BadLine, Stream, NoThread, GateStuck, JobFailed}

-- a fault of an input of lines
abbrev pub of_lines : LineFault → Fault
of_lines (line.BadLine k) = BadLine k
of_lines (line.Stream fault) = Stream fault

-- what a fault prints
abbrev pub message_of : Fault → List ℕ
message_of Usage =
    codes "usage: tablerun calls [F] | shards N [F] | core [F] | stress THREADS JOBS | seats THREADS"
message_of (BadLine k) = line_message (line.BadLine k)
message_of (Stream fault) = stream_message fault
message_of NoThread = codes "no thread"
message_of GateStuck = codes "gate stuck"
message_of (JobFailed kind job) = kind_text kind ++ codes " failed at job " ++ decimal job

-- 2 for words and lines that are wrong, 1 for what the system refuses
abbrev pub status_of : Fault → ℕ
status_of Usage = 2
status_of (BadLine k) = line_status (line.BadLine k)
status_of (Stream fault) = 1
status_of NoThread = 1
status_of GateStuck = 1
status_of (JobFailed kind job) = 1

-- what may go wrong with an input of lines: a bad line is counted from 1
abbrev pub IsInputFault : Fault → Type 0
IsInputFault (BadLine k) = IsCountedFromOne (line.BadLine k)
IsInputFault (Stream fault) = ⊤
IsInputFault _ = ⊥

-- what may go wrong before workers have been told anything
abbrev pub IsStartFault : Fault → Type 0
IsStartFault (Stream stream.NoMemory) = ⊤
IsStartFault NoThread = ⊤
IsStartFault _ = ⊥

-- what may go wrong with threads: nothing is read
abbrev pub IsThreadFault : Fault → Type 0
IsThreadFault (Stream fault) = fault ≢ stream.ReadFailed
IsThreadFault NoThread = ⊤
IsThreadFault GateStuck = ⊤
IsThreadFault _ = ⊥

-- what may go wrong with a job
abbrev pub IsJobFault : Fault → Type 0
IsJobFault (Stream stream.NoMemory) = ⊤
IsJobFault NoThread = ⊤
IsJobFault GateStuck = ⊤
IsJobFault (JobFailed kind job) = ⊤
IsJobFault _ = ⊥

-- what may go wrong with a run of jobs: nothing is read
abbrev pub IsStressFault : Fault → Type 0
IsStressFault (Stream fault) = fault ≢ stream.ReadFailed
IsStressFault NoThread = ⊤
IsStressFault GateStuck = ⊤
IsStressFault (JobFailed kind job) = ⊤
IsStressFault _ = ⊥
