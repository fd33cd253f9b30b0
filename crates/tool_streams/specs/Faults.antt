-- The message and the status of each fault of streams.
use Rattle.std.specs.Prelude.{ℕ, ◌≤◌, List, ⊤, ◌++◌, codes, decimal}
use Rattle.tool_streams.specs.declared.faults.StreamFault.{StreamFault}
use Rattle.tool_streams.specs.declared.faults.StreamFault.TheVariants.{ReadFailed, WriteFailed, NoMemory}
use Rattle.tool_streams.specs.declared.faults.LineFault.{LineFault}
use Rattle.tool_streams.specs.declared.faults.LineFault.TheVariants.{BadLine, Stream}

-- what a fault of the system prints
abbrev pub stream_message : StreamFault → List ℕ
stream_message ReadFailed = codes "read failed"
stream_message WriteFailed = codes "write failed"
stream_message NoMemory = codes "no memory"

-- what a fault of an input of lines prints
abbrev pub line_message : LineFault → List ℕ
line_message (BadLine k) = codes "bad line " ++ decimal k
line_message (Stream fault) = stream_message fault

-- 2 for a line that is wrong, 1 for what the system refuses
abbrev pub line_status : LineFault → ℕ
line_status (BadLine k) = 2
line_status (Stream fault) = 1

-- a bad line is counted from 1
abbrev pub IsCountedFromOne : LineFault → Type 0
IsCountedFromOne (BadLine k) = 1 ≤ k
IsCountedFromOne (Stream fault) = ⊤
