-- The message and the status of each fault.
use Rattle.std.specs.Prelude.{ℕ, List, Bool, true, false, ◌++◌, codes, decimal}
use Rattle.tool_streams.specs.Faults.{stream_message}
use Rattle.tool_streams.specs.declared.faults.StreamFault.{StreamFault}
use Rattle.tool_streams.specs.declared.faults.StreamFault.TheVariants.{ReadFailed, WriteFailed, NoMemory}
use Rattle.tool_lines.specs.declared.faults.Fault.{Fault}
use Rattle.tool_lines.specs.declared.faults.Fault.TheVariants.{NotUtf8, TooManyWords, NoSuchFile, NotOpened, ReaderGone, Stream}

-- what a fault prints
abbrev pub message_of : Fault → List ℕ
message_of (NotUtf8 k) = codes "line " ++ decimal k ++ codes " is not UTF-8"
message_of TooManyWords = codes "too many words"
message_of NoSuchFile = codes "no such file"
message_of NotOpened = codes "can't be opened"
message_of ReaderGone = codes "the reader has gone"
message_of (Stream fault) = stream_message fault

-- 2 for lines that are wrong, 1 for what the system refuses and for numbers that are used up
abbrev pub status_of : Fault → ℕ
status_of (NotUtf8 k) = 2
status_of TooManyWords = 1
status_of NoSuchFile = 1
status_of NotOpened = 1
status_of ReaderGone = 1
status_of (Stream fault) = 1

-- whether a read has failed
abbrev pub is_of_input : StreamFault → Bool
is_of_input ReadFailed = true
is_of_input WriteFailed = false
is_of_input NoMemory = false

-- whether the text that is read is to blame
abbrev pub is_of_text : Fault → Bool
is_of_text (NotUtf8 k) = true
is_of_text TooManyWords = false
is_of_text NoSuchFile = true
is_of_text NotOpened = true
is_of_text ReaderGone = false
is_of_text (Stream fault) = is_of_input fault
