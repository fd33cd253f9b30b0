-- The text of what a finished call is told.
use Rattle.std.specs.Prelude.{ℕ, List, ◌++◌, codes, decimal}
use Rattle.tool_commands.specs.Replies.{number_list}
use Rattle.table_core.specs.Replies.{Reply, ReplyPlaced, ReplyFound, ReplyRefused, ReplySome, ReplyNone, ReplyLen, ReplyWalk, Finished}

-- what a call is told, behind its number
abbrev pub told_text : Reply → List ℕ
told_text (ReplyPlaced v) = codes "placed " ++ decimal v
told_text (ReplyFound e v) = codes "found " ++ decimal e ++ codes " back " ++ decimal v
told_text (ReplyRefused v) = codes "refused " ++ decimal v
told_text (ReplySome e) = codes "some " ++ decimal e
told_text ReplyNone = codes "none"
told_text (ReplyLen k) = codes "len " ++ decimal k
told_text (ReplyWalk es) = codes "walk " ++ number_list es

-- the number of the call, and what it is told
abbrev pub answer_text : Finished → List ℕ
answer_text f = decimal f.call ++ codes " " ++ told_text f.reply
