-- What a finished call is told, in the list object's words.
use Rattle.std.specs.Prelude.{ℕ}
use Rattle.table_core.specs.ListObject.{ListReply}
pub use Rattle.table_core.specs.ListObject.{Placed as ReplyPlaced, Found as ReplyFound}
pub use Rattle.table_core.specs.ListObject.{Refused as ReplyRefused, Shown as ReplySome}
pub use Rattle.table_core.specs.ListObject.{Absent as ReplyNone, Counted as ReplyLen}
pub use Rattle.table_core.specs.ListObject.{Walked as ReplyWalk}
use Rattle.table_core.specs.declared.reply.Reply.{Reply as RustReply}
use Rattle.table_core.specs.declared.reply.Reply.TheVariants.{Placed, Found, Refused, Some, None}
use Rattle.table_core.specs.declared.reply.Reply.TheVariants.{Len, Walk}

-- what a finished call is told: its value is an entry now (ReplyPlaced); an entry was accepted, and
-- its value comes back (ReplyFound); its value comes back, as memory was refused, for its entry or
-- for growth, or the table can't grow (ReplyRefused); a look-up accepted an entry (ReplySome), or
-- none (ReplyNone); a length (ReplyLen); the list of a walk (ReplyWalk)
abbrev pub Reply : Type 0
Reply = ListReply ℕ

-- a call's number, and what it is told
pub record Finished : Type 0 where
  pub call : ℕ
  pub reply : Reply

-- the reply that a reply of the code stands for
abbrev pub reply_of : {A : Type 0} → RustReply A → Reply
reply_of (Placed v) = ReplyPlaced v
reply_of (Found e v) = ReplyFound e v
reply_of (Refused v) = ReplyRefused v
reply_of (Some e) = ReplySome e
reply_of None = ReplyNone
reply_of (Len k) = ReplyLen k
reply_of (Walk es) = ReplyWalk es.items
