-- What holds of every schedule, whatever the closures answer.
use Rattle.std.specs.Prelude.{ℕ, ◌+◌, ◌-◌, ◌*◌, ◌/◌, ◌^◌, ◌==◌, ◌≡◌, ◌≤◌, ◌⊎◌, max}
use Rattle.std.specs.Prelude.{count_by}
use Rattle.std.specs.Prelude.{Bool, true, false, Option, Some, None, List, [], ◌∷◌, ◌++◌, length}
use Rattle.std.specs.Option.{is_some}
use Rattle.table_core.specs.Bags.{SameBag}
use Rattle.table_core.specs.Replies.{Reply, ReplyPlaced, ReplyFound, ReplyRefused, ReplySome}
use Rattle.table_core.specs.Replies.{ReplyNone, ReplyLen, ReplyWalk, Finished}
use Rattle.table_core.specs.Generations.{Gen, current}
use Rattle.table_terms.specs.Hashes.{bits_of}
use Rattle.table_core.specs.Calls.{Call, call_numbered, is_finished, holds_shared}
use Rattle.table_core.specs.Machine.{empty, Begins, acts, after, finishes}
use Rattle.table_core.specs.History.{replies, fate, placed, given, back, kept, running, buckets}
use Rattle.table_core.specs.History.{added, placed_told, reads, generations_loaded, beginnings}
use Rattle.table_core.specs.History.{TakenEvent, bucket_then, has_later}
use Rattle.table_core.specs.declared.event.Event.{Event}
use Rattle.table_core.specs.declared.event.Event.TheVariants.{Insert, Lookup, Len, Walk, Load}
use Rattle.table_core.specs.declared.event.Event.TheVariants.{Read, Put, Check}
use Rattle.table_core.specs.declared.generation.Entry.{Entry}
use Rattle.table_core.specs.declared.call.CallState.{CallState}
use Rattle.table_core.specs.declared.call.Phase.{Phase}
use Rattle.table_core.specs.declared.call.Phase.TheVariants.{AtEmpty, Owned}
use Rattle.table_core.specs.declared.call.Answer.{Answer}
use Rattle.table_core.specs.declared.call.Answer.TheVariants.{MemoryRefused, Failed}

-- after this schedule, this event ends a call with this reply
abbrev pub Ends : ℕ → List Event → Event → Finished → Type 0
Ends f s x r = finishes (after f s) x ≡ Some r

-- the values of the inserts that have begun are those handed back, those kept and those of calls
-- that still run
abbrev pub ValuesStay : ℕ → List Event → Type 0
ValuesStay f s = SameBag (given (empty f) s)
    (back (replies (empty f) s) ++ kept (after f s) ++ running (after f s).calls)

-- the current generation holds what was placed, up to order
abbrev pub KeptIsPlaced : ℕ → List Event → Type 0
KeptIsPlaced f s = SameBag (kept (after f s)) (placed (empty f) s)

-- what was placed stays, and more comes only after it
abbrev pub PlacedGrows : ℕ → List Event → List Event → Type 0
PlacedGrows f s more =
    (rest : List ℕ) × (placed (empty f) (s ++ more) ≡ placed (empty f) s ++ rest)

-- Answers

-- the entry that a reply names
abbrev pub entry_named : Reply → Option ℕ
entry_named (ReplyFound e v) = Some e
entry_named (ReplySome e) = Some e
entry_named _ = None

-- the closure's yes that a read carries, or a put that is granted its memory
abbrev pub says_yes : Event → Bool
says_yes (Read n y) = y
says_yes (Put n y true) = y
says_yes _ = false

-- an event of a call in this state says yes to an entry, whose bits are those of the call's hash
pub record SaysYes (x : Event) (s : CallState) (e : Entry) : Type 0 where
  pub yes : says_yes x ≡ true
  pub bits : e.bits ≡ bits_of s.hash

-- call n read or met this entry at an event where its bits agreed and the closure said yes
pub record AcceptedEntry (f : ℕ) (s : List Event) (n e : ℕ) : Type 0 where
  pub at : TakenEvent f s n
  pub entry : Entry
  pub accepted : SaysYes at.event at.call.state entry
  pub there : bucket_then f s n at ≡ Some entry
  pub value : entry.value ≡ e

-- what a call may be told that begins at this event: an insert what became of its own value, each
-- other call what it asked for
abbrev pub MayTell : Event → Reply → Type 0
MayTell (Insert n v h) (ReplyPlaced u) = u ≡ v
MayTell (Insert n v h) (ReplyFound e u) = u ≡ v
MayTell (Insert n v h) (ReplyRefused u) = u ≡ v
MayTell (Lookup n h) (ReplySome e) = Unit {0}
MayTell (Lookup n h) ReplyNone = Unit {0}
MayTell (Len n) (ReplyLen k) = Unit {0}
MayTell (Walk n) (ReplyWalk es) = Unit {0}
MayTell _ _ = ⊥

-- a reply is its call's own: the schedule has one taken event at which that call begins, and by
-- that event it may be told this
pub record IsOwn (f : ℕ) (s : List Event) (r : Finished) : Type 0 where
  pub start : Event
  pub once : beginnings (empty f) s r.call ≡ start ∷ []
  pub reply : MayTell start r.reply

-- a call is told its own value, and only an entry that it has accepted
pub record IsOwnAnswer (f : ℕ) (s : List Event) (x : Event) (r : Finished) : Type 0 where
  pub own : IsOwn f s r
  pub accepted : (e : ℕ) → entry_named r.reply ≡ Some e → AcceptedEntry f (s ++ x ∷ []) r.call e

-- so is each call that an event ends
abbrev pub OwnAnswers : ℕ → List Event → Event → Finished → Type 0
OwnAnswers f s x r = Ends f s x r → IsOwnAnswer f s x r

-- a call is told at most one thing
abbrev pub ToldOnce : ℕ → List Event → ℕ → Type 0
ToldOnce f s n = count_by (λ r. r.call == n) (replies (empty f) s) ≤ 1

-- a call is finished exactly when it was told its reply
abbrev pub ToldAtEnd : ℕ → List Event → ℕ → Type 0
ToldAtEnd f s n = is_finished (call_numbered n (after f s).calls) ≡ is_some (fate (empty f) s n)

-- why a call may be refused at an event, by what it found there: its memory was asked for and
-- refused, or there is no greater capacity
abbrev pub IsCause : Option Gen → Event → Answer → Type 0
IsCause g (Put n y granted) MemoryRefused = granted ≡ false
IsCause None (Check n granted) Failed = granted ≡ false
IsCause (Some g) (Check n granted) Failed =
    (g.capacity / 2 ≤ g.size) × ((granted ≡ false) ⊎ (g.capacity ≡ 2 ^ 63))
IsCause g _ _ = ⊥

-- a put or a check
abbrev pub is_put_or_check : Phase → Answer → Bool
is_put_or_check AtEmpty a = true
is_put_or_check Owned a = true
is_put_or_check _ a = false

-- the last put or check of call n had a cause, and its value is placed at no moment
pub record IsRefusal (f : ℕ) (s : List Event) (n v : ℕ) : Type 0 where
  pub at : TakenEvent f s n
  pub cause : IsCause (current (after f at.before).table) at.event at.found
  pub last : has_later is_put_or_check (after f (at.before ++ at.event ∷ [])) at.rest n ≡ false
  pub never : (more : List Event) → count_by (λ u. u == v) (placed (empty f) (s ++ more)) ≡ 0

-- so is each call that an event ends with a refusal
abbrev pub RefusalCauses : ℕ → List Event → Event → ℕ → ℕ → Type 0
RefusalCauses f s x n v =
    Ends f s x (record { call = n; reply = ReplyRefused v }) → IsRefusal f (s ++ x ∷ []) n v

-- Lengths and walks

-- a length lies between the adds taken at its load and what is placed at its end, and is at least
-- the number of inserts told Placed before its load
pub record IsBetween (f : ℕ) (s : List Event) (n k : ℕ) : Type 0 where
  pub at : TakenEvent f s n
  pub loads : at.event ≡ Load n
  pub least : added (empty f) at.before ≤ k
  pub reply : placed_told (replies (empty f) at.before) ≤ k
  pub most : k ≤ length (placed (empty f) s)

-- so is each length that an event ends
abbrev pub LengthsBetween : ℕ → List Event → Event → ℕ → ℕ → Type 0
LengthsBetween f s x n k =
    Ends f s x (record { call = n; reply = ReplyLen k }) → IsBetween f (s ++ x ∷ []) n k

-- an insert is counted before it is told Placed: no more are told so than adds were taken
abbrev pub PlacedAreCounted : ℕ → List Event → Type 0
PlacedAreCounted f s = placed_told (replies (empty f) s) ≤ added (empty f) s

-- a walk holds no value twice, each that was placed at its load, and only values placed at its end
pub record IsWholeWalk (f : ℕ) (s : List Event) (n : ℕ) (list : List ℕ) : Type 0 where
  pub at : TakenEvent f s n
  pub loads : at.event ≡ Load n
  pub once : (v : ℕ) → count_by (λ u. u == v) list ≤ 1
  pub all : (v : ℕ) →
      count_by (λ u. u == v) (placed (empty f) at.before) ≤ count_by (λ u. u == v) list
  pub only : (v : ℕ) → count_by (λ u. u == v) list ≤ count_by (λ u. u == v) (placed (empty f) s)

-- so is each walk that an event ends
abbrev pub WalksWhole : ℕ → List Event → Event → ℕ → List ℕ → Type 0
WalksWhole f s x n list =
    Ends f s x (record { call = n; reply = ReplyWalk list }) → IsWholeWalk f (s ++ x ∷ []) n list

-- Growth

-- while a call holds the lock shared, as each does that puts its value, no generation is being
-- built
abbrev pub GrowsAlone : ℕ → List Event → ℕ → Call → Type 0
GrowsAlone f s n c = call_numbered n (after f s).calls ≡ Some c →
    holds_shared c.state.phase ≡ true → (after f s).table.building ≡ None

-- Bounds

-- all generations together have few buckets
abbrev pub FewBuckets : ℕ → List Event → Type 0
FewBuckets f s =
    let n = length (placed (empty f) s) in buckets (after f s).table ≤ max f (8 * n - f)

-- a look-up that was begun takes at most one read more than there are values placed
abbrev pub LookupsReadFew : ℕ → List Event → ℕ → ℕ → List Event → Type 0
LookupsReadFew f s n h more =
    (c : Call) → acts (after f s) (Lookup n h) ≡ Some (Begins c) →
    reads (empty f) (s ++ Lookup n h ∷ more) n ≤ length
    (placed (empty f) (s ++ Lookup n h ∷ more)) + 1

-- a call loads each generation at most once
abbrev pub LoadsOnce : ℕ → List Event → ℕ → ℕ → Type 0
LoadsOnce f s n g = count_by (λ k. k == g) (generations_loaded (empty f) s n) ≤ 1
