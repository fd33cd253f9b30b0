-- What holds of every lawful schedule: it is a growing list without equal entries.
use Rattle.std.specs.Prelude.{ℕ, ◌==◌, ◌&&◌, ◌≡◌, ◌≢◌, ◌≤◌, ◌⊎◌, if◌then◌else◌, Bool, true, false}
use Rattle.std.specs.Prelude.{count_by}
use Rattle.std.specs.Prelude.{not, Option, Some, None, List, [], ◌∷◌, ◌++◌, map, Contains}
use Rattle.std.specs.List.{list_any, list_all}
use Rattle.table_core.specs.ListObject.{ListCall, Answers, IsListRun}
use Rattle.table_core.specs.ListObject.{Insert as AskInsert, Lookup as AskLookup}
use Rattle.table_core.specs.ListObject.{Length as AskLength, Walk as AskWalk}
use Rattle.table_core.specs.Bags.{SameBag}
use Rattle.table_core.specs.Replies.{Reply, ReplyPlaced, ReplyFound, ReplyRefused, ReplySome}
use Rattle.table_core.specs.Replies.{ReplyNone, ReplyLen, ReplyWalk, Finished}
use Rattle.table_core.specs.Calls.{Call, is_done}
use Rattle.table_core.specs.Machine.{World, empty, Act, Begins, Goes, acts, happens, after}
use Rattle.table_core.specs.Machine.{finishes}
use Rattle.table_core.specs.History.{replies, fate, placed, placed_by, given, kept, beginnings}
use Rattle.table_core.specs.History.{TakenEvent, bucket_then, has_later}
use Rattle.table_core.specs.Law.{Law, IsLawful}
use Rattle.table_terms.specs.Laws.{AllApart}
use Rattle.table_core.specs.Values.{Ends, entry_named, IsOwn}
use Rattle.table_core.specs.declared.event.Event.{Event}
use Rattle.table_core.specs.declared.event.Event.TheVariants.{Insert}
use Rattle.table_core.specs.declared.generation.Entry.{Entry}
use Rattle.table_core.specs.declared.call.Phase.{Phase}
use Rattle.table_core.specs.declared.call.Phase.TheVariants.{Probe, AtEmpty, Owned, LookLoad}
use Rattle.table_core.specs.declared.call.Phase.TheVariants.{LookProbe}
use Rattle.table_core.specs.declared.call.Answer.{Answer}
use Rattle.table_core.specs.declared.call.Answer.TheVariants.{Empty, Holds, Won, Failed}

-- The list object's words for what a call asks

-- what a call asks that is told this: a look-up asks by its test
abbrev pub asked_for : Law → ℕ → Reply → ListCall ℕ
asked_for l n (ReplyPlaced v) = AskInsert v
asked_for l n (ReplyFound e v) = AskInsert v
asked_for l n (ReplyRefused v) = AskInsert v
asked_for l n (ReplySome e) = AskLookup (l.test n)
asked_for l n ReplyNone = AskLookup (l.test n)
asked_for l n (ReplyLen k) = AskLength
asked_for l n (ReplyWalk es) = AskWalk

-- what the call of a reply asks
abbrev pub asked : Law → Finished → ListCall ℕ
asked l r = asked_for l r.call r.reply

-- the reply of an insert or a look-up
abbrev pub is_list_reply : Reply → Bool
is_list_reply (ReplyLen _) = false
is_list_reply (ReplyWalk _) = false
is_list_reply _ = true

-- whether a reply is a refusal
abbrev pub is_refusal : Reply → Bool
is_refusal (ReplyRefused _) = true
is_refusal _ = false

-- Moments

-- the moment of a reply: the load of a None, the read of a Some, the put of a Placed, the read or
-- put that met the entry of a Found, and of a Refused the read of an empty bucket or the failed
-- check
abbrev pub is_moment : Reply → Phase → Answer → Bool
is_moment ReplyNone LookLoad a = true
is_moment (ReplySome e) LookProbe (Holds true) = true
is_moment (ReplyPlaced v) AtEmpty Won = true
is_moment (ReplyFound e v) Probe (Holds true) = true
is_moment (ReplyFound e v) AtEmpty (Holds true) = true
is_moment (ReplyRefused v) Probe Empty = true
is_moment (ReplyRefused v) Owned Failed = true
is_moment _ _ _ = false

-- an insert reads an empty bucket, or its check fails: it may be refused from here on
abbrev pub may_be_refused : Phase → Answer → Bool
may_be_refused Probe Empty = true
may_be_refused Owned Failed = true
may_be_refused _ _ = false

-- the bucket holds the entry that the reply names
abbrev pub Meets : Reply → Option Entry → Type 0
Meets t o = (e : ℕ) → entry_named t ≡ Some e → (d : Entry) × (o ≡ Some d) × (d.value ≡ e)

-- at its moment, which is an event of its span, a reply is the list object's on what was placed;
-- a refusal's moment is the last that it may have
pub record IsRight (l : Law) (f : ℕ) (s : List Event) (r : Finished) : Type 0 where
  pub at : TakenEvent f s r.call
  pub moment : is_moment r.reply at.call.state.phase at.found ≡ true
  pub last : is_refusal r.reply ≡ true →
      has_later may_be_refused (after f (at.before ++ at.event ∷ [])) at.rest r.call ≡ false
  pub meets : Meets r.reply (bucket_then f s r.call at)
  pub answer : Answers l.equal (placed (empty f) at.before) (asked l r) r.reply
      (placed (empty f) (at.before ++ at.event ∷ []))

-- each finished insert and look-up is right: what its reply says was asked is what its own call
-- asked when it began, and the answer is the list object's
abbrev pub Right : Law → ℕ → List Event → Event → Finished → Type 0
Right l f s x r = IsLawful l f (s ++ x ∷ []) → Ends f s x r → is_list_reply r.reply ≡ true →
    IsOwn f s r × IsRight l f (s ++ x ∷ []) r

-- One history

-- the insert that places its value here, and isn't told so in this schedule
abbrev pub placed_here : ℕ → List ℕ → List Finished
placed_here n vs = map (λ v. record { call = n; reply = ReplyPlaced v }) vs

-- the reply, where this is its moment, and no later one
abbrev pub reply_here : Phase → Answer → Finished → Bool → List Finished
reply_here p a r later =
    if is_moment r.reply p a && not (is_refusal r.reply && later) then r ∷ [] else []

-- what stands in the history at this answer of a call
abbrev pub stands_here : Call → Answer → Option Finished → Bool → List Finished
stands_here c a None later = placed_here c.number (placed_by (Some (Goes c a)))
stands_here c a (Some r) later = reply_here c.state.phase a r later

-- what stands in the history at this event
abbrev pub history_at : World → Event → List Event → Option Act → List Finished
history_at w x xs (Some (Goes c a)) =
    stands_here c a (fate w (x ∷ xs) c.number) (has_later may_be_refused (happens w x) xs c.number)
history_at w x xs _ = []

-- the inserts and look-ups that finish, each at its moment, and the inserts that place and don't
-- finish, each at its put
abbrev pub history : World → List Event → List Finished
history w [] = []
history w (x ∷ xs) = history_at w x xs (acts w x) ++ history (happens w x) xs

-- an insert that has placed its value and isn't finished
pub record HasPlaced (f : ℕ) (s : List Event) (r : Finished) : Type 0 where
  pub own : IsOwn f s r
  pub value : ℕ
  pub reply : r.reply ≡ ReplyPlaced value
  pub placed : Contains (placed (empty f) s) value
  pub unfinished : fate (empty f) s r.call ≡ None

-- the schedule has one taken event at which this call begins
abbrev pub HasBegun : ℕ → List Event → ℕ → Type 0
HasBegun f s n = (start : Event) × (beginnings (empty f) s n ≡ start ∷ [])

-- at any cut of the schedule, what stands before it are calls that have begun, and what stands
-- behind it are calls that haven't finished
pub record IsInOrder (f : ℕ) (s more : List Event) : Type 0 where
  pub before : List Finished
  pub split : history (empty f) (s ++ more) ≡ before ++ history (after f s) more
  pub begun : (r : Finished) → Contains before r → HasBegun f s r.call
  pub unfinished : (r : Finished) → Contains (history (after f s) more) r →
      fate (empty f) s r.call ≡ None

-- the history is one run of the list object, of each call once, and of nothing else
pub record IsOneHistory (l : Law) (f : ℕ) (s : List Event) : Type 0 where
  -- the history is a run of the list object, which ends with what was placed
  pub run : IsListRun l.equal [] (map (asked l) (history (empty f) s))
      (map (λ r. r.reply) (history (empty f) s)) (placed (empty f) s)
  -- each finished insert and look-up stands in it
  pub each : (r : Finished) → Contains (replies (empty f) s) r → is_list_reply r.reply ≡ true →
      Contains (history (empty f) s) r
  -- no call stands in it twice
  pub once : (n : ℕ) → count_by (λ r. r.call == n) (history (empty f) s) ≤ 1
  -- what stands in it is finished, or has placed its value
  pub only : (r : Finished) → Contains (history (empty f) s) r → Contains (replies (empty f) s) r ⊎
      HasPlaced f s r
  -- and asks what its own call asked when it began: an insert of its value, a look-up by its test
  pub own : (r : Finished) → Contains (history (empty f) s) r → IsOwn f s r

-- the finished inserts and look-ups, with the inserts that have placed, are one run of the list
-- object
abbrev pub OneHistory : Law → ℕ → List Event → Type 0
OneHistory l f s = IsLawful l f s → IsOneHistory l f s

-- a call that finished before another began stands before it, whatever the closures answer
abbrev pub InOrder : ℕ → List Event → List Event → Type 0
InOrder f s more = IsInOrder f s more

-- Equal values

-- no two values that were placed are equal
abbrev pub PlacedApart : Law → ℕ → List Event → Type 0
PlacedApart l f s = IsLawful l f s → AllApart l.equal (placed (empty f) s)

-- no taken insert is refused whose equal entry was placed when it began
abbrev pub NoneRefusedInVain : Law → ℕ → List Event → ℕ → ℕ → ℕ → List Event → Event → ℕ → Type 0
NoneRefusedInVain l f s n v h more x back =
    (c : Call) → IsLawful l f (s ++ Insert n v h ∷ more ++ x ∷ []) →
    acts (after f s) (Insert n v h) ≡ Some (Begins c) →
    list_any (l.equal v) (placed (empty f) s) ≡ true →
    finishes (after f (s ++ Insert n v h ∷ more)) x ≢ Some
    (record { call = n; reply = ReplyRefused back })

-- Classes

-- a lawful schedule in which all calls have finished and none was refused
pub record IsSettled (l : Law) (f : ℕ) (s : List Event) : Type 0 where
  pub lawful : IsLawful l f s
  pub finished : list_all (λ c. is_done c.state.phase) (after f s).calls ≡ true
  pub unrefused : list_any (λ r. is_refusal r.reply) (replies (empty f) s) ≡ false

-- then each class of the values handed in has exactly one entry, and there are no other entries
abbrev pub Classes : Law → ℕ → List Event → Type 0
Classes l f s =
    IsSettled l f s → (x : ℕ) →
    count_by (l.equal x) (kept (after f s)) ≡
    (if list_any (l.equal x) (given (empty f) s) then 1 else 0)

-- so another such schedule of the same inserts, as one of one thread, has the same classes
abbrev pub SameClasses : Law → ℕ → List Event → Law → ℕ → List Event → Type 0
SameClasses l f s k g t =
    IsSettled l f s → IsSettled k g t → ((a b : ℕ) → l.equal a b ≡ k.equal a b) →
    SameBag (given (empty f) s) (given (empty g) t) → (x : ℕ) →
    count_by (l.equal x) (kept (after f s)) ≡ count_by (l.equal x) (kept (after g t))
