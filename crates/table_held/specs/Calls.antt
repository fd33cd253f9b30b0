-- Calls on a table and their replies, as calls on the list object and its replies.
use Rattle.std.specs.Prelude.{◌≡◌, Bool, List, [], ◌∷◌, Option, Some, None, map}
use Rattle.std.specs.Borrow.{Bor}
use Rattle.std.specs.Fn.{Shared, FnReturns}
use Rattle.table_terms.specs.ListObject.{ListCall, ListReply, Insert, Lookup, Length, Placed, Found, Refused, Shown, Absent, Counted, Walked, IsListRun}
use Rattle.table_held.specs.declared.runs.Call.{Call}
use Rattle.table_held.specs.declared.runs.Reply.{Reply}
use Rattle.table_held.specs.declared.runs.Call.TheVariants as call
use Rattle.table_held.specs.declared.runs.Reply.TheVariants as reply

-- what a closure may return at a `&` to x and one to y
pub record FnReturnsAtTwo {F X Y R : Type 0} (g : Shared F (Bor X × (Bor Y × Unit {0})) R) (f : F)
    (x : X) (y : Y) (r : R) : Type 0 where
  pub first : Bor X
  pub second : Bor Y
  pub shows : (first.now ≡ x) × (second.now ≡ y)
  pub says : FnReturns g f (first, (second, tt)) r

-- the values that a call hands in
abbrev pub given : {T K : Type 0} → Call T K → List T
given (call.Insert hash value) = value ∷ []
given (call.Lookup hash key) = []
given call.Len = []

-- the values that a reply hands back
abbrev pub handed_back : {T U : Type 0} → Reply T U → List T
handed_back (reply.Placed shown) = []
handed_back (reply.Found shown back) = back ∷ []
handed_back (reply.Refused back) = back ∷ []
handed_back (reply.Some shown) = []
handed_back reply.None = []
handed_back (reply.Len count) = []

module _ {T U : Type 0} (target : T → U) where
  -- what the list object tells, as a reply that shows an entry by its target
  abbrev pub shown_as : ListReply T → Option (Reply T U)
  shown_as (Placed e) = Some (reply.Placed (target e))
  shown_as (Found e back) = Some (reply.Found (target e) back)
  shown_as (Refused back) = Some (reply.Refused back)
  shown_as (Shown e) = Some (reply.Some (target e))
  shown_as Absent = Some reply.None
  shown_as (Counted k) = Some (reply.Len k)
  shown_as (Walked es) = None

  -- the call, as one on the list object; `meets` says which targets meet a key
  abbrev pub asked : {K : Type 0} → (K → U → Bool) → Call T K → ListCall T
  asked meets (call.Insert hash value) = Insert value
  asked meets (call.Lookup hash key) = Lookup (λ v. meets key (target v))
  asked meets call.Len = Length

  -- the replies to the calls are those of a list run from M to N
  pub record IsRepliedAsList {K : Type 0} (same : U → U → Bool) (meets : K → U → Bool) (M : List T)
      (calls : List (Call T K)) (replies : List (Reply T U)) (N : List T) : Type 0 where
    pub told : List (ListReply T)
    pub shown : map shown_as told ≡ map (λ r. Some r) replies
    pub run : IsListRun (λ v w. same (target v) (target w)) M (map (asked meets) calls) told N
