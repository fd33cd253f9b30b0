-- One invariant over whole schedules.
use Rattle.std.proofs.Common.{ℕ, ◌≡◌, ◌+◌, ◌++◌, List, [], ◌∷◌, refl, Option, Some, length, ap, arith, ◌∙◌}
use Rattle.std.specs.Prelude.{option_to_list, slice_set}
use Rattle.table_core.proofs.Weights.{weigh, SameWeights, same_bag}
use Rattle.table_core.specs.Calls.{Call, starts}
use Rattle.table_core.specs.Steps.{left, Opens, opens_insert, opens_lookup, opens_len, opens_walk}
use Rattle.table_core.proofs.Lists.{weigh-append, weigh-set, weigh-flat_map}
use Rattle.table_core.specs.Replies.{Finished}
use Rattle.table_terms.specs.Capacities.{IsFirstCapacity}
use Rattle.table_core.specs.Machine.{World, empty, Act, Begins, acts, happens, run, after}
use Rattle.table_core.specs.History.{replies, placed_by, placed, given_by, given, back, kept, running}
use Rattle.table_core.specs.declared.event.Event.{Event}
use Rattle.table_core.specs.declared.call.Phase.{Phase}
use Rattle.table_core.proofs.Locks.{more, keeps_locks, locked_empty}
use Rattle.table_core.specs.Values.{ValuesStay, KeptIsPlaced, PlacedGrows, FewBuckets}
use Rattle.table_core.proofs.Turns.{Turn, rests, opens, takes}
use Rattle.table_core.proofs.Pasts.{turn_after, placed_snoc, replies_snoc, by_snoc, placed_append}
use Rattle.table_core.proofs.Standing.{keeps_calls, calls_empty}
use Rattle.table_core.proofs.Facts.{Inv}
use Rattle.table_core.proofs.Numbers.{keeps_numbered, numbered_empty, keeps_valued, valued_empty}
use Rattle.table_core.proofs.Contents.{keeps_holding, holding_empty}
use Rattle.table_core.proofs.Within.{keeps_within, within_empty}
use Rattle.table_core.proofs.Sizes.{keeps_sized, sized_empty, keeps_roomy, roomy_empty, few_buckets_at, same_first}
use Rattle.table_core.proofs.Seats.{keeps_seated, seated_empty}
use Rattle.table_core.proofs.Tracks.{keeps_tracked, tracked_empty}
use Rattle.table_core.proofs.Places.{carried, keeps_placing, placing_empty, values_stay_at, kept_is_placed_at}

-- each turn keeps all of it
pub keeps : {w v : World} {x : Event} {a : Option Act} {r : Option Finished} (m : List ℕ) (rs : List Finished) → Turn w x a v r → Inv w m rs → Inv v (m ++ placed_by a) (rs ++ option_to_list r)
keeps m rs s i = record {
  locked = keeps_locks s i.locked;
  calls = keeps_calls s i.locked i.calls;
  numbered = keeps_numbered s i.numbered;
  valued = keeps_valued s i.valued;
  holding = keeps_holding m s i.locked i.calls i.holding;
  within = keeps_within m s i.locked i.calls i.holding i.within;
  sized = keeps_sized s i.locked i.calls i.sized;
  roomy = keeps_roomy m s i.locked i.calls i.sized i.holding i.roomy;
  seated = keeps_seated m (length m) s i.holding i.roomy i.tracked i.seated;
  tracked = keeps_tracked s i.calls i.seated i.tracked;
  placing = keeps_placing m rs s i.calls i.tracked i.placing;
}

pub inv_empty : (f : ℕ) → IsFirstCapacity f → Inv (empty f) [] []
inv_empty f h = record {
  locked = locked_empty f;
  calls = calls_empty f;
  numbered = numbered_empty f;
  valued = valued_empty f;
  holding = holding_empty f;
  within = within_empty f;
  sized = sized_empty f;
  roomy = roomy_empty f h;
  seated = seated_empty f h;
  tracked = tracked_empty f;
  placing = placing_empty f;
}

abbrev pub InvAfter : ℕ → List Event → Type 0
InvAfter f s = Inv (after f s) (placed (empty f) s) (replies (empty f) s)

pub inv_snoc : (f : ℕ) (s : List Event) (x : Event) → InvAfter f s → InvAfter f (s ++ x ∷ [])
inv_snoc f s x i = rw (placed_snoc f s x, replies_snoc f s x) (keeps (placed (empty f) s) (replies (empty f) s) (turn_after f s x) i)

-- the invariant of each moment
pub inv : (f : ℕ) → IsFirstCapacity f → (s : List Event) → InvAfter f s
inv f h s = by_snoc (InvAfter f) (inv_empty f h) (inv_snoc f) s

pub first_stays : (f : ℕ) (s : List Event) → (after f s).table.first ≡ f
first_stays f s = by_snoc (λ s. (after f s).table.first ≡ f) refl (λ s x e. same_first (turn_after f s x) ∙ e) s

-- What it says of values and buckets

-- what was given is what the calls carry

given_append : (h : ℕ → ℕ) (s more : List Event) (w : World) → weigh h (given w (s ++ more)) ≡ weigh h (given w s) + weigh h (given (run w s) more)
given_append h [] more w = omega arith
given_append h (x ∷ s) more w = rw (weigh-append, weigh-append) (omega (arith, given_append h s more (happens w x)))

given_opens : (c : Call) {x : Event} {n : ℕ} {v : Option ℕ} {p : Phase} {k : ℕ} → Opens x n v p k → given_by (Some (Begins c)) x ≡ option_to_list v
given_opens c (opens_insert n v k) = refl
given_opens c (opens_lookup n k) = refl
given_opens c (opens_len n) = refl
given_opens c (opens_walk n) = refl

carried_turn : (h : ℕ → ℕ) {w v : World} {x : Event} {a : Option Act} {r : Option Finished} → Turn w x a v r → weigh h (carried v.calls) ≡ weigh h (carried w.calls) + weigh h (given_by a x)
carried_turn h rests = omega arith
carried_turn h {w = w} (opens n v p k i o u g) =
    let all : (cs : List Call) → weigh h (carried cs) ≡ weigh (λ c. weigh h (option_to_list c.value)) cs = weigh-flat_map h (λ (c : Call). option_to_list c.value) in
    omega (arith, ap (weigh h) (given_opens (starts n v p k) o), all w.calls, all (w.calls ++ starts n v p k ∷ []), weigh-append (λ (c : Call). weigh h (option_to_list c.value)) w.calls (starts n v p k ∷ []))
carried_turn h {w = w} (takes i c p a s list t o g e row q) =
    let all : (cs : List Call) → weigh h (carried cs) ≡ weigh (λ c. weigh h (option_to_list c.value)) cs = weigh-flat_map h (λ (c : Call). option_to_list c.value) in
    omega (arith, all w.calls, all (slice_set w.calls i (left c s list)), weigh-set (λ (c : Call). weigh h (option_to_list c.value)) w.calls i c (left c s list) g)

given_is_carried : (h : ℕ → ℕ) (f : ℕ) (s : List Event) → weigh h (given (empty f) s) ≡ weigh h (carried (after f s).calls)
given_is_carried h f s = by_snoc (λ s. weigh h (given (empty f) s) ≡ weigh h (carried (after f s).calls)) refl
    (λ s x e. omega (arith, e, given_append h s (x ∷ []) (empty f), weigh-append h (given_by (acts (after f s) x) x) [], carried_turn h (turn_after f s x))) s

pub carried_stay : (f : ℕ) (s : List Event) → IsFirstCapacity f → SameWeights (carried (after f s).calls) (back (replies (empty f) s) ++ kept (after f s) ++ running (after f s).calls)
carried_stay f s h = let i = inv f h s in values_stay_at (after f s) (placed (empty f) s) (replies (empty f) s) i.calls i.holding i.placing

pub values_weigh : (f : ℕ) (s : List Event) → IsFirstCapacity f → SameWeights (given (empty f) s) (back (replies (empty f) s) ++ kept (after f s) ++ running (after f s).calls)
values_weigh f s h k = given_is_carried k f s ∙ carried_stay f s h k

pub values_stay : (f : ℕ) (s : List Event) → IsFirstCapacity f → ValuesStay f s
values_stay f s h = same_bag _ _ (values_weigh f s h)

pub kept_weighs : (f : ℕ) (s : List Event) → IsFirstCapacity f → SameWeights (kept (after f s)) (placed (empty f) s)
kept_weighs f s h = kept_is_placed_at (after f s) (placed (empty f) s) (inv f h s).holding

pub kept_is_placed : (f : ℕ) (s : List Event) → IsFirstCapacity f → KeptIsPlaced f s
kept_is_placed f s h = same_bag _ _ (kept_weighs f s h)

pub placed_grows : (f : ℕ) (s more : List Event) → IsFirstCapacity f → PlacedGrows f s more
placed_grows f s more h = (placed (after f s) more, placed_append s more (empty f))

pub few_buckets : (f : ℕ) (s : List Event) → IsFirstCapacity f → FewBuckets f s
few_buckets f s h = rw (first_stays f s) at (few_buckets_at (after f s).table (length (placed (empty f) s)) (inv f h s).roomy)
