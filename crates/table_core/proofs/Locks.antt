-- Who holds the lock.
use Rattle.std.proofs.Common.{ℕ, suc, zero, ◌≡◌, ◌+◌, ◌≤◌, ◌++◌, List, [], ◌∷◌, Bool, true, false, refl, Option, Some, None, arith}
use Rattle.std.specs.Prelude.{◌&&◌, ◌||◌, not, slice_set}
use Rattle.std.specs.List.{slice_get}
use Rattle.table_core.proofs.Weights.{weigh}
use Rattle.table_core.specs.Replies.{Reply, Finished}
use Rattle.table_core.specs.Generations.{Build, Table, copy_on}
use Rattle.table_core.specs.Calls.{Call, starts, holds_shared, holds_owned, is_owned, is_locked}
use Rattle.table_core.specs.Machine.{World, empty, place, Act}
use Rattle.table_core.specs.Steps.{Row, shares, puts, owns, begins_first, begins_next, copies, shows, Opens, opens_insert, left}
use Rattle.table_core.specs.declared.event.Event.{Event}
use Rattle.table_core.specs.declared.generation.Entry.{Entry}
use Rattle.table_core.specs.declared.call.CallState.{CallState}
use Rattle.table_core.specs.declared.call.Phase.{Phase}
use Rattle.table_core.specs.declared.call.Phase.TheVariants.{Owned, Building, LeaveOwned, LeaveFailed}
use Rattle.table_core.specs.declared.call.Answer.{Answer}
use Rattle.table_core.specs.Bound.{one_if}
use Rattle.table_core.proofs.Turns.{Turn, rests, opens, takes}
use Rattle.table_core.proofs.Lists.{weigh-append, weigh-set, none_counted, weigh-plus}

abbrev pub is_building : Phase → Bool
is_building Building = true
is_building _ = false

-- it holds the lock alone, and builds nothing
abbrev pub is_owning : Phase → Bool
is_owning p = holds_owned p && not (is_building p)

abbrev pub sharers : List Call → ℕ
sharers cs = weigh (λ c. one_if (holds_shared c.state.phase)) cs

abbrev pub owners : List Call → ℕ
owners cs = weigh (λ c. one_if (is_owning c.state.phase)) cs

abbrev pub builders : List Call → ℕ
builders cs = weigh (λ c. one_if (is_building c.state.phase)) cs

-- nobody holds the lock exclusively, or one call does and no call shares it
pub data Alone : ℕ → ℕ → Type 0 where
  nobody : (s o : ℕ) → o ≡ 0 → Alone s o
  alone : (s o : ℕ) → o ≡ 1 → s ≡ 0 → Alone s o

pub fewer_of : (t u : ℕ) → t ≡ 0 → u ≤ 1 → Alone t u
fewer_of t zero z y = nobody t zero refl
fewer_of t (suc u) z y = alone t (suc u) (omega arith) z

pub fewer : (s o t u : ℕ) → t ≤ s → u ≤ o → Alone s o → Alone t u
fewer s o t u a b (nobody _ _ z) = nobody t u (omega arith)
fewer s o t u a b (alone _ _ z y) = fewer_of t u (omega arith) (omega arith)

pub move_locks : (w : World) (c : Call) {p : Phase} {ev : Event} {a : Answer} {r : CallState} {ls : List ℕ} {t : Table} {q : Option Reply} → Row w c p ev a r ls t q → (x n b x' n' b' : ℕ) →
    x' + one_if (holds_shared p) ≡ x + one_if (holds_shared r.phase) →
    n' + one_if (is_owning p) ≡ n + one_if (is_owning r.phase) →
    b' + one_if (is_building p) ≡ b + one_if (is_building r.phase) →
    (is_owned w.calls ≡ false → n + b ≡ 0) →
    (is_locked w.calls ≡ false → (n + b ≡ 0) × (x ≡ 0)) →
    Alone x (n + b) → Alone x' (n' + b')
move_locks w c (shares k h) x n b x' n' b' e f g o l al = let z : n + b ≡ 0 = o h in nobody x' (n' + b') (omega arith)
move_locks w c (owns k h) x n b x' n' b' e f g o l al = let z : (n + b ≡ 0) × (x ≡ 0) = l h in alone x' (n' + b') (omega arith) (omega arith)
move_locks w c _ x n b x' n' b' e f g o l al = fewer x (n + b) x' (n' + b') (omega arith) (omega arith) al

pub owned_split : (p : Phase) → one_if (holds_owned p) ≡ one_if (is_owning p) + one_if (is_building p)
owned_split Owned = refl
owned_split Building = refl
owned_split LeaveOwned = refl
owned_split LeaveFailed = refl
owned_split _ = refl

pub or-zero : (a b : Bool) → one_if a ≤ one_if (a || b)
or-zero true b = omega arith
or-zero false b = omega arith

pub or-zero_right : (a b : Bool) → one_if b ≤ one_if (a || b)
or-zero_right true true = omega arith
or-zero_right true false = omega arith
or-zero_right false b = omega arith

pub weigh-le : {X : Type 0} (f g : X → ℕ) → ((x : X) → f x ≤ g x) → (xs : List X) → weigh f xs ≤ weigh g xs
weigh-le f g e [] = omega arith
weigh-le f g e (x ∷ xs) = omega (arith, e x, weigh-le f g e xs)

pub none_owned : (cs : List Call) → is_owned cs ≡ false → owners cs + builders cs ≡ 0
none_owned cs h = let z : weigh (λ c. one_if (holds_owned c.state.phase)) cs ≡ 0 = none_counted (λ (c : Call). holds_owned c.state.phase) cs h in
    let e : weigh (λ c. one_if (holds_owned c.state.phase)) cs ≡ owners cs + builders cs = weigh-plus _ _ _ (λ (c : Call). owned_split c.state.phase) cs in omega arith

pub none_locked : (cs : List Call) → is_locked cs ≡ false → (owners cs + builders cs ≡ 0) × (sharers cs ≡ 0)
none_locked cs h =
    let z : weigh (λ c. one_if (holds_shared c.state.phase || holds_owned c.state.phase)) cs ≡ 0 = none_counted (λ (c : Call). holds_shared c.state.phase || holds_owned c.state.phase) cs h in
    let a : sharers cs ≤ weigh (λ c. one_if (holds_shared c.state.phase || holds_owned c.state.phase)) cs = weigh-le _ _ (λ (c : Call). or-zero (holds_shared c.state.phase) (holds_owned c.state.phase)) cs in
    let b : weigh (λ c. one_if (holds_owned c.state.phase)) cs ≤ weigh (λ c. one_if (holds_shared c.state.phase || holds_owned c.state.phase)) cs = weigh-le _ _ (λ (c : Call). or-zero_right (holds_shared c.state.phase) (holds_owned c.state.phase)) cs in
    let e : weigh (λ c. one_if (holds_owned c.state.phase)) cs ≡ owners cs + builders cs = weigh-plus _ _ _ (λ (c : Call). owned_split c.state.phase) cs in
    (omega arith, omega arith)

-- whether a generation is being built
abbrev pub built_count : Option Build → ℕ
built_count None = 0
built_count (Some b) = 1

pub copy_on_count : (b : Option Build) (e : Entry) (k : ℕ) → built_count (copy_on b e k) ≡ built_count b
copy_on_count None e k = refl
copy_on_count (Some b) e k = refl

pub placed_building : (t : Table) (s : CallState) (v : Option ℕ) → built_count (place t s v).building ≡ built_count t.building
placed_building t s None = refl
placed_building t s (Some v) = refl

pub at_most_one : (b : Option Build) → built_count b ≤ 1
at_most_one None = omega arith
at_most_one (Some b) = omega arith

pub le_one : (s o : ℕ) → Alone s o → o ≤ 1
le_one s o (nobody _ _ z) = omega arith
le_one s o (alone _ _ z y) = omega arith

pub move_building : (w : World) (c : Call) {p : Phase} {ev : Event} {a : Answer} {r : CallState} {ls : List ℕ} {t : Table} {q : Option Reply} → Row w c p ev a r ls t q → (n b n' b' : ℕ) →
    n' + one_if (is_owning p) ≡ n + one_if (is_owning r.phase) →
    b' + one_if (is_building p) ≡ b + one_if (is_building r.phase) →
    n + b ≤ 1 → b ≡ built_count w.table.building →
    b' ≡ built_count t.building
move_building w c (puts k y h) n b n' b' f g l e = omega (arith, placed_building w.table c.state c.value)
move_building w c (begins_first k h) n b n' b' f g l e = omega arith
move_building w c (begins_next k g h m i) n b n' b' f d l e = omega arith
move_building w c (shows k h) n b n' b' f g l e = omega (arith, at_most_one w.table.building)
move_building w c (copies k h e2 m) n b n' b' f g l e = omega (arith, copy_on_count w.table.building e2 h)
move_building w c _ n b n' b' f g l e = omega arith

pub record Locked (w : World) : Type 0 where
  pub alone : Alone (sharers w.calls) (owners w.calls + builders w.calls)
  pub building : builders w.calls ≡ built_count w.table.building

-- the sums over the calls after one of them has moved
pub moved : (f : Phase → ℕ) (cs : List Call) (i : ℕ) (c : Call) (p : Phase) (ws : List ℕ) (r : CallState) → slice_get cs i ≡ Some c → c.state.phase ≡ p →
    weigh (λ c. f c.state.phase) (slice_set cs i (left c r ws)) + f p ≡ weigh (λ c. f c.state.phase) cs + f r.phase
moved f cs i c p ws r h e = rw (← e) (weigh-set (λ (c : Call). f c.state.phase) cs i c (left c r ws) h)

pub more : (f : Phase → ℕ) (cs : List Call) (c : Call) → weigh (λ c. f c.state.phase) (cs ++ c ∷ []) ≡ weigh (λ c. f c.state.phase) cs + f c.state.phase
more f cs c = omega (arith, weigh-append (λ (c : Call). f c.state.phase) cs (c ∷ []))

pub begin_locks : {x : Event} {n : ℕ} {v : Option ℕ} {p : Phase} {h : ℕ} → Opens x n v p h → (one_if (holds_shared p) ≡ 0) × (one_if (is_owning p) ≡ 0) × (one_if (is_building p) ≡ 0)
begin_locks (opens_insert n v h) = (refl, refl, refl)
begin_locks _ = (refl, refl, refl)

pub keeps_locks : {w v : World} {x : Event} {m : Option Act} {r : Option Finished} → Turn w x m v r → Locked w → Locked v
keeps_locks rests l = l
keeps_locks {w = w} (opens n v p h r k u f) l = record {
  alone = fewer _ _ _ _ (omega (arith, more (λ p. one_if (holds_shared p)) w.calls (starts n v p h), begin_locks k)) (omega (arith, more (λ p. one_if (is_owning p)) w.calls (starts n v p h), more (λ p. one_if (is_building p)) w.calls (starts n v p h), begin_locks k)) l.alone;
  building = omega (arith, l.building, more (λ p. one_if (is_building p)) w.calls (starts n v p h), begin_locks k);
}
keeps_locks {w = w} (takes i c p a s list t o g e row nu) l = record {
  alone = move_locks w c row _ _ _ _ _ _ (moved (λ p. one_if (holds_shared p)) w.calls i c p list s g e) (moved (λ p. one_if (is_owning p)) w.calls i c p list s g e) (moved (λ p. one_if (is_building p)) w.calls i c p list s g e) (none_owned w.calls) (none_locked w.calls) l.alone;
  building = move_building w c row _ _ _ _ (moved (λ p. one_if (is_owning p)) w.calls i c p list s g e) (moved (λ p. one_if (is_building p)) w.calls i c p list s g e) (le_one _ _ l.alone) l.building;
}

pub locked_empty : (first : ℕ) → Locked (empty first)
locked_empty first = record { alone = nobody 0 0 refl; building = refl }
