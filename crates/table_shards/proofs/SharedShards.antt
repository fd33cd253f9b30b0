-- Shards of a table that threads share: those that are made or taken out one after another, and a walk over them.
use Rattle.std.proofs.Common.{◌≡◌, ℕ, zero, suc, ◌+◌, ◌*◌, ◌^◌, ◌<◌, ◌≤◌, List, [], ◌∷◌, ◌++◌, Some, None, length, map, drop, get_or, refl, sym, ap, subst, ◌∙◌, arith, inl, inr, append_assoc}
use prog.Align.{up-ge}
use prog.Memory.{up}
use Rattle.std.specs.Array.{IsFromFnResultFrom, index_steps}
use Rattle.std.specs.Fn.{Called}
use denote.Param.Members.{Mut}
use Rattle.std.proofs.lemmas.Bool.{cases_eq}
use Rattle.std.proofs.lemmas.List.{get_or_default, get_or-set_other, length-set, length_push, length-append, drop_more, drop-set, drop-set-lt}
use Rattle.std.specs.List.{flat_map}
use Rattle.std.specs.Prelude.{slice_set}
use Rattle.std.specs.Borrow.{Bor}
use Rattle.table_shared.specs.Tables.{SharedTable}
use Rattle.table_shared.specs.Walks as raw
use Rattle.table_shared.specs.Walks.{WalkView}
use Rattle.table_shards.specs.SharedShards.{AreEmptyShards, ShardWalk, GoesOn, GivesAt, SharesOne, steps_left}
use Rattle.table_held.specs.Table.{HeldTable, empty_table}
use Rattle.table_shards.proofs.Shards.{made_from}

-- a number that a walk over the numbers below n comes to is a place in a list of n
pub inside : {X : Type 0} (n i t u : ℕ) (xs : List X) → length xs ≡ n → index_steps n t (Some i) u → i < length xs
inside n i t u xs long (low, is, more) = omega (arith, low, is, long)

-- the elements of an array take less than a bound that a struct of that array takes less than
pub elements_fit : (k j n e bound : ℕ) → up k (up j 0 + n * e) < bound → n * e < bound
elements_fit k j n e bound less = omega (arith, up-ge k (up j 0 + n * e), less)

-- so does the first field of a struct of two
pub first_fits : (k a j e more bound : ℕ) → up k (up a (up j 0 + e) + more) < bound → e < bound
first_fits k a j e more bound less = omega (arith, up-ge k (up a (up j 0 + e) + more), up-ge a (up j 0 + e), less)

-- a part of what is less than a bound is less than it
pub part_below : (before part after bound : ℕ) → before + part + after < bound → part < bound
part_below before part after bound less = omega arith

-- lists whose elements agree by what is read of them
pub same_by : {X Y Z : Type 0} (f : X → Z) (h : Y → Z) (xs : List X) (ys : List Y) → length ys ≡ length xs → ((k : ℕ) (d : X) (e : Y) → k < length xs → h (get_or ys k e) ≡ f (get_or xs k d)) → map h ys ≡ map f xs
same_by f h [] [] long each = refl
same_by f h [] (y ∷ ys) long each = absurd (omega arith)
same_by f h (x ∷ xs) [] long each = absurd (omega arith)
same_by f h (x ∷ xs) (y ∷ ys) long each = rw (each 0 x y (omega arith), same_by f h xs ys (omega arith) (λ k d e within. each (suc k) d e (omega arith))) refl

-- an element was taken out of a list, and those behind it stay
pub record TakesOut {X : Type 0} (P : X → Type 0) (old : List X) (k : ℕ) (new : List X) : Type 0 where
  pub taken : (d : X) → P (get_or old k d)
  pub behind : (j : ℕ) (d : X) → k < j → get_or new j d ≡ get_or old j d
  pub long : length new ≡ length old

-- what a closure makes of elements that it takes out one after another
pub made_taking : {F X B : Type 0} (g : Mut F (ℕ × Unit {0}) B) (left : F → List X) (R : X → B → Type 0)
    → ((f q : F) (i : ℕ) (y : B) → i < length (left f) → Called g f (i, tt) y q → TakesOut (λ x. R x y) (left f) i (left q))
    → (ys : List B) (n i : ℕ) (f : F) → i + n ≤ length (left f) → IsFromFnResultFrom g f ys i n → (k : ℕ) (d : X) (e : B) → i ≤ k → k < i + n → R (get_or (left f) k d) (get_or ys k e)
made_taking g left R step ys zero i f fits made k d e low high = absurd (omega arith)
made_taking g left R step ys (suc n) i f fits (q, y, at, called, rest) k d e low high =
    let one = step f q i y (omega arith) called in
    elim (cases_eq k i) [
      | inl here ↦ rw (here, at.1 e) (one.taken d)
      | inr later ↦ subst (λ x. R x (get_or ys k e)) (one.behind k d (omega arith)) (made_taking g left R step ys n (i + 1) q (omega (arith, one.long)) rest k d e (omega arith) (omega arith))
    ]

module _ {T : Type 0} where
  -- a shard that is read and replaced by an empty one of its first capacity is taken out, and then shared
  pub shares_one : (k : ℕ) (old : List (HeldTable T)) (shared : SharedTable T) (taken read seen empty new : HeldTable T) → k < length old
      → taken ≡ get_or old k read → empty ≡ empty_table (get_or old k seen).first_capacity → new ≡ empty
      → shared.first_capacity ≡ taken.first_capacity → shared.shared ≡ taken.generations → SharesOne k old shared (slice_set old k new)
  shares_one k old shared taken read seen empty new within was is put first same =
      let there : taken ≡ get_or old k taken = was ∙ get_or_default old k read taken within in
      record {
        taken = taken;
        there = there;
        first = first;
        same = same;
        left = ap (λ t. slice_set old k t) (put ∙ is ∙ ap (λ (t : HeldTable T). empty_table t.first_capacity) (get_or_default old k seen taken within ∙ sym there));
      }

  -- shards that a closure makes, each without a generation and with this first capacity
  pub empty_shards_made : {F : Type 0} (g : Mut F (ℕ × Unit {0}) (SharedTable T)) (first : ℕ) (f : F)
      → ((i : ℕ) (t : SharedTable T) (q : F) → Called g f (i, tt) t q → (q ≡ f) × ((t.first_capacity ≡ first) × (t.shared ≡ [] ∷ [])))
      → (ts : List (SharedTable T)) (n : ℕ) → length ts ≡ n → IsFromFnResultFrom g f ts 0 n → AreEmptyShards n first ts
  empty_shards_made g first f step ts n long made =
      let each = λ (k : ℕ) (d : SharedTable T) (within : k < length ts). made_from g (λ t. (t.first_capacity ≡ first) × (t.shared ≡ [] ∷ [])) f step ts n 0 f refl made k d (omega arith) (omega (arith, within, long)) in
      record { long = long; capacities = λ k d within. (each k d within).0; empty = λ k d within. (each k d within).1 }

module _ {T : Type 0} where
  -- what is kept of a shard that is shared
  abbrev pub KeepsShown : HeldTable T → SharedTable T → Type 0
  KeepsShown held shared = (shared.first_capacity ≡ held.first_capacity) × (shared.shared ≡ held.generations)

  pub shared_out : (k : ℕ) (old new : List (HeldTable T)) (shared : SharedTable T) → k < length old → SharesOne k old shared new → TakesOut (λ held. KeepsShown held shared) old k new
  shared_out k old new shared within one = record {
    taken = λ d. rw (get_or_default old k d one.taken within, ← one.there) (one.first, one.same);
    behind = λ j d later. rw one.left (get_or-set_other old k j (empty_table one.taken.first_capacity) d (λ is. omega (arith, is, later)));
    long = rw one.left (length-set old k (empty_table one.taken.first_capacity));
  }

-- a walk that has passed shards since it was this, and is in one of which so much is left
pub record HasPassed {T : Type 0} (old : ShardWalk T) (ahead : List (SharedTable T)) (walk : WalkView T) : Type 0 where
  pub passed : List (SharedTable T)
  pub order : old.ahead ≡ passed ++ ahead
  pub stays : passed ≡ [] → walk ≡ old.walk
  pub leaves : ¬ (passed ≡ []) → old.walk.alone ≡ []
  pub small : walk.left < 2 ^ 64

module _ {T : Type 0} where
  not_pushed : (ts : List (SharedTable T)) (t : SharedTable T) → ts ++ t ∷ [] ≡ [] → ⊥
  not_pushed ts t none = omega (arith, length_push ts t, ap length none)

  pub has_passed_none : (old : ShardWalk T) → old.walk.left < 2 ^ 64 → HasPassed old old.ahead old.walk
  has_passed_none old small = record { passed = []; order = refl; stays = λ _. refl; leaves = λ some. absurd (some refl); small = small }

  left_out : (old : ShardWalk T) (walk : WalkView T) (passed : List (SharedTable T)) → (passed ≡ [] → walk ≡ old.walk) → (¬ (passed ≡ []) → old.walk.alone ≡ []) → walk.alone ≡ [] → old.walk.alone ≡ []
  left_out old walk [] stays leaves none = rw (← stays refl) none
  left_out old walk (t ∷ ts) stays leaves none = leaves (λ is. omega (arith, ap length is))

  -- where the walk of a shard has ended, nothing is left out of the one that it was in at first
  pub none_left_out : (old : ShardWalk T) (ahead : List (SharedTable T)) (walk : WalkView T) → HasPassed old ahead walk → walk.alone ≡ [] → old.walk.alone ≡ []
  none_left_out old ahead walk has none = left_out old walk has.passed has.stays has.leaves none

  pub passes_one : (old : ShardWalk T) (ahead rest : List (SharedTable T)) (t : SharedTable T) (walk next : WalkView T) → HasPassed old ahead walk → walk.alone ≡ [] → ahead ≡ t ∷ rest → next.left < 2 ^ 64 → HasPassed old rest next
  passes_one old ahead rest t walk next has none split small = record {
    passed = has.passed ++ t ∷ [];
    order = has.order ∙ (ap (λ ts. has.passed ++ ts) split ∙ sym (append_assoc has.passed (t ∷ []) rest));
    stays = λ is. absurd (not_pushed has.passed t is);
    leaves = λ _. none_left_out old ahead walk has none;
    small = small;
  }

  pub shows_one : {X : Type 0} (target : T → X) (shown : Bor X) (old : ShardWalk T) (ahead : List (SharedTable T)) (walk next : WalkView T) → HasPassed old ahead walk → raw.WalksOn target walk (Some shown) next → GoesOn target old shown (record { ahead = ahead; walk = next })
  shows_one target shown old ahead walk next has on = record { passed = has.passed; order = has.order; stays = λ none. rw (← has.stays none) on; leaves = has.leaves }

  fewer_steps : (old new : ShardWalk T) (passed : List (SharedTable T)) → old.ahead ≡ passed ++ new.ahead → (passed ≡ [] → new.walk.left < old.walk.left) → new.walk.left < 2 ^ 64 → steps_left new < steps_left old
  fewer_steps old new [] order stays small = omega (arith, ap length order, stays refl)
  fewer_steps old new (t ∷ ts) order stays small = omega (arith, ap length order, length-append ts new.ahead)

  -- it is nearer to its end
  pub nears : {X : Type 0} (target : T → X) (shown : Bor X) (old new : ShardWalk T) → GoesOn target old shown new → new.walk.left < 2 ^ 64 → steps_left new < steps_left old
  nears target shown old new on small = fewer_steps old new on.passed on.order (λ none. (on.stays none).0) small

  -- lists that are handed out, one after another

  pub one_given : (k : ℕ) (old new : List (List T)) (v : T) → k < length old → GivesAt k old (Some v) new → flat_map (λ vs. vs) (drop k old) ≡ v ∷ flat_map (λ vs. vs) (drop k new)
  one_given k old new v within at = rw (at.kept, drop-set old k at.rest within, drop_more old k [] within, at.gives) refl

  pub none_left : (k : ℕ) (old new : List (List T)) → k < length old → GivesAt k old None new → flat_map (λ vs. vs) (drop k old) ≡ flat_map (λ vs. vs) (drop (k + 1) new)
  none_left k old new within at = rw (at.kept, drop-set-lt (k + 1) old k at.rest (omega arith), drop_more old k [] within, at.gives.0) refl
