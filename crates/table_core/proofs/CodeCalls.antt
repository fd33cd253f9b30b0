-- The calls, as the structures without a scan know them.
use Rattle.std.proofs.Common.{ℕ, suc, zero, ◌≡◌, ◌+◌, ◌<◌, ◌≤◌, ◌++◌, List, [], ◌∷◌, Bool, true, false, refl, Option, Some, None, length, sym, ap, arith, cond, ◌∙◌}
use Rattle.std.specs.Prelude.{◌==◌, ◌||◌, nat_lt, nat_eq, if◌then◌else◌, slice_set}
use Rattle.std.specs.List.{slice_get, list_any}
use Rattle.std.specs.Option.{option_map, is_some}
use Rattle.std.proofs.lemmas.Bool.{lt-ltb, le-ltb, eqb-true, eqb-false}
use Rattle.std.specs.HashMap as map
use Rattle.std.specs.HashMap.{HashMap}
use Rattle.std.specs.HashSet as set
use Rattle.std.specs.HashSet.{HashSet}
use Rattle.table_core.proofs.Weights.{weigh, count_by-weigh}
use Rattle.table_core.specs.Calls.{Call, is_used, is_value, is_used_value, holds_shared, holds_owned, is_locked}
use Rattle.table_core.specs.Bound.{position_of, one_if}
use Rattle.table_core.specs.declared.call.CallState.{CallState}
use Rattle.table_core.specs.Indexed.{IsIndexed}
use Rattle.std.specs.Prelude.{count_by}
use Rattle.table_core.proofs.Lists.{weigh-set, weigh-get, weigh-append}

any_if : (b r : Bool) (n : ℕ) → r ≡ nat_lt 0 n → (b || r) ≡ nat_lt 0 (one_if b + n)
any_if true r n h = sym (lt-ltb 0 (1 + n) (omega arith))
any_if false r n h = h ∙ ap (nat_lt 0) (let e : n ≡ 0 + n = omega arith in e)

-- one passes where the count isn't 0
any_weighs : {X : Type 0} (p : X → Bool) (xs : List X) → list_any p xs ≡ nat_lt 0 (weigh (λ x. one_if (p x)) xs)
any_weighs p [] = refl
any_weighs p (x ∷ xs) = any_if (p x) (list_any p xs) _ (any_weighs p xs)

pub any_counts : {X : Type 0} (p : X → Bool) (xs : List X) → list_any p xs ≡ nat_lt 0 (count_by p xs)
any_counts p xs = any_weighs p xs ∙ ap (nat_lt 0) (sym (count_by-weigh p xs))

either_if : (a b r s : Bool) → (((a || b) || (r || s)) ≡ ((a || r) || (b || s)))
either_if true b r s = refl
either_if false true true s = refl
either_if false true false s = refl
either_if false false r s = refl

pub any_either : {X : Type 0} (p q : X → Bool) (xs : List X) → list_any (λ x. p x || q x) xs ≡ (list_any p xs || list_any q xs)
any_either p q [] = refl
any_either p q (x ∷ xs) = ap (λ r. (p x || q x) || r) (any_either p q xs) ∙ either_if (p x) (q x) (list_any p xs) (list_any q xs)

used_if : (n : ℕ) (b : Bool) (o : Option ℕ) (r : Bool) → r ≡ is_some o → (b || r) ≡ is_some (if b then Some 0 else option_map (λ i. suc i) o)
used_if n true o r h = refl
used_if n false None r h = h
used_if n false (Some i) r h = h

-- a number is used where a call has it
pub used_position : (n : ℕ) (cs : List Call) → is_used n cs ≡ is_some (position_of n cs)
used_position n [] = refl
used_position n (c ∷ cs) = used_if n (c.number == n) (position_of n cs) _ (used_position n cs)

position_same_if : (b : Bool) (o p : Option ℕ) → o ≡ p → (if b then Some 0 else option_map (λ i. suc i) o) ≡ (if b then Some 0 else option_map (λ i. suc i) p)
position_same_if b o p e = rw e refl

-- a call that keeps its number keeps all positions
pub position_set : (n : ℕ) (cs : List Call) (i : ℕ) (c d : Call) → slice_get cs i ≡ Some c → d.number ≡ c.number → position_of n (slice_set cs i d) ≡ position_of n cs
position_set n [] i c d h e = refl
position_set n (x ∷ cs) zero c d h e = let q : d.number ≡ x.number = cc in rw q refl
position_set n (x ∷ cs) (suc i) c d h e = position_same_if (x.number == n) _ _ (position_set n cs i c d h e)

pub value_set : (v : ℕ) (cs : List Call) (i : ℕ) (c d : Call) → slice_get cs i ≡ Some c → d.value ≡ c.value → is_used_value v (slice_set cs i d) ≡ is_used_value v cs
value_set v [] i c d h e = refl
value_set v (x ∷ cs) zero c d h e = let q : d.value ≡ x.value = cc in rw q refl
value_set v (x ∷ cs) (suc i) c d h e = ap (λ r. is_value v x.value || r) (value_set v cs i c d h e)

-- a call in another state, with the counts that go with it
pub indexed_set : {S T : Type 0} (cs : List Call) (ps : HashMap ℕ ℕ S) (vs : HashSet ℕ T) (a b a' b' : ℕ) (i : ℕ) (c d : Call) → IsIndexed cs ps vs a b → slice_get cs i ≡ Some c → d.number ≡ c.number → d.value ≡ c.value →
    a' + one_if (holds_shared c.state.phase) ≡ a + one_if (holds_shared d.state.phase) →
    b' + one_if (holds_owned c.state.phase) ≡ b + one_if (holds_owned d.state.phase) →
    IsIndexed (slice_set cs i d) ps vs a' b'
indexed_set cs ps vs a b a' b' i c d k h e f x y = record {
  numbered = λ n. k.numbered n ∙ sym (position_set n cs i c d h e);
  valued = λ v. k.valued v ∙ sym (value_set v cs i c d h f);
  shared = (let w = weigh-set (λ (c : Call). one_if (holds_shared c.state.phase)) cs i c d h in let s = k.shared in omega (arith, count_by-weigh (λ (c : Call). holds_shared c.state.phase) cs, count_by-weigh (λ (c : Call). holds_shared c.state.phase) (slice_set cs i d)));
  owned = (let w = weigh-set (λ (c : Call). one_if (holds_owned c.state.phase)) cs i c d h in let s = k.owned in omega (arith, count_by-weigh (λ (c : Call). holds_owned c.state.phase) cs, count_by-weigh (λ (c : Call). holds_owned c.state.phase) (slice_set cs i d)));
}

-- a call with another list
pub indexed_list : {S T : Type 0} (cs : List Call) (ps : HashMap ℕ ℕ S) (vs : HashSet ℕ T) (a b : ℕ) (i : ℕ) (c d : Call) → IsIndexed cs ps vs a b → slice_get cs i ≡ Some c → d.number ≡ c.number → d.value ≡ c.value → d.state ≡ c.state →
    IsIndexed (slice_set cs i d) ps vs a b
indexed_list cs ps vs a b i c d k h e f g = indexed_set cs ps vs a b a b i c d k h e f
    (ap (λ (s : CallState). a + one_if (holds_shared s.phase)) (sym g)) (ap (λ (s : CallState). b + one_if (holds_owned s.phase)) (sym g))

-- the call at a place within
pub call_within : {X : Type 0} (cs : List X) (k : ℕ) → k < length cs → (c : X) × (slice_get cs k ≡ Some c)
call_within [] k h = absurd (omega arith)
call_within (x ∷ xs) zero h = (x, refl)
call_within (x ∷ xs) (suc k) h = call_within xs k (omega arith)

-- the lock is held where one of the counts isn't 0
pub locked_counts : {S T : Type 0} (cs : List Call) (ps : HashMap ℕ ℕ S) (vs : HashSet ℕ T) (a b : ℕ) → IsIndexed cs ps vs a b → is_locked cs ≡ (nat_lt 0 a || nat_lt 0 b)
locked_counts cs ps vs a b k = any_either (λ (c : Call). holds_shared c.state.phase) (λ (c : Call). holds_owned c.state.phase) cs
    ∙ rw (any_counts (λ (c : Call). holds_shared c.state.phase) cs, any_counts (λ (c : Call). holds_owned c.state.phase) cs, k.shared, k.owned) refl

pub locked_first : {S T : Type 0} (cs : List Call) (ps : HashMap ℕ ℕ S) (vs : HashSet ℕ T) (a b : ℕ) → IsIndexed cs ps vs a b → 0 < a → nat_lt 0 a ≡ is_locked cs
locked_first cs ps vs a b k h = let e : nat_lt 0 a ≡ true = lt-ltb 0 a h in e ∙ sym (locked_counts cs ps vs a b k ∙ ap (λ t. t || nat_lt 0 b) e)

pub locked_second : {S T : Type 0} (cs : List Call) (ps : HashMap ℕ ℕ S) (vs : HashSet ℕ T) (a b : ℕ) → IsIndexed cs ps vs a b → a ≤ 0 → nat_lt 0 b ≡ is_locked cs
locked_second cs ps vs a b k h = let e : nat_lt 0 a ≡ false = le-ltb 0 a h in sym (locked_counts cs ps vs a b k ∙ ap (λ t. t || nat_lt 0 b) e)

-- one that passes is counted
pub counted_among : {X : Type 0} (p : X → Bool) (xs : List X) (n i : ℕ) (x : X) (b : Bool) → n ≡ count_by p xs → slice_get xs i ≡ Some x → b ≡ p x → one_if b ≤ n
counted_among p xs n i x b e h f = rw (e, f) (rw (count_by-weigh p xs) (weigh-get (λ x. one_if (p x)) xs i x h))

none_parts : (b : Bool) (o : Option ℕ) → (if b then Some 0 else option_map (λ i. suc i) o) ≡ None → (b ≡ false) × (o ≡ None)
none_parts true o h = absurd (cc)
none_parts false None h = (refl, refl)
none_parts false (Some i) h = absurd (cc)

push_if : (b d : Bool) (o p : Option ℕ) (k : ℕ) → (b ≡ true → d ≡ true → ⊥) → o ≡ cond d (Some k) p →
    (if b then Some 0 else option_map (λ i. suc i) o) ≡ cond d (Some (suc k)) (if b then Some 0 else option_map (λ i. suc i) p)
push_if true true o p k n h = absurd (n refl refl)
push_if true false o p k n h = refl
push_if false true o p k n h = rw h refl
push_if false false o p k n h = rw h refl

-- a call more stands behind all others
pub position_push : (n : ℕ) (cs : List Call) (c : Call) → position_of c.number cs ≡ None → position_of n (cs ++ c ∷ []) ≡ cond (c.number == n) (Some (length cs)) (position_of n cs)
position_push n [] c h = refl
position_push n (x ∷ cs) c h =
    let p = none_parts (x.number == c.number) (position_of c.number cs) h in
    push_if (x.number == n) (c.number == n) _ _ (length cs)
    (λ a b. let e : x.number ≡ c.number = eqb-true x.number n a ∙ sym (eqb-true c.number n b) in eqb-false x.number c.number p.0 e)
    (position_push n cs c p.1)

or_last : (a b r : Bool) → (a || (b || r)) ≡ (b || (a || r))
or_last true true r = refl
or_last true false r = refl
or_last false b r = refl

pub value_push : (v : ℕ) (cs : List Call) (c : Call) → is_used_value v (cs ++ c ∷ []) ≡ (is_value v c.value || is_used_value v cs)
value_push v [] c = refl
value_push v (x ∷ cs) c = ap (λ r. is_value v x.value || r) (value_push v cs c) ∙ or_last (is_value v x.value) (is_value v c.value) (is_used_value v cs)

pub unused_position : (o : Option ℕ) → is_some o ≡ false → o ≡ None
unused_position None h = refl
unused_position (Some i) h = absurd (cc)

-- a call more, which doesn't hold the lock
pub indexed_push : {S T : Type 0} (cs : List Call) (ps ps' : HashMap ℕ ℕ S) (vs vs' : HashSet ℕ T) (a b : ℕ) (c : Call) → IsIndexed cs ps vs a b → is_used c.number cs ≡ false →
    holds_shared c.state.phase ≡ false → holds_owned c.state.phase ≡ false →
    ((n : ℕ) → map.get nat_eq ps' n ≡ cond (c.number == n) (Some (length cs)) (map.get nat_eq ps n)) →
    ((v : ℕ) → set.contains nat_eq vs' v ≡ (is_value v c.value || set.contains nat_eq vs v)) →
    IsIndexed (cs ++ c ∷ []) ps' vs' a b
indexed_push cs ps ps' vs vs' a b c k u s o x y = record {
  numbered = λ n. x n ∙ ap (cond (c.number == n) (Some (length cs))) (k.numbered n) ∙ sym (position_push n cs c (unused_position _ (sym (used_position c.number cs) ∙ u)));
  valued = λ v. y v ∙ ap (λ r. is_value v c.value || r) (k.valued v) ∙ sym (value_push v cs c);
  shared = (let e : one_if (holds_shared c.state.phase) ≡ 0 = ap one_if s in let w = weigh-append (λ (c : Call). one_if (holds_shared c.state.phase)) cs (c ∷ []) in let z = k.shared in omega (arith, count_by-weigh (λ (c : Call). holds_shared c.state.phase) cs, count_by-weigh (λ (c : Call). holds_shared c.state.phase) (cs ++ c ∷ [])));
  owned = (let e : one_if (holds_owned c.state.phase) ≡ 0 = ap one_if o in let w = weigh-append (λ (c : Call). one_if (holds_owned c.state.phase)) cs (c ∷ []) in let z = k.owned in omega (arith, count_by-weigh (λ (c : Call). holds_owned c.state.phase) cs, count_by-weigh (λ (c : Call). holds_owned c.state.phase) (cs ++ c ∷ [])));
}
