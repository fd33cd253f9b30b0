-- The worked schedules, computed, and a law for each.
use Rattle.std.proofs.Common.{ℕ, ◌≡◌, ◌-◌, ◌^◌, ◌++◌, List, [], ◌∷◌, Bool, true, false, refl, Option, Some, None, sym, ap, ◌∙◌, eqb-true}
use Rattle.std.specs.Prelude.{◌==◌, ◌&&◌, ◌||◌, not, nat_lt, if◌then◌else◌}
use Rattle.std.proofs.lemmas.Bool.{eq-eqb}
use Rattle.table_core.specs.Replies.{ReplyPlaced, ReplyRefused, ReplySome, ReplyNone, ReplyLen, ReplyWalk}
use Rattle.table_core.specs.Generations.{next_copied}
use Rattle.table_terms.specs.Hashes.{bits_of}
use Rattle.table_core.specs.Calls.{Call}
use Rattle.table_core.specs.Machine.{World, empty, Act, Begins, Goes, acts, happens, bucket_of}
use Rattle.table_core.specs.Law.{Law, accepts, AsksBy, CopiesBy, UsesBy, OpensBy, ActsBy, RunsBy}
use Rattle.table_core.specs.Worked.{IsWorked, LooksForWhatComes, say, all_placed, lost_to_equal, told_lost_to_equal, lost_to_other, told_lost_to_other, refused_put, told_refused_put, uncounted, late_none, told_late_none, stands_late_none, shared_lock, double_growth, two_growers, starts_again, told_starts_again, refused_first, empty_walk, short_walk, right_round, told_right_round, past_the_end, told_past_the_end, other_bits}
use Rattle.table_core.specs.declared.event.Event.{Event}
use Rattle.table_core.specs.declared.event.Event.TheVariants.{Insert, Lookup, Read, Put, Copy}
use Rattle.table_core.specs.declared.generation.Entry.{Entry}
use Rattle.table_core.specs.declared.call.Phase.{Phase}
use Rattle.table_core.specs.declared.call.Phase.TheVariants.{Probe, AtEmpty, Building, LookProbe}
use Rattle.std.proofs.lemmas.Bool.{and_parts}

-- A test whether a schedule is lawful

abbrev agree : Bool → Bool → Bool
agree true b = b
agree false true = false
agree false false = true

agree_of : (a b : Bool) → agree a b ≡ true → a ≡ b
agree_of true b h = sym h
agree_of false true h = absurd (cc)
agree_of false false h = refl

abbrev asks_ok : Law → Call → Bool → Option Entry → Bool
asks_ok l c y None = true
asks_ok l c y (Some e) = not (e.bits == bits_of c.state.hash) || agree y (accepts l c e.value)

asks_by : (l : Law) (w : World) (c : Call) (y : Bool) → asks_ok l c y (bucket_of w.table c.state) ≡ true → AsksBy l w c y
asks_by l w c y h e q b =
    let k : (not (e.bits == bits_of c.state.hash) || agree y (accepts l c e.value)) ≡ true = rw q at h in
    let m : (e.bits == bits_of c.state.hash) ≡ true = eq-eqb e.bits (bits_of c.state.hash) b in
    agree_of y (accepts l c e.value) (rw m at k)

abbrev copies_ok : Law → ℕ → Option Entry → Bool
copies_ok l h (Some e) = h == l.hash e.value
copies_ok l h None = true

copies_by : (l : Law) (w : World) (h : ℕ) → copies_ok l h (next_copied w.table) ≡ true → CopiesBy l w h
copies_by l w h k = λ e q. eqb-true h (l.hash e.value) (rw q at k)

abbrev uses_ok : Law → World → Call → Phase → Event → Bool
uses_ok l w c Probe (Read n y) = asks_ok l c y (bucket_of w.table c.state)
uses_ok l w c AtEmpty (Put n y true) = asks_ok l c y (bucket_of w.table c.state)
uses_ok l w c LookProbe (Read n y) = asks_ok l c y (bucket_of w.table c.state)
uses_ok l w c Building (Copy n h) = copies_ok l h (next_copied w.table)
uses_ok l w c _ x = true

uses_by : (l : Law) (w : World) (c : Call) (p : Phase) (x : Event) → uses_ok l w c p x ≡ true → UsesBy l w c p x
uses_by l w c Probe (Read n y) h = asks_by l w c y h
uses_by l w c AtEmpty (Put n y true) h = asks_by l w c y h
uses_by l w c LookProbe (Read n y) h = asks_by l w c y h
uses_by l w c Building (Copy n k) h = copies_by l w k h
uses_by l w c _ x h = tt

-- each look-up's test accepts only values of this hash
abbrev opens_ok : Law → (ℕ → ℕ) → Event → Bool
opens_ok l look (Insert n v h) = h == l.hash v
opens_ok l look (Lookup n h) = h == look n
opens_ok l look _ = true

abbrev Tests : Law → (ℕ → ℕ) → Type 0
Tests l look = (n e : ℕ) → l.test n e ≡ true → l.hash e ≡ look n

opens_by : (l : Law) (look : ℕ → ℕ) (x : Event) → Tests l look → opens_ok l look x ≡ true → OpensBy l x
opens_by l look (Insert n v h) t k = eqb-true h (l.hash v) k
opens_by l look (Lookup n h) t k = λ e q. t n e q ∙ sym (eqb-true h (look n) k)
opens_by l look _ t k = tt

abbrev acts_ok : Law → (ℕ → ℕ) → World → Event → Option Act → Bool
acts_ok l look w x None = true
acts_ok l look w x (Some (Begins c)) = opens_ok l look x
acts_ok l look w x (Some (Goes c a)) = uses_ok l w c c.state.phase x

acts_by : (l : Law) (look : ℕ → ℕ) (w : World) (x : Event) (a : Option Act) → Tests l look → acts_ok l look w x a ≡ true → ActsBy l w x a
acts_by l look w x None t h = tt
acts_by l look w x (Some (Begins c)) t h = opens_by l look x t h
acts_by l look w x (Some (Goes c a)) t h = uses_by l w c c.state.phase x h

abbrev runs_ok : Law → (ℕ → ℕ) → World → List Event → Bool
runs_ok l look w [] = true
runs_ok l look w (x ∷ xs) = acts_ok l look w x (acts w x) && runs_ok l look (happens w x) xs

runs_by : (l : Law) (look : ℕ → ℕ) (w : World) (s : List Event) → Tests l look → runs_ok l look w s ≡ true → RunsBy l w s
runs_by l look w [] t h = tt
runs_by l look w (x ∷ xs) t h =
    let k = and_parts _ _ h in
    (acts_by l look w x (acts w x) t k.0, runs_by l look (happens w x) xs t k.1)

-- Laws

-- values are equal where their classes are
abbrev law_by : (ℕ → ℕ) → (ℕ → ℕ) → (ℕ → ℕ → Bool) → Law
law_by class hash test = record {
  equal = λ a b. class a == class b;
  hash = λ a. hash (class a);
  test = test;
  reflexive = λ a. eq-eqb (class a) (class a) refl;
  symmetric = λ a b h. eq-eqb (class b) (class a) (sym (eqb-true (class a) (class b) h));
  transitive = λ a b c h k. eq-eqb (class a) (class c) (eqb-true (class a) (class b) h ∙ eqb-true (class b) (class c) k);
  agrees = λ a b h. ap hash (eqb-true (class a) (class b) h);
}

-- all values are equal, and no test accepts one
abbrev one_class : Law
one_class = law_by (λ v. 0) (λ c. 0) (λ n e. false)

-- no two values are equal, all have one hash, and no test accepts one
abbrev one_hash : Law
one_hash = law_by (λ v. v) (λ c. 0) (λ n e. false)

no_tests : (l : Law) (look : ℕ → ℕ) → ((n e : ℕ) → l.test n e ≡ false) → Tests l look
no_tests l look f n e h = absurd (let k : l.test n e ≡ false = f n e in cc)

-- 10 has the hash 0, 11 the hash 1 and so on up to 25
abbrev place_of : ℕ → ℕ
place_of v = if nat_lt v 26 then v - 10 else 0

-- no two values are equal, and all tests accept 18 alone
abbrev by_place : Law
by_place = law_by (λ v. v) place_of (λ n e. e == 18)

by_place_tests : Tests by_place (λ n. 8)
by_place_tests n e h = rw (eqb-true e 18 h) refl

-- no two values are equal, and no test accepts one
abbrev by_place_alone : Law
by_place_alone = law_by (λ v. v) place_of (λ n e. false)

-- no two values are equal, all have the hash 31, and all tests accept 10 alone
abbrev last_in_32 : Law
last_in_32 = law_by (λ v. v) (λ c. 31) (λ n e. e == 10)

-- the values below 12 are equal, and the test of call 4 accepts them
abbrev below_12 : ℕ → ℕ
below_12 v = if nat_lt v 12 then 0 else v

abbrev two_classes : Law
two_classes = law_by below_12 (λ c. if c == 12 then 1 else 0) (λ n e. (n == 4) && (below_12 e == 0))

two_classes_tests : Tests two_classes (λ n. if n == 4 then 0 else 3)
two_classes_tests n e h =
    let k : ((n == 4) ≡ true) × ((below_12 e == 0) ≡ true) = and_parts (n == 4) (below_12 e == 0) h in
    rw (k.0, eqb-true (below_12 e) 0 k.1) refl

-- Schedules

pub lost_to_equal_worked : IsWorked 16 lost_to_equal told_lost_to_equal told_lost_to_equal 16
lost_to_equal_worked = record { replies = refl; history = refl; room = refl; lawful = (one_class, runs_by one_class (λ n. 0) (empty 16) lost_to_equal (no_tests one_class (λ n. 0) (λ n e. refl)) refl) }

pub larger_first_worked : IsWorked 32 lost_to_equal told_lost_to_equal told_lost_to_equal 32
larger_first_worked = record { replies = refl; history = refl; room = refl; lawful = (one_class, runs_by one_class (λ n. 0) (empty 32) lost_to_equal (no_tests one_class (λ n. 0) (λ n e. refl)) refl) }

pub lost_to_other_worked : IsWorked 16 lost_to_other told_lost_to_other told_lost_to_other 16
lost_to_other_worked = record { replies = refl; history = refl; room = refl; lawful = (one_hash, runs_by one_hash (λ n. 0) (empty 16) lost_to_other (no_tests one_hash (λ n. 0) (λ n e. refl)) refl) }

pub refused_put_worked : IsWorked 16 refused_put told_refused_put told_refused_put 16
refused_put_worked = record { replies = refl; history = refl; room = refl; lawful = (two_classes, runs_by two_classes (λ n. if n == 4 then 0 else 3) (empty 16) refused_put two_classes_tests refl) }

pub uncounted_worked : IsWorked 16 uncounted (say 3 (ReplyLen 0) ∷ say 1 (ReplyPlaced 10) ∷ []) (say 1 (ReplyPlaced 10) ∷ []) 16
uncounted_worked = record { replies = refl; history = refl; room = refl; lawful = (one_hash, runs_by one_hash (λ n. 0) (empty 16) uncounted (no_tests one_hash (λ n. 0) (λ n e. refl)) refl) }

pub late_none_worked : IsWorked 16 late_none told_late_none stands_late_none 48
late_none_worked = record { replies = refl; history = refl; room = refl; lawful = (by_place, runs_by by_place (λ n. 8) (empty 16) late_none by_place_tests refl) }

pub looks_for_what_comes : LooksForWhatComes
looks_for_what_comes = record { law = by_place; lawful = runs_by by_place (λ n. 8) (empty 16) late_none by_place_tests refl; looks = refl }

pub shared_lock_worked : IsWorked 16 shared_lock (say 1 (ReplyPlaced 10) ∷ []) (say 1 (ReplyPlaced 10) ∷ []) 16
shared_lock_worked = record { replies = refl; history = refl; room = refl; lawful = (one_hash, runs_by one_hash (λ n. 0) (empty 16) shared_lock (no_tests one_hash (λ n. 0) (λ n e. refl)) refl) }

pub double_growth_worked : IsWorked 16 double_growth (all_placed 1 18) (all_placed 1 18) 112
double_growth_worked = record { replies = refl; history = refl; room = refl; lawful = (by_place, runs_by by_place (λ n. 8) (empty 16) double_growth by_place_tests refl) }

pub two_growers_worked : IsWorked 16 two_growers (all_placed 1 8) (all_placed 1 8) 48
two_growers_worked = record { replies = refl; history = refl; room = refl; lawful = (by_place, runs_by by_place (λ n. 8) (empty 16) two_growers by_place_tests refl) }

pub starts_again_worked : IsWorked 16 starts_again told_starts_again told_starts_again 48
starts_again_worked = record { replies = refl; history = refl; room = refl; lawful = (by_place, runs_by by_place (λ n. 8) (empty 16) starts_again by_place_tests refl) }

pub refused_first_worked : IsWorked 16 refused_first (say 1 (ReplyRefused 10) ∷ say 2 (ReplyLen 0) ∷ []) (say 1 (ReplyRefused 10) ∷ []) 0
refused_first_worked = record { replies = refl; history = refl; room = refl; lawful = (one_class, runs_by one_class (λ n. 0) (empty 16) refused_first (no_tests one_class (λ n. 0) (λ n e. refl)) refl) }

pub empty_walk_worked : IsWorked 16 empty_walk (say 1 (ReplyWalk []) ∷ []) [] 0
empty_walk_worked = record { replies = refl; history = refl; room = refl; lawful = (one_class, runs_by one_class (λ n. 0) (empty 16) empty_walk (no_tests one_class (λ n. 0) (λ n e. refl)) refl) }

pub short_walk_worked : IsWorked 16 short_walk (told_lost_to_equal ++ (say 3 (ReplyWalk (10 ∷ [])) ∷ [])) told_lost_to_equal 16
short_walk_worked = record { replies = refl; history = refl; room = refl; lawful = (one_class, runs_by one_class (λ n. 0) (empty 16) short_walk (no_tests one_class (λ n. 0) (λ n e. refl)) refl) }

pub other_bits_worked : IsWorked 16 other_bits (say 1 (ReplyPlaced 10) ∷ say 2 ReplyNone ∷ []) (say 1 (ReplyPlaced 10) ∷ say 2 ReplyNone ∷ []) 16
other_bits_worked = record { replies = refl; history = refl; room = refl; lawful = (one_class, runs_by one_class (λ n. 2 ^ 32) (empty 16) other_bits (no_tests one_class (λ n. 2 ^ 32) (λ n e. refl)) refl) }

pub right_round_worked : IsWorked 16 right_round told_right_round (all_placed 1 16 ++ (say 19 ReplyNone ∷ [])) 16
right_round_worked = record { replies = refl; history = refl; room = refl; lawful = (by_place_alone, runs_by by_place_alone (λ n. 0) (empty 16) right_round (no_tests by_place_alone (λ n. 0) (λ n e. refl)) refl) }

pub past_the_end_worked : IsWorked 16 past_the_end told_past_the_end (all_placed 1 8 ++ (say 21 (ReplySome 10) ∷ [])) 48
past_the_end_worked = record { replies = refl; history = refl; room = refl; lawful = (last_in_32, runs_by last_in_32 (λ n. 31) (empty 16) past_the_end (λ n e h. refl) refl) }
