-- Lawful schedules: the closures answer by one equality, one hash and one test a look-up.
use Rattle.std.specs.Prelude.{ℕ, ◌≡◌, Bool, true, Option, Some, None, List, [], ◌∷◌}
use Rattle.table_core.specs.Generations.{next_copied}
use Rattle.table_terms.specs.Hashes.{bits_of}
use Rattle.table_core.specs.Calls.{Call}
use Rattle.table_core.specs.Machine.{World, empty, Act, Begins, Goes, acts, happens, bucket_of}
use Rattle.table_core.specs.declared.event.Event.{Event}
use Rattle.table_core.specs.declared.event.Event.TheVariants.{Insert, Lookup, Read, Put, Copy}
use Rattle.table_core.specs.declared.generation.Entry.{Entry}
use Rattle.table_core.specs.declared.call.Phase.{Phase}
use Rattle.table_core.specs.declared.call.Phase.TheVariants.{Probe, AtEmpty, Building, LookProbe}

-- an equality of values, their hash, and for the number of each look-up its test
pub record Law : Type 0 where
  pub equal : ℕ → ℕ → Bool
  pub hash : ℕ → ℕ
  pub test : ℕ → ℕ → Bool
  pub reflexive : (a : ℕ) → equal a a ≡ true
  pub symmetric : (a b : ℕ) → equal a b ≡ true → equal b a ≡ true
  pub transitive : (a b c : ℕ) → equal a b ≡ true → equal b c ≡ true → equal a c ≡ true
  pub agrees : (a b : ℕ) → equal a b ≡ true → hash a ≡ hash b

-- whether a call of this number and value accepts e
abbrev pub accepts_by : Law → ℕ → Option ℕ → ℕ → Bool
accepts_by l n (Some v) e = l.equal v e
accepts_by l n None e = l.test n e

-- whether a call accepts a value: an insert by the equality, a look-up by its test
abbrev pub accepts : Law → Call → ℕ → Bool
accepts l c e = accepts_by l c.number c.value e

-- where the bucket is set and its bits agree the closure is asked, and its answer is the law's
abbrev pub AsksBy : Law → World → Call → Bool → Type 0
AsksBy l w c y = (e : Entry) → bucket_of w.table c.state ≡ Some e → e.bits ≡ bits_of c.state.hash →
    y ≡ accepts l c e.value

-- a copy carries the hash of what it copies
abbrev pub CopiesBy : Law → World → ℕ → Type 0
CopiesBy l w hash = (e : Entry) → next_copied w.table ≡ Some e → hash ≡ l.hash e.value

-- the answers that are used: those of a read or a granted put of an insert, of a read of a
-- look-up, and of a copy
abbrev pub UsesBy : Law → World → Call → Phase → Event → Type 0
UsesBy l w c Probe (Read n y) = AsksBy l w c y
UsesBy l w c AtEmpty (Put n y true) = AsksBy l w c y
UsesBy l w c LookProbe (Read n y) = AsksBy l w c y
UsesBy l w c Building (Copy n hash) = CopiesBy l w hash
UsesBy l w c _ x = Unit {0}

-- an insert begins with the hash of its value, a look-up with the one hash of all that its test
-- accepts
abbrev pub OpensBy : Law → Event → Type 0
OpensBy l (Insert n v hash) = hash ≡ l.hash v
OpensBy l (Lookup n hash) = (e : ℕ) → l.test n e ≡ true → l.hash e ≡ hash
OpensBy l _ = Unit {0}

-- what is asked of an event that is taken; nothing is asked of another
abbrev pub ActsBy : Law → World → Event → Option Act → Type 0
ActsBy l w x None = Unit {0}
ActsBy l w x (Some (Begins c)) = OpensBy l x
ActsBy l w x (Some (Goes c a)) = UsesBy l w c c.state.phase x

-- each event of a schedule is as the law has it
abbrev pub RunsBy : Law → World → List Event → Type 0
RunsBy l w [] = Unit {0}
RunsBy l w (x ∷ xs) = ActsBy l w x (acts w x) × RunsBy l (happens w x) xs

-- a schedule that is lawful for a law, from no generation on
abbrev pub IsLawful : Law → ℕ → List Event → Type 0
IsLawful l f s = RunsBy l (empty f) s
