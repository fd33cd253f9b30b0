-- What the steps at a bucket of a generation do.
use Rattle.std.specs.Prelude.{◌≡◌, ◌≢◌, ℕ, Bool, true, false, Option, Some, None, IfSome, option_copied}
use Rattle.std.specs.Borrow.{Bor}
use Rattle.std.specs.Option.{ForSome, IsSomeAnd}
use Rattle.table_generations.specs.declared.fixed.shared.Look.{Look}
use Rattle.table_generations.specs.declared.fixed.shared.Look.TheVariants as look
use Rattle.table_cell.specs.declared.bucket.Entry.{Entry}
use Rattle.table_generations.specs.Buckets.{Content, vacant, content_at, shown}
use Rattle.table_generations.specs.Generations.{GenerationView}
use Rattle.table_generations.specs.Growth.{entry_of}
use Rattle.table_generations.specs.Looks.{IsSeen}
use Rattle.table_core.specs.Calls.{decided, to, finds_entry}
use Rattle.table_core.specs.declared.call.Phase.TheVariants.{LeaveOk, LeaveRefused, Placed}
use Rattle.table_core.specs.declared.call.Answer.{Answer}
use Rattle.table_core.specs.declared.call.Answer.TheVariants.{Holds, HoldsUnasked, Empty, Won as IsWon, MemoryRefused, Sized}
use Rattle.table_core.specs.declared.call.CallState.{CallState}
use Rattle.table_terms.specs.Hashes.{bits_of}
use Rattle.table_core.specs.RunningSteps.{Went, Passing, passed}
use Rattle.table_shared.specs.declared.probe.Read.{Read}
use Rattle.table_shared.specs.declared.probe.Read.TheVariants as read
use Rattle.table_shared.specs.declared.probe.Put.{Put}
use Rattle.table_shared.specs.declared.probe.Put.TheVariants as put

-- the target of the entry that a look shows, if it has the bits that were sought
abbrev pub ShowsAlike : {T X : Type 0} → (T → X) → Look T → Option (Bor X) → Type 0
ShowsAlike target look.Vacant None = Unit {0}
ShowsAlike target look.Other None = Unit {0}
ShowsAlike target (look.Alike entry) (Some r) = r.now ≡ target entry.now.value
ShowsAlike target _ _ = ⊥

-- the target of an entry, if it has these bits
abbrev pub ShowsMarked : {T X : Type 0} → (T → X) → ℕ → Entry T → Option (Bor X) → Type 0
ShowsMarked target bits e None = e.bits ≢ bits
ShowsMarked target bits e (Some r) = (e.bits ≡ bits) × (r.now ≡ target e.value)

-- a call takes a step by this answer, from the phase in which it was
pub record Takes (s t : CallState) (a : Answer) : Type 0 where
  pub went : Went s t a
  pub is : t ≡ decided s.phase s a

module _ {X : Type 0} where
  -- the closure was asked of a target that was met, and said no; with none to ask of, it wasn't asked
  abbrev pub Declines : (X → Bool → Type 0) → Option (Bor X) → Bool → Type 0
  Declines says None asked = asked ≡ false
  Declines says (Some r) asked = (asked ≡ true) × says r.now false

  -- a call has met the target of an entry with the bits of its hash, or another entry: it passes, and
  -- was told no if there was a target; or it accepts that very target, as it was told
  abbrev pub MeetsTarget : (X → Bool → Type 0) → Option (Bor X) → CallState → Read (Bor X) → Type 0
  MeetsTarget says alike s (read.Empty t) = ⊥
  MeetsTarget says alike s (read.Passed t asked) = Takes s t (passed asked) × Declines says alike asked
  MeetsTarget says alike s (read.Met t r) = Takes s t (Holds true) × says r.now true × (alike ≡ Some r)

  -- a call has read a bucket: it was empty; or its entry was passed; or its entry was accepted, as the
  -- call was told
  abbrev pub StepsAt : (X → Bool → Type 0) → CallState → Read (Bor X) → Type 0
  StepsAt says s (read.Empty t) = Takes s t Empty
  StepsAt says s (read.Passed t asked) = Takes s t (passed asked)
  StepsAt says s (read.Met t r) = Takes s t (Holds true) × says r.now true

  -- an insert has offered a value to its bucket: it is there, and not counted yet; or its memory was
  -- refused; or another entry was there first, and was passed, or accepted as the closure said
  abbrev pub InsertPuts : {T : Type 0} → (T → X) → (X → Bool → Type 0) → T → CallState → Put T X → Type 0
  InsertPuts target says value s (put.Won t r) =
      Went s t IsWon × (t ≡ to Placed s) × (r.now ≡ target value)
  InsertPuts target says value s (put.Refused t back) =
      Went s t MemoryRefused × (t ≡ to LeaveRefused s) × (back ≡ value)
  InsertPuts target says value s (put.Passed t asked back) =
      Went s t (passed asked) × Passing s t × (back ≡ value)
  InsertPuts target says value s (put.Met t r back) =
      Went s t (Holds true) × (t ≡ finds_entry LeaveOk s) × (back ≡ value) × says r.now true

module _ {T X : Type 0} (target : T → X) (says : X → Bool → Type 0) (bits : ℕ) where
  -- an answer is true of an entry: it has other bits than those sought, and the closure isn't asked; or
  -- it has them, and the closure said so of its target
  abbrev pub IsTrueOf : Entry T → Answer → Type 0
  IsTrueOf e HoldsUnasked = e.bits ≢ bits
  IsTrueOf e (Holds accepted) = (e.bits ≡ bits) × says (target e.value) accepted
  IsTrueOf e _ = ⊥

  -- an entry was accepted, and this is its target
  abbrev pub Accepts : Bor X → Entry T → Type 0
  Accepts r e = IsTrueOf e (Holds true) × (r.now ≡ target e.value)

  -- what a read tells of what the bucket shows: nothing; an entry that was passed, by an answer that is
  -- true of it; or one that was accepted
  abbrev pub ReadTells : Option (Entry T) → Read (Bor X) → Type 0
  ReadTells o (read.Empty t) = o ≡ None
  ReadTells o (read.Passed t asked) = IsSomeAnd o (λ e. IsTrueOf e (passed asked))
  ReadTells o (read.Met t r) = IsSomeAnd o (Accepts r)

  -- what an insert that lost its exchange tells of the entry that came first: it was passed, by an
  -- answer that is true of it, or accepted
  abbrev pub LossTells : Put T X → Entry T → Type 0
  LossTells (put.Won t r) first = ⊥
  LossTells (put.Refused t back) first = ⊥
  LossTells (put.Passed t asked back) first = IsTrueOf first (passed asked)
  LossTells (put.Met t r back) first = Accepts r first

  -- what a step at an entry tells: its answer is true of it, and after a yes what was met is its target
  abbrev pub StepTells : Answer → Option (Bor X) → Entry T → Type 0
  StepTells a met e = IsTrueOf e a × (a ≡ Holds true → option_copied met ≡ Some (target e.value))

module _ {T X : Type 0} where
  -- what an exchange tells of a bucket, and of the note of it: it was vacant, and shows the value with
  -- the bits of its hash; nothing; or it shows the entry that came first
  abbrev pub PutTells : (T → X) → (X → Bool → Type 0) → T → ℕ → Content T → Option (Entry T) → Option (Entry T) → Put T X → Type 0
  PutTells target says value hash c old new (put.Won t r) =
      (c ≡ vacant) × (old ≡ None) × (new ≡ Some (entry_of value hash))
  PutTells target says value hash c old new (put.Refused t back) = new ≡ old
  PutTells target says value hash c old new lost =
      IsSeen c old new (λ o. IsSomeAnd o (LossTells target says (bits_of hash) lost))

-- this holds of the entry that the bucket of this index was set to alone, in the generation that is
-- walked
abbrev pub AtAlone : {A T : Type 0} → Option (Bor (GenerationView A T)) → ℕ → (Entry T → Type 0) → Type 0
AtAlone generation index P = ForSome generation (λ g. IfSome (shown (content_at g.now.contents index)) P)

-- a call has asked for the size
abbrev pub AsksSize : CallState → CallState → Type 0
AsksSize s t = (n : ℕ) × Went s t (Sized n)
