-- What one step of an insert does.
use Rattle.std.specs.Prelude.{◌≡◌, ◌≢◌, Bool, Option, Some, None}
use Rattle.std.specs.declared.result.Result.{Result}
use Rattle.std.specs.Borrow.{Bor}
use Rattle.std.specs.Fn.{Shared as SharedFn, FnReturnsAtPair}
use Rattle.table_generations.specs.declared.atomic_value.AtomicValue.{Ghosts}
use Rattle.table_core.specs.declared.call.Answer.{Answer}
use Rattle.table_terms.specs.Hashes.{bits_of}
use Rattle.table_core.specs.RunningPhases.{reached_by}
use Rattle.table_core.specs.RunningSteps.{Went}
use Rattle.table_shared.specs.declared.insert.between.Carried.TheVariants.{Gone}
use Rattle.table_shared.specs.declared.insert.between.Inserting.{Inserting}
use Rattle.table_shared.specs.Carried.{met_in, Heard}
use Rattle.table_shared.specs.Inserts.{Answers, told_by}
use Rattle.table_shared.specs.Reads.{AtAlone, StepTells}
use Rattle.table_shared.specs.Stepped.{MayBlock, accepted_in}

module _ {T A E H X : Type 0} {g : Ghosts T X} where
  -- an insert stands where it stood, and carries and asks what it did
  pub record Stays (old new : Inserting T A E H X g) : Type 0 where
    pub state : new.state ≡ old.state
    pub carries : new.carried ≡ old.carried
    pub same : new.asking ≡ old.asking

module _ {T A E H X : Type 0} {g : Ghosts T X} (says : SharedFn E (Bor X × (Bor X × Unit {0})) Bool) where
  -- an insert takes one step, by this answer
  pub record Steps (old : Inserting T A E H X g) (a : Answer) (new : Inserting T A E H X g) : Type 0 where
    -- decide takes it from the one state to the other, and the answer fits
    pub went : Went old.state new.state a
    -- it carries something still, and asks whom it asked of the value that it was given
    pub there : new.carried ≢ Gone
    pub same : new.asking ≡ old.asking
    -- what it met_in stays, and its closure said yes of what it accepts
    pub met : met_in old.carried ≢ None → met_in new.carried ≡ met_in old.carried
    pub heard : Heard g.target says old.asking.eq old.asking.given.value old.carried
        → Heard g.target says old.asking.eq old.asking.given.value new.carried

  -- what its answer tells of the entry that the bucket where it stood was set to alone
  abbrev pub TellsAlone : Inserting T A E H X g → Answer → Inserting T A E H X g → Type 0
  TellsAlone old a new = AtAlone old.generation old.state.index (StepTells g.target (FnReturnsAtPair says old.asking.eq (g.target old.asking.given.value)) (bits_of old.state.hash) a (met_in new.carried))

  -- an insert has taken a step, or none and is as it was
  abbrev pub TriesStep : Inserting T A E H X g → Option Answer → Inserting T A E H X g → Type 0
  TriesStep old (Some a) new = Steps old a new
  TriesStep old None new =
      MayBlock old.state.phase × (new.state ≡ old.state) × (new.carried ≡ old.carried)
      × (new.asking ≡ old.asking)

  -- an insert gives its answer, and has nothing left
  pub record Ends (old : Inserting T A E H X g) (r : Result (Bor X × Option T) T) (new : Inserting T A E H X g) : Type 0 where
    pub answers : Answers g.target (FnReturnsAtPair says old.asking.eq (g.target old.asking.given.value)) old.asking.given.value r
    -- it tells what its outcome says, and names what it accepted
    pub tells : told_by r ≡ reached_by old.state.outcome
    pub names : accepted_in r ≡ met_in old.carried
    pub state : new.state ≡ old.state
    pub same : new.asking ≡ old.asking
    pub empty : met_in new.carried ≡ None
