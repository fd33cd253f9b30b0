-- What an insert into a shared table answers.
use Rattle.std.specs.Prelude.{◌≡◌, Bool, true, Option, Some, None}
use Rattle.std.specs.declared.result.Result.{Result}
use Rattle.std.specs.declared.result.Result.TheVariants.{Ok, Err}
use Rattle.std.specs.Borrow.{Bor}
use Rattle.table_core.specs.RunningPhases.{Reached, Nothing, Own, Other}

module _ {V X : Type 0} where
  -- with nothing handed back, the target shown is that of the value
  abbrev pub Places : (V → X) → V → Result (Bor X × Option V) V → Type 0
  Places target value (Ok (shown, None)) = shown.now ≡ target value
  Places target value _ = Unit {0}

  -- with the value handed back beside a target, that target was accepted
  abbrev pub Finds : (X → Bool → Type 0) → Result (Bor X × Option V) V → Type 0
  Finds says (Ok (shown, Some back)) = says shown.now true
  Finds says _ = Unit {0}

  -- what comes back is the value
  abbrev pub GivesBack : V → Result (Bor X × Option V) V → Type 0
  GivesBack value (Ok (shown, Some back)) = back ≡ value
  GivesBack value (Err back) = back ≡ value
  GivesBack value _ = Unit {0}

  -- all of it
  abbrev pub Answers : (V → X) → (X → Bool → Type 0) → V → Result (Bor X × Option V) V → Type 0
  Answers target says value r = Places target value r × Finds says r × GivesBack value r

module _ {R V : Type 0} where
  -- what an answer tells
  abbrev pub told_by : Result (R × Option V) V → Reached
  told_by (Err back) = Nothing
  told_by (Ok (shown, None)) = Own
  told_by (Ok (shown, Some back)) = Other
