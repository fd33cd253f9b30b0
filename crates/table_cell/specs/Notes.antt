-- What is known of the value that a word is set to through `&`, by the name i of that value.
--     free      no value yet, and the right to choose it
--     fixed x   the value is x for good
--     learnt k   what a note that knows k has of it
use Rattle.std.specs.Prelude.{◌≡◌, ℕ, Option, Some, None}
use Rattle.std.specs.Coded.{coded_option}
use base.Stored.{Gv}
use base.Fml.{Fml, ftrue, fsep, fobs, fauth, fres}
use denote.RattleType.{RattleType}

-- x is the known value, if one is known
abbrev pub Agrees : {X : Type 0} → Option X → X → Type 0
Agrees None x = Unit {0}
Agrees (Some y) x = y ≡ x

module _ (R : RattleType) where
  abbrev pub code : Option R.Denot → Gv
  code = (coded_option R.coded).code

  module _ (i : ℕ) where
    abbrev pub free : Fml
    free = fsep (fobs i (code None)) (fauth i (code None))

    abbrev pub fixed : R.Denot → Fml
    fixed x = fsep (fres i (code (Some x))) (fauth i (code (Some x)))

    abbrev pub learnt : Option R.Denot → Fml
    learnt None = ftrue
    learnt (Some x) = fres i (code (Some x))
