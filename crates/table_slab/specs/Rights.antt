-- The rights to slots, as ghost state alone. The name of a slot tracks what lies in it.
--     room γ v        the right to the slot γ, with v in it. Nobody has it twice: with it goes an element that has one owner
--     written γ x     the slot γ holds x for good
--     rooms γs        the rights to these slots, all empty
use Rattle.core.specs.Prelude.{List, [], ◌∷◌}
use base.Algebra.{Algebra}
use base.Algebras.{exclusive}
use base.SetCodes.{coded}
use base.Stored.{Gv, gnil, gnum, gcons, coded_unit}
use base.Fml.{GName, Fml, ftrue, fsep, fex, fobs, fres, fown}
use denote.RattleType.{RattleType}
use Rattle.core.specs.declared.option.Option.{Option}
use Rattle.core.specs.declared.option.Option.TheVariants.{None, Some}

abbrev pub once : Algebra
once = exclusive (coded coded_unit)

module _ (R : RattleType) where
  abbrev pub content : Option R.Denot → Gv
  content None = gnil
  content (Some x) = gcons (R.coded.code x) gnil

  -- ε is the name of the element that has one owner
  abbrev pub mark : GName → Option R.Denot → Gv
  mark ε v = gcons (gnum ε) (content v)

  abbrev pub room : GName → Option R.Denot → Fml
  room γ v = fex GName (λ ε. fsep (fobs γ (mark ε v)) (fown once ε tt))

  abbrev pub written : GName → R.Denot → Fml
  written γ x = fex GName (λ ε. fres γ (mark ε (Some x)))

  abbrev pub rooms : List GName → Fml
  rooms [] = ftrue
  rooms (γ ∷ γs) = fsep (room γ None) (rooms γs)
