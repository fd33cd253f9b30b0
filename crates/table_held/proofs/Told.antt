-- What an insert is told, and what shows it, as machine values. T is parameter 0 of each. Assumes `Logic`.
--     Told     a place and what comes back, or a value
--     Shown    a shown target, parameter i, and what comes back, or a value
--     as_value    what `handle_tells` asks of a row
use Rattle.std.proofs.Common.{List, [], ◌∷◌, ℕ, refl}
use Rattle.std.proofs.alloc.Calls.{Al}
use Rattle.std.specs.contracts.option.Option as option
use Rattle.std.specs.contracts.result.Result as result
use Rattle.std.proofs.option.Option.TheLaws as option-laws
use Rattle.std.proofs.result.Result.TheLaws as result-laws
use base.Fml.{ftrue}
use denote.Param.{param}
use denote.Param.Laws.{Laws, param_laws, of_field}
use denote.Param.Shared.{copy_shared}
use denote.RattleType.{RattleType}
use denote.Ref.{NamedLft}
use denote.Struct.Field.{shr_ref_field}
use denote.Struct.Laws.{shr_ref_laws, shr_ref_copy}
use denote.Struct.Tuple as tuple
use mir.Syntax.{given as dict_at}

abbrev pub as_value : (R : RattleType) → Laws R → Al
as_value R L = record { row = R; laws = L; g = record { dealloc_token = λ a τ p. ftrue }; d = dict_at 0; drops = dict_at 0 }

module _ (T : RattleType) (T-laws : Laws T) where
  abbrev Value : RattleType
  Value = param 0 T

  abbrev Value-laws : Laws Value
  Value-laws = param_laws 0 T T-laws

  module _ (P : RattleType) (P-laws : Laws P) where
    abbrev pub Told : RattleType
    Told = result.the_row (tuple.Tuple (P ∷ option.the_row Value ∷ [])) Value

    pub told_laws : Laws Told
    told_laws = result-laws.the_row_laws (tuple.Tuple (P ∷ option.the_row Value ∷ [])) Value (tuple.laws_at _ (P ∷ option.the_row Value ∷ []) (P-laws, (option-laws.the_row_laws Value Value-laws, tt))) Value-laws

  module _ (ℓ : NamedLft) (i : ℕ) (V : RattleType) (V-laws : Laws V) where
    abbrev Target : RattleType
    Target = param i V

    abbrev Pair : List RattleType
    Pair = (shr_ref_field ℓ Target tt).row ∷ option.the_row Value ∷ []

    abbrev pub Shown : RattleType
    Shown = result.the_row (tuple.Tuple Pair) Value

    pub shown_laws : Laws Shown
    shown_laws = result-laws.the_row_laws (tuple.Tuple Pair) Value (tuple.laws_at _ Pair (
      of_field (shr_ref_field ℓ Target tt) (shr_ref_laws ℓ Target tt) refl (copy_shared (shr_ref_field ℓ Target tt) (shr_ref_copy ℓ Target tt (param_laws i V V-laws).shr_laws)),
      (option-laws.the_row_laws Value Value-laws, tt),
    )) Value-laws
