-- A `&` to a home ends no later than it. Assumes `Logic`.
use mathlib.Core.List.{[], ◌∷◌}
use denote.RawPtr.{RawPtr}
use denote.SharingLaws.{ends_shr_laws}
use denote.Param.Shared.{copy_shared}
use denote.Struct.Laws.{field_copy}
use denote.Struct.Lending.{of_Lends}
use Rattle.core.specs.contracts.marker.PhantomData as marker
use Rattle.table_cell.specs.contracts.home.Home as C
use Rattle.table_cell.proofs.home.Home.TheLaw.Statement.{statement}
use Rattle.table_cell.proofs.Homes.{Lends-home}

pub shares : statement
shares = of_Lends C.struct (C.the_codes (marker.the_row RawPtr).coded) C.the_heap C.the_lent (λ d p. ends_shr_laws (d.id ∷ [])) (copy_shared (marker.the_field RawPtr) (field_copy (marker.the_type RawPtr) tt), tt)
    (λ M 𝓤 𝓛 d p. Lends-home 𝓛 (d.id ∷ []) C.the_row.lives)
