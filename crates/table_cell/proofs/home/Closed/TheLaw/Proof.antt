-- That a home has ended is known for good. Assumes `Logic`.
use mathlib.Core.List.{[], ◌∷◌}
use base.Logic.{snd∗}
use base.Fml.{fdead}
use base.Before.{before}
use types.Logic.{sem}
use denote.RawPtr.{RawPtr}
use denote.Param.Shared.{copy_shared}
use denote.Struct.Laws.{field_copy}
use denote.Struct.Lending.{of_Lends}
use Rattle.core.specs.contracts.marker.PhantomData as marker
use Rattle.table_cell.specs.contracts.home.Closed as C
use Rattle.table_cell.proofs.home.Closed.TheLaw.Statement.{statement}
use Rattle.table_cell.proofs.Homes.{Lends-twice}

pub shares : statement
shares = of_Lends C.struct (C.the_codes (marker.the_row RawPtr).coded) C.the_heap C.the_lent
    (λ d p. record { contraction = λ M 𝓤 𝓛 κ. 𝓛.lfts.dead_dup (d.id ∷ []); mono = λ M 𝓤 𝓛 κ' κ. snd∗ 𝓤 (sem 𝓛 (before κ' κ)) (sem 𝓛 (fdead (d.id ∷ []))) })
    (copy_shared (marker.the_field RawPtr) (field_copy (marker.the_type RawPtr) tt), tt)
    (λ M 𝓤 𝓛 d p. Lends-twice 𝓛 (fdead (d.id ∷ [])) (𝓛.lfts.dead_dup (d.id ∷ [])) C.the_row.lives)
