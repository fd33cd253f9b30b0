-- Who shares what shows a value for good, shares what it shows. Assumes `Logic`.
use denote.RattleType.{RattleType}
use denote.Param.Laws.{Laws}
use denote.Param.Shared.{copy_shared}
use denote.Struct.Laws.{field_copy}
use denote.Struct.Lending.{of_Lends}
use Rattle.core.specs.contracts.marker.PhantomData as marker
use Rattle.table_cell.proofs.Homes.{Lends-twice}
use Rattle.table_slab.specs.Rights.{written}
use Rattle.table_slab.specs.contracts.rights.Written as C
use Rattle.table_slab.proofs.Tokens.{written_twice}
use Rattle.table_slab.proofs.Shown.{good_laws}
use Rattle.table_slab.proofs.rights.Written.TheLaw.Statement.{statement}

pub shares : (T : RattleType) (L : Laws T) → statement T L
shares T L = of_Lends (C.struct T) (C.the_codes T.Denot T.coded (marker.the_row T).coded) (C.the_heap T) (C.the_lent T)
    (λ w p. good_laws (written T w.of w.value) (λ M 𝓤 𝓛. written_twice 𝓛 T w.of w.value)) (copy_shared (marker.the_field T) (field_copy (marker.the_type T) tt), tt)
    (λ M 𝓤 𝓛 w p. Lends-twice 𝓛 (written T w.of w.value) (written_twice 𝓛 T w.of w.value) (C.the_row T).lives)
