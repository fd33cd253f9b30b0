-- Who shares a receipt, shares what stands at its number. Assumes `Logic`.
use denote.RattleType.{RattleType}
use denote.Param.Laws.{Laws}
use denote.Param.Shared.{copy_shared}
use denote.Struct.Laws.{field_copy}
use denote.Struct.Lending.{of_Lends}
use Rattle.core.specs.contracts.marker.PhantomData as marker
use Rattle.table_slab.specs.Shelved.{standing}
use Rattle.table_slab.specs.Spent.{spent}
use Rattle.table_slab.specs.contracts.rights.Receipt as C
use Rattle.table_slab.proofs.Received.{Lends-shown}
use Rattle.table_slab.proofs.Shelved.{standing_twice}
use Rattle.table_slab.proofs.Shown.{good_laws}
use Rattle.table_slab.proofs.Spent.{spent_stands}
use Rattle.table_slab.proofs.rights.Receipt.TheLaw.Statement.{statement}

pub shares : (T : RattleType) (L : Laws T) → statement T L
shares T L = of_Lends (C.struct T) (C.the_codes T.Denot T.coded (marker.the_row T).coded) (C.the_heap T) (C.the_lent T)
    (λ r p. good_laws (standing T r.slab r.number r.value) (λ M 𝓤 𝓛. standing_twice 𝓛 T r.slab r.number r.value)) (copy_shared (marker.the_field T) (field_copy (marker.the_type T) tt), tt)
    (λ M 𝓤 𝓛 r p. Lends-shown 𝓛 (spent T r.slab r.number r.value) (standing T r.slab r.number r.value) (spent_stands 𝓛 T r.slab r.number r.value) (C.the_row T).lives)
