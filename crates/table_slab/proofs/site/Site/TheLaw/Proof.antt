-- Who shares what is known of a word, knows it too. Assumes `Logic`.
use denote.RattleType.{RattleType}
use denote.Param.Laws.{Laws}
use denote.Param.Shared.{copy_shared}
use denote.Struct.Laws.{field_copy}
use denote.Struct.Lending.{of_Lends}
use Rattle.core.specs.contracts.marker.PhantomData as marker
use Rattle.std.specs.declared.option.Option.TheVariants.{Some}
use Rattle.table_cell.specs.Notes.{learnt}
use Rattle.table_cell.proofs.Homes.{Lends-twice}
use Rattle.table_slab.specs.contracts.site.Site as C
use Rattle.table_slab.proofs.Sites.{learnt_twice}
use Rattle.table_slab.proofs.Shown.{good_laws}
use Rattle.table_slab.proofs.site.Site.TheLaw.Statement.{statement}

pub shares : (T : RattleType) (L : Laws T) → statement T L
shares T L = of_Lends (C.struct T) (C.the_codes T.Denot T.coded (marker.the_row T).coded) (C.the_heap T) (C.the_lent T)
    (λ s p. good_laws (learnt T s.cell (Some s.value)) (λ M 𝓤 𝓛. learnt_twice 𝓛 T s.cell s.value)) (copy_shared (marker.the_field T) (field_copy (marker.the_type T) tt), tt)
    (λ M 𝓤 𝓛 s p. Lends-twice 𝓛 (learnt T s.cell (Some s.value)) (learnt_twice 𝓛 T s.cell s.value) (C.the_row T).lives)
