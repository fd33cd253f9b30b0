-- What a note knows is known for good. Assumes `Logic`.
use Rattle.std.proofs.Common.{[], ◌∷◌}
use base.Logic.{snd∗}
use base.Before.{before}
use types.Logic.{sem}
use denote.RattleType.{RattleType}
use denote.RawPtr.{RawPtr}
use denote.Param.Laws.{Laws}
use denote.Param.Shared.{copy_shared}
use denote.Struct.Laws.{field_copy}
use denote.Struct.Lending.{of_Lends}
use Rattle.core.specs.contracts.marker.PhantomData as marker
use Rattle.table_cell.specs.Notes.{learnt}
use Rattle.table_cell.specs.contracts.note.Note as C
use Rattle.table_cell.proofs.note.Note.TheLaw.Statement.{statement}
use Rattle.table_cell.proofs.Homes.{Lends-twice}
use Rattle.table_cell.proofs.Notes.{learnt_twice}

pub shares : (T : RattleType) (L : Laws T) → statement T L
shares T L = of_Lends (C.struct T) (C.the_codes T.Denot T.coded (marker.the_row RawPtr).coded) (C.the_heap T) (C.the_lent T)
    (λ n p. record { contraction = λ M 𝓤 𝓛 κ. learnt_twice T n.of 𝓛 n.known; mono = λ M 𝓤 𝓛 κ' κ. snd∗ 𝓤 (sem 𝓛 (before κ' κ)) (sem 𝓛 (learnt T n.of n.known)) })
    (copy_shared (marker.the_field RawPtr) (field_copy (marker.the_type RawPtr) tt), tt)
    (λ M 𝓤 𝓛 n p. Lends-twice 𝓛 (learnt T n.of n.known) (learnt_twice T n.of 𝓛 n.known) (C.the_row T).lives)
