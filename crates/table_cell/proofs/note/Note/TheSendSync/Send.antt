use denote.RattleType.{RattleType}
use denote.Param.Send.{IsSend, AllSend, owning_send, struct_send, sendable}
use denote.Struct.Owning.{shape, fields, to}
use denote.Struct.Struct.{exits_of}
use Rattle.std_alloc.proofs.SendSync.{quiet}
use Rattle.table_cell.specs.contracts.note.Note as C
use Rattle.table_cell.proofs.Sent.{learnt_keyless}

pub send : (T : RattleType) → IsSend (C.the_row T)
send T = let O = C.the_type T in let all : AllSend (fields O) = (search sendable, tt) in
    owning_send O all (λ n. learnt_keyless T n.of n.known) (λ k. quiet (to O) (exits_of k (fields O)) ((struct_send (shape O) all).leaving k))
