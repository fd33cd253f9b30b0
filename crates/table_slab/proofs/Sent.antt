-- What may go to another thread. The rights to slots hold names alone. A row is Send where a value is, and Sync where a value is both.
use Rattle.std.proofs.Common.{ℕ, ◌+◌, List, [], ◌∷◌}
use base.Fraction.{full_share}
use base.Shift.{Keyless}
use denote.RattleType.{RattleType}
use denote.RawPtr.{Ptr, block_ptr, null_ptr}
use denote.Param.Send.{IsSend, IsSync, Common, AllSend, part_keyless, owning_send, struct_send, struct_sync, sendable}
use denote.Struct.Owning.{shape, fields, to}
use denote.Struct.Struct.{exits_of}
use denote.Struct.Struct
use denote.Struct.Owning
use Rattle.core.specs.Mem.{type_size}
use Rattle.core.specs.declared.alloc.Allocator.{Ghosts}
use Rattle.core.specs.declared.option.Option.{Option}
use Rattle.core.specs.declared.option.Option.TheVariants.{None, Some}
use Rattle.core.proofs.atomic.Sent.{chain-Keyless}
use Rattle.std_alloc.proofs.SendSync.{FreesAnywhere, quiet}
use Rattle.table_slab.specs.Rights.{rooms}
use Rattle.table_slab.specs.Kept.{Phase, idle, out, held, full, Turn, place, told, tie, lent, row, shared_row, row_owns, row_shares}
use Rattle.table_slab.specs.contracts.row.Row as Row
use Rattle.table_slab.specs.contracts.row.Deed as Deed
use Rattle.table_slab.specs.contracts.rights.Room as Room
use Rattle.table_slab.specs.contracts.rights.Rooms as Rooms
use Rattle.table_slab.specs.contracts.rights.Written as Written

rooms_keyless : (R : RattleType) (γs : List ℕ) → Keyless (rooms R γs)
rooms_keyless R [] = tt
rooms_keyless R (γ ∷ γs) = ((λ ε. (tt, tt)), rooms_keyless R γs)

pub written_send : (R : RattleType) → IsSend (Written.the_row R)
written_send R = record { owned = λ d vs. ((λ vss. (tt, ((λ uss. (tt, tt)), tt))), λ ε. tt); leaving = λ k f vs. tt }

pub written_sync : (R : RattleType) → IsSync (Written.the_row R)
written_sync R = let fields : IsSync (denote.Struct.Struct.Struct (denote.Struct.Owning.shape (Written.the_type R))) = search sendable depth 20 in
    record { shared = λ d b o κ. (fields.shared (tt, tt) b o κ, λ ε. tt) }

pub room_send : (R : RattleType) → IsSend (Room.the_row R)
room_send R = record { owned = λ d vs. ((λ vss. (tt, ((λ uss. (tt, tt)), tt))), λ ε. (tt, tt)); leaving = λ k f vs. tt }

pub rooms_send : (R : RattleType) → IsSend (Rooms.the_row R)
rooms_send R = record { owned = λ d vs. ((λ vss. (tt, ((λ uss. (tt, tt)), tt))), rooms_keyless R d.names); leaving = λ k f vs. tt }

module _ (R : RattleType) where
  told_keyless : (γ ε : ℕ) (s : Phase R.Denot) → Keyless (told R γ ε s)
  told_keyless γ ε idle = tt
  told_keyless γ ε out = tt
  told_keyless γ ε (held x) = tt
  told_keyless γ ε (full x) = tt

  tie_keyless : (γ : ℕ) (t : Turn) (b o : ℕ) (s : Phase R.Denot) → Keyless (tie R γ t b o s)
  tie_keyless γ t b o idle = tt
  tie_keyless γ t b o out = tt
  tie_keyless γ t b o (held x) = tt
  tie_keyless γ t b o (full x) = tt

  module _ (s : IsSend R) where
    place_keyless : (b o : ℕ) (v : Option R.Denot) → Keyless (place R b o v)
    place_keyless b o None = tt
    place_keyless b o (Some x) = part_keyless R s full_share x b o

    row_keyless : (b o : ℕ) (γs : List ℕ) → Keyless (row R b o γs)
    row_keyless b o [] = tt
    row_keyless b o (γ ∷ γs) = ((λ u. (place_keyless b o u.0, ((tt, told_keyless γ u.1.0 u.1.1), λ _. tt))), row_keyless b (o + type_size R) γs)

    owns_keyless : (p : Ptr) (γs : List ℕ) → Keyless (row_owns R p γs)
    owns_keyless (block_ptr b o) γs = (tt, row_keyless b o γs)
    owns_keyless null_ptr γs = tt

    module _ (y : IsSync R) where
      lent_keyless : (γ : ℕ) (t : Turn) (b o : ℕ) (p : Phase R.Denot) → Keyless (lent R γ t b o p)
      lent_keyless γ t b o idle = λ v. (place_keyless b o v, tt)
      lent_keyless γ t b o out = tt
      lent_keyless γ t b o (held x) = λ ν. ((tt, y.shared x b o (ν ∷ t.0)), λ v. (place_keyless b o v, tt))
      lent_keyless γ t b o (full x) = λ u. (tt, y.shared x b o (u.0 ∷ t.0))

      shared_keyless : (b o : ℕ) (γs : List ℕ) → Common (shared_row R b o γs)
      shared_keyless b o [] κ = tt
      shared_keyless b o (γ ∷ γs) κ = ((λ t. ((λ νs. chain-Keyless νs κ t.0), λ u. (((tt, told_keyless γ u.0 u.1), tie_keyless γ t b o u.1), lent_keyless γ t b o u.1))), shared_keyless b (o + type_size R) γs κ)

      shares_keyless : (p : Ptr) (γs : List ℕ) → Common (row_shares R p γs)
      shares_keyless (block_ptr b o) γs κ = (tt, shared_keyless b o γs κ)
      shares_keyless null_ptr γs κ = tt

  pub row_send : IsSend R → IsSend (Row.the_row R)
  row_send s = let O = Row.the_type R in let all : AllSend (fields O) = (search sendable, tt) in
      owning_send O all (λ d. owns_keyless s d.at d.names) (λ k. quiet (to O) (exits_of k (fields O)) ((struct_send (shape O) all).leaving k))

  pub row_sync : IsSend R → IsSync R → IsSync (Row.the_row R)
  row_sync s y = let O = Row.the_type R in record { shared = λ d b o κ. ((struct_sync (shape O) (search sendable, tt)).shared (to O d) b o κ, shares_keyless s y d.at d.names κ) }

  module _ (A : RattleType) (g : Ghosts A.Denot) where
    pub deed_send : FreesAnywhere A.Denot g → IsSend (Deed.the_row R A g)
    deed_send f = let O = Deed.the_type R A g in let all : AllSend (fields O) = (search sendable, tt) in
        owning_send O all (λ d. f.frees d.alloc _ d.at) (λ k. quiet (to O) (exits_of k (fields O)) ((struct_send (shape O) all).leaving k))

    pub deed_sync : IsSync (Deed.the_row R A g)
    deed_sync = let O = Deed.the_type R A g in record { shared = λ d b o κ. ((struct_sync (shape O) (search sendable, tt)).shared (to O d) b o κ, tt) }
