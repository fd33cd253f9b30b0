use denote.RattleType.{RattleType}
use denote.Param.Send.{IsSend, IsSync, Frees, struct_send, recorded_send, sendable}
use denote.Struct.Declared.{shape}
use Rattle.core.specs.declared.alloc.Allocator.{Ghosts}
use Rattle.core.specs.Sync.Atomic.Pointer.{atomic_ptr_holding}
use Rattle.core.proofs.atomic.ptr.AtomicPtr.TheSendSync as atomic
use Rattle.table_cell.specs.declared.home.Homed.{Ghosts as HomedGhosts}
use Rattle.table_cell.specs.contracts.latest.Latest.{the_row}
use Rattle.table_cell.specs.contracts.latest.Latest.TheInside as inside
use Rattle.table_cell.proofs.Sent.{last_keyless}

fields_send : (T Y : RattleType) (f : HomedGhosts T.Denot) (g : Ghosts Y.Denot) → IsSend (inside.the_row T Y f g)
fields_send T Y f g = recorded_send (inside.the_field T Y f g).row _ _ (inside.the_type T Y f g).to_one (struct_send (shape (inside.the_type T Y f g)) (atomic.the_field_send T, (search sendable, tt)))

pub send : (T Y : RattleType) (f : HomedGhosts T.Denot) (g : Ghosts Y.Denot) → IsSend T → IsSend Y → IsSync T → Frees g g.dealloc_token → IsSend (the_row T Y f g)
send T Y f g s sy y frees = record {
  owned = λ w vs. (
    (λ _. tt),
    λ p. (
      (fields_send T Y f g).owned (record { inner = atomic_ptr_holding p; marker = record {} }) vs,
      last_keyless T y w.home w.id (λ x. f.fits x w.home) p,
    ),
  );
  leaving = λ k d w. tt;
}
