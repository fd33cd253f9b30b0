use Rattle.std.proofs.Common.{◌+◌}
use denote.RattleType.{RattleType}
use denote.RawPtr.{null_ptr}
use denote.Param.Send.{IsSend, IsSync, Frees}
use Rattle.core.specs.declared.alloc.Allocator.{Ghosts}
use Rattle.core.specs.Sync.Atomic.Pointer.{atomic_ptr_holding}
use Rattle.core.proofs.atomic.Sent.{chain-Keyless}
use Rattle.core.proofs.atomic.ptr.AtomicPtr.TheSendSync as atomic
use Rattle.table_cell.specs.declared.home.Homed.{Ghosts as HomedGhosts}
use Rattle.table_cell.specs.contracts.latest.Latest.{the_row}
use Rattle.table_cell.proofs.Sent.{last_keyless}

pub sync : (T Y : RattleType) (f : HomedGhosts T.Denot) (g : Ghosts Y.Denot) → IsSend T → IsSend Y → IsSync T → IsSync Y → Frees g g.dealloc_token → IsSync (the_row T Y f g)
sync T Y f g s sy y yy frees = record {
  shared = λ w b o κ. (
    (λ α. ((λ νs. chain-Keyless νs κ α), λ p. (tt, last_keyless T y w.home w.id (λ x. f.fits x w.home) p))),
    (atomic.the_sync T).shared (atomic_ptr_holding null_ptr) b (o + 0) κ,
  );
}
