-- A pointer with what stands beside its address: so each word is made, whatever its law. The address is found in the fields of a
-- struct, or in memory.
use Rattle.std.specs.Prelude.{ℕ, ◌+◌}
use base.Fml.{Lft, Fml, ffalse, fsep, fex, fbor}
use denote.RattleType.{RattleType}
use denote.Memory.{shared_of}
use denote.RawPtr.{Ptr, block_ptr, null_ptr}
use denote.Sharing.{said, beside, some, ends, always}
use Rattle.core.specs.Sync.Atomic.Pointer.{atomic_ptr_holding}
use Rattle.core.specs.Sync.RawAtomic.Pointer.{cell}
use Rattle.core.specs.contracts.atomic.ptr.AtomicPtr.{the_row}

-- the address is found in this, and that stands beside it
abbrev pub addressed : (Ptr → Fml) → (Ptr → Fml) → Fml
addressed stands found_in = fex Ptr (λ p. fsep (found_in p) (stands p))

-- the address is found in memory at (b, o)
abbrev pub in_cell : (Ptr → Fml) → ℕ → ℕ → Fml
in_cell stands b o = addressed stands (cell b o)

-- a `&` to what begins with such a pointer: between any two steps it is whole
abbrev pub behind : RattleType → (Ptr → Fml) → Ptr → Lft → Fml
behind R stands (block_ptr b o) =
    beside (some Lft (λ α. beside (ends α) (always (fbor α (in_cell stands b (o + 0))))))
    (shared_of (the_row R) (atomic_ptr_holding null_ptr) b (o + 0))
behind R stands null_ptr = said ffalse
