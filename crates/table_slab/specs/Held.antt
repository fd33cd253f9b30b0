-- Which number of a slab a right is of, at which a value stands for good, and which a receipt is of.
use Rattle.std.specs.Prelude.{◌≡◌, ℕ, ◌≤◌, ◌==◌, List, count_by}
use Rattle.table_slab.specs.Slabs.{SlabView, IsSlot}
use Rattle.table_slab.specs.declared.rights.Receipt.{Receipt}
use Rattle.table_slab.specs.declared.slab.Right.{Right}
use Rattle.table_slab.specs.declared.slab.Standing.{Standing}

abbrev pub IsRightTo : {T A : Type 0} → SlabView → ℕ → Right T A → Type 0
IsRightTo s number r = IsSlot s number r.site.cell r.site.value r.room.of

abbrev pub StandsAt : {T A : Type 0} → SlabView → ℕ → Standing T A → Type 0
StandsAt s number w = IsSlot s number w.site.cell w.site.value w.written.of

-- the receipt of this number, which holds x for good
abbrev pub IsReceiptFor : {T : Type 0} → SlabView → ℕ → T → Receipt T → Type 0
IsReceiptFor s number x r = (r.slab ≡ s) × (r.number ≡ number) × (r.value ≡ x)

-- no two of these are of one number
abbrev pub AreDistinct : {T : Type 0} → List (ℕ × T) → Type 0
AreDistinct es = (number : ℕ) → count_by (λ (e : ℕ × _). number == e.0) es ≤ 1
