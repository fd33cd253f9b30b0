-- What stands for good stands again for a copy.
use Rattle.std.proofs.Common.{◌≡◌, ℕ, List, sym, subst}
use Rattle.table_slab.specs.Held.{StandsAt}
use Rattle.table_slab.specs.Slabs.{SlabView, IsSlot}
use Rattle.table_slab.specs.declared.slab.Standing.{Standing}

pub standing_stays : {T A : Type 0} {s t : SlabView} (k : ℕ) (v w : Standing T A) → s ≡ t → w.site.cell ≡ v.site.cell → w.site.value ≡ v.site.value → w.written.of ≡ v.written.of → StandsAt s k v → StandsAt t k w
standing_stays k v w slab cell names of is = subst (λ (z : SlabView × ℕ × List ℕ × ℕ). IsSlot z.0 k z.1 z.2 z.3) (λ i. (slab i, sym cell i, sym names i, sym of i)) is
