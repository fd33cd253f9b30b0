-- A `&` to a latest word is made of a borrow of it: the pointer and what stands beside it go into an invariant. Assumes `Logic`.
use Rattle.std.proofs.Common.{◌≡◌, ℕ, refl}
use base.Fml.{Fml}
use base.Fraction.{full_share}
use types.Logic.{sem}
use denote.RattleType.{RattleType}
use denote.Memory.{part_of, part_at}
use denote.RawPtr.{Ptr, block_ptr}
use denote.Param.Laws.{Laws}
use Rattle.core.specs.declared.alloc.Allocator.{Ghosts}
use Rattle.core.proofs.cell.Borrows.{by_one}
use Rattle.table_cell.specs.Beside.{behind}
use Rattle.table_cell.specs.Latest.{LatestView, last}
use Rattle.table_cell.specs.declared.home.Homed.{Ghosts as HomedGhosts}
use Rattle.table_cell.specs.contracts.latest.Latest as C
use Rattle.table_cell.proofs.Behind.{InMemory, lends, behind_laws}
use Rattle.table_cell.proofs.latest.Latest.TheLaw.Statement.{statement}

module _ (R Y : RattleType) (f : HomedGhosts R.Denot) (g : Ghosts Y.Denot) (L : Laws R) (LY : Laws Y) (l : LatestView) (b o : ℕ) where
  abbrev Beside : Ptr → Fml
  Beside = last R l.home l.id (λ x. f.fits x l.home)

  is_pair : part_at (C.the_written R Y f g) full_share l b o ≡ InMemory R Y L LY Beside b o
  unfolding part_of
  is_pair = refl

pub shares : (T Y : RattleType) (f : HomedGhosts T.Denot) (g : Ghosts Y.Denot) (L : Laws T) (LY : Laws Y) → statement T Y f g L LY
shares T Y f g L LY = record {
  shr_laws = λ l b o. behind_laws T L (Beside T Y f g L LY l b o) b o;
  shares = λ M 𝓤 𝓛 l κ ts b o inc sp. by_one 𝓛 κ ts sp (𝓛.A.bor κ (part_at (C.the_written T Y f g) full_share l b o))
      (sem 𝓛 (behind T (Beside T Y f g L LY l b o) (block_ptr b o) κ))
      (λ q. lends T Y L LY 𝓛 (Beside T Y f g L LY l b o) b o κ q (part_at (C.the_written T Y f g) full_share l b o) (is_pair T Y f g L LY l b o));
}
