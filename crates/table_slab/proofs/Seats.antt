-- Where the slot of a number lies.
use Rattle.std.proofs.Common.{◌≡◌, ℕ, ◌+◌, ◌^◌, ◌<◌, List, ◌∷◌, length, sym, ap, ◌∙◌, subst, arith}
use Rattle.std.proofs.lemmas.List.{length-map}
use Rattle.std.proofs.lemmas.List.Elements.{All-head, All-tail}
use Rattle.table_cell.specs.Words.{WordView}
use Rattle.table_slab.specs.Numbering.{IsAt}
use Rattle.table_slab.specs.Slabs.{SlabView, id_at, IsSlot, IsCell, AreCells, IsSlab, slab_view}
use Rattle.table_slab.proofs.Places.{at_one_place, few_numbers}

-- the slot γ is at this place and offset
pub record IsThere (s : SlabView) (place offset cell : ℕ) (names : List ℕ) (γ : ℕ) : Type 0 where
  pub inside : place < length s.cells
  pub holds : cell ≡ id_at s.cells place
  pub within : offset < length names
  pub named : γ ≡ id_at names offset

pub slot_at : {s : SlabView} {number place offset cell γ : ℕ} {names : List ℕ} → IsSlot s number cell names γ → IsAt s.bits number place offset → IsThere s place offset cell names γ
slot_at {s} {number} {place} {offset} {cell} {γ} {names} slot at = let one = at_one_place slot.at at in
    subst (λ (z : ℕ × ℕ). IsThere s z.0 z.1 cell names γ) (λ i. (one.0 i, one.1 i)) (record { inside = slot.inside; holds = slot.holds; within = slot.within; named = slot.named })

module _ {A X : Type 0} (b : ℕ) (ws : List (WordView A X)) (s : SlabView) (is : slab_view b ws ≡ s) where
  pub as_many : length s.cells ≡ length ws
  as_many = sym (ap (λ (v : SlabView). length v.cells) is) ∙ length-map ws (λ (w : WordView A X). w.id)

  same_bits : b ≡ s.bits
  same_bits = ap (λ (v : SlabView). v.bits) is

  pub slot_there : {number place offset cell γ : ℕ} {names : List ℕ} → IsSlot s number cell names γ → IsAt b number place offset → IsThere s place offset cell names γ
  slot_there {number} {place} {offset} slot at = slot_at slot (subst (λ (n : ℕ). IsAt n number place offset) same_bits at)

  pub slot_few : {a : A} {h number cell γ : ℕ} {names : List ℕ} → IsSlab a h b ws → IsSlot s number cell names γ → number < 2 ^ 32
  slot_few slab slot = let few : s.bits + slot.place < 32 = omega (arith, slab.few, same_bits, as_many, slot.inside) in few_numbers few slot.at

-- the first of some cells, and the others
module _ {A X : Type 0} {a : A} {h : ℕ} {w : WordView A X} {ws vs : List (WordView A X)} where
  pub first_cell : vs ≡ w ∷ ws → AreCells a h vs → IsCell a h w
  first_cell is are = All-head (IsCell a h) w ws (subst (AreCells a h) is are)

  pub rest_cells : vs ≡ w ∷ ws → AreCells a h vs → AreCells a h ws
  rest_cells is are = All-tail (IsCell a h) w ws (subst (AreCells a h) is are)

-- what is known of one number is known of one cell and one slot
module _ {s : SlabView} {number c d γ δ : ℕ} {ms ns : List ℕ} (a : IsSlot s number c ms γ) (b : IsSlot s number d ns δ) where
  pub same_cell : c ≡ d
  same_cell = a.holds ∙ ap (λ (p : ℕ). id_at s.cells p) (at_one_place a.at b.at).0 ∙ sym b.holds

  pub same_name : ms ≡ ns → γ ≡ δ
  same_name are = a.named ∙ (λ i. id_at (are i) ((at_one_place a.at b.at).1 i)) ∙ sym b.named
