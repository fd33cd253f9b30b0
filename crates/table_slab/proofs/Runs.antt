-- What is next in a run, and what is left of it.
use Rattle.std.proofs.Common.{◌≡◌, ℕ, zero, suc, ◌+◌, ◌-◌, ◌^◌, ◌<◌, ◌≤◌, List, ◌∷◌, length, take, drop, sym, ap, ◌∙◌, subst, arith, slice_index_or}
use Rattle.std.specs.Prelude.{Some, unwrap_or}
use Rattle.std.proofs.Math.Seq.{drop-cons}
use Rattle.table_slab.specs.Counting.{part}
use Rattle.table_slab.specs.Numbering.{chunk_len, IsAt, IsSmall}
use Rattle.table_slab.specs.Slabs.{SlabView, id_at, IsSlot}
use Rattle.table_slab.specs.Runs.{AreNext}
use Rattle.table_slab.specs.declared.run.Run.{Run}
use Rattle.table_slab.specs.declared.site.Site.{Site}
use Rattle.table_slab.specs.declared.rights.Rooms.{Rooms}
use Rattle.table_slab.proofs.Places.{at_one_place}

-- some names in a row begin with the one at their offset
part_first : (names : List ℕ) (offset count : ℕ) → 0 < count → offset + count ≤ length names → part names offset count ≡ id_at names offset ∷ part names (offset + 1) (count - 1)
part_first names offset zero some fits = absurd (omega arith)
part_first names offset (suc count) some fits = let within : offset < length names = omega arith in let after : suc offset ≡ offset + 1 = omega arith in let rest : suc count - 1 ≡ count = omega arith in
    ap (λ (xs : List ℕ). take (suc count) xs) (drop-cons names offset 0 within) ∙ (λ i. id_at names offset ∷ take (sym rest i) (drop (after i) names))

abbrev first_of : List ℕ → ℕ
first_of xs = slice_index_or xs 0 0

abbrev rest_of : List ℕ → List ℕ
rest_of xs = drop 1 xs

-- numbers in a row are small where the last one is
pub all_small : {bits number place offset count used : ℕ} → 0 < count → offset + count ≤ used → used ≤ chunk_len bits place → IsAt bits number place offset
    → ((n o : ℕ) → IsAt bits n place o → o < used → IsSmall n) → number + count + 2 ≤ 2 ^ 32
all_small {bits} {number} {place} {offset} {count} {used} some within upto at small =
    let last : IsAt bits (number + (count - 1)) place (offset + (count - 1)) = record { within = omega (arith, some, within, upto); counted = omega (arith, some, at.counted) } in
    omega (arith, some, small (number + (count - 1)) (offset + (count - 1)) last (omega (arith, some, within)))

module _ {T A : Type 0} (s : SlabView) (r : Run T A) (γ : ℕ) (γs : List ℕ) (are : AreNext s r) (begins : r.rooms.names ≡ γ ∷ γs) (some : 0 < r.left) where
  abbrev names : List ℕ
  names = are.site.value

  splits : γ ∷ γs ≡ id_at names are.offset ∷ part names (are.offset + 1) (r.left - 1)
  splits = sym begins ∙ are.rooms ∙ part_first names are.offset r.left some are.within

  pub next_slot : (x : Site (List ℕ)) → r.site ≡ Some x → IsSlot s r.number x.cell x.value γ
  next_slot x is = let same : are.site ≡ x = ap (λ o. unwrap_or o are.site) (sym are.known ∙ is) in let first : γ ≡ id_at names are.offset = ap first_of splits in
      subst (λ (z : Site (List ℕ)). IsSlot s r.number z.cell z.value γ) same
      (record { place = r.place; offset = are.offset; inside = are.inside; at = are.at; holds = are.holds; within = omega (arith, are.within, some); named = first })

  pub next_rest : (rooms : Rooms T) → rooms.names ≡ γs → 0 < r.left - 1 → AreNext s (record r { number = r.number + 1; left = r.left - 1; rooms = rooms })
  next_rest rooms is more = record {
    site = are.site;
    offset = are.offset + 1;
    known = are.known;
    inside = are.inside;
    small = are.small;
    holds = are.holds;
    at = record { within = omega (arith, are.few, more); counted = omega (arith, are.at.counted) };
    within = omega (arith, are.within, more);
    few = omega (arith, are.few, more);
    fits = omega (arith, are.fits, more);
    rooms = is ∙ ap rest_of splits;
  }

-- what is left of a run lies in its chunk
module _ {T A : Type 0} {s : SlabView} {r : Run T A} (are : AreNext s r) {x : Site (List ℕ)} (is : r.site ≡ Some x) where
  same_site : are.site ≡ x
  same_site = ap (λ o. unwrap_or o are.site) (sym are.known ∙ is)

  pub run_cell : x.cell ≡ id_at s.cells r.place
  run_cell = sym (ap (λ (y : Site (List ℕ)). y.cell) same_site) ∙ are.holds

  pub run_slots : {place offset : ℕ} → IsAt s.bits r.number place offset → r.rooms.names ≡ part x.value offset r.left
  run_slots at = are.rooms ∙ (λ i. part (same_site i).value ((at_one_place are.at at).1 i) r.left)
