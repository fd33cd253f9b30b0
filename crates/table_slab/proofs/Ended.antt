-- What is left of a slab that ends, once a value was taken out.
use Rattle.std.proofs.Common.{◌≡◌, ◌≢◌, ℕ, zero, suc, ◌+◌, ◌^◌, ◌<◌, ◌⊎◌, inl, inr, List, [], ◌∷◌, length, slice_index_or, refl, sym, ap, ◌∙◌, subst, arith}
use Rattle.std.specs.Prelude.{map, slice_set, All, Option, Some, None, unwrap_or}
use Rattle.std.proofs.lemmas.Bool.{cases_eq}
use Rattle.std.proofs.lemmas.List.{length-map, length-set, map-set, get_or-map, get_or-set_same, get_or-set_other}
use Rattle.std.proofs.lemmas.List.Elements.{All-set, All-get_or, All-head, All-tail}
use Rattle.std.proofs.Math.Seq.{map-set_same}
use Rattle.table_cell.specs.Words.{WordView}
use Rattle.table_slab.specs.Numbering.{IsAt}
use Rattle.table_slab.specs.Slabs.{id_at, IsSlot, IsCell, IsSlab}
use Rattle.table_slab.specs.Endings.{Changed, name_of, change_of, IsOpen, Opens, IsEnding, EndView, end_view, IsLeft}
use Rattle.table_slab.specs.declared.ending.Cell.{Cell}
use Rattle.table_slab.specs.declared.ending.Cell.TheVariants as cell
use Rattle.table_slab.specs.declared.ending.Owned.{Owned}
use Rattle.table_slab.proofs.Seats.{slot_at}
use Rattle.table_slab.proofs.Places.{at_one_number, few_numbers}

abbrev is_some : Option Changed → ℕ
is_some None = 0
is_some (Some c) = 1

module _ (T A : Type 0) (a : A) (h : ℕ) where
  -- a cell is one of its slab
  name_at : (cells : List (Cell T A)) (p : ℕ) (c : Cell T A) → p < length cells → c ≡ slice_index_or cells p c → id_at (map name_of cells) p ≡ name_of c
  name_at cells p c within is = get_or-map name_of cells p c 0 within ∙ ap name_of (sym is)

  change_at : (cells : List (Cell T A)) (p : ℕ) (c : Cell T A) → p < length cells → c ≡ slice_index_or cells p c → slice_index_or (map change_of cells) p None ≡ change_of c
  change_at cells p c within is = get_or-map change_of cells p c None within ∙ ap change_of (sym is)

  whole_at : (cells : List (Cell T A)) (p : ℕ) (c : Cell T A) → p < length cells → c ≡ slice_index_or cells p c → All (IsOpen a h) cells → IsOpen a h c
  whole_at cells p c within is all = subst (IsOpen a h) (sym is) (All-get_or (IsOpen a h) cells p c within all)

  -- the slots of a chunk are as many as its cell says
  as_long : (c : Cell T A) (ms ns : List ℕ) → IsOpen a h c → Opens c ms ns → length ns ≡ length ms
  as_long (cell.Shared w) ms ns whole os = ap length os
  as_long (cell.Own o) ms ns whole os = ap length os.1 ∙ whole ∙ ap length (sym os.0)
  as_long cell.Gone ms ns whole os = absurd whole

  -- a slot that is left has the name that it had
  kept_name : (e : EndView) (number p offset : ℕ) (c : Cell T A) (ms ns : List ℕ) → Opens c ms ns → slice_index_or e.changed p None ≡ change_of c → IsAt e.slab.bits number p offset → IsLeft e number
      → id_at ns offset ≡ id_at ms offset
  kept_name e number p offset (cell.Shared w) ms ns os looks at left = ap (λ (xs : List ℕ). id_at xs offset) os
  kept_name e number p offset (cell.Own o) ms ns os looks at left = ap (λ (xs : List ℕ). id_at xs offset) os.1 ∙ left p offset (o.site.value, o.slots) at looks ∙ ap (λ (xs : List ℕ). id_at xs offset) (sym os.0)
  kept_name e number p offset cell.Gone ms ns os looks at left = absurd os

  module _ (bits : ℕ) (cells : List (Cell T A)) (p : ℕ) (c : Cell T A) (within : p < length cells) (is : c ≡ slice_index_or cells p c) (ms ns : List ℕ) (opens : Opens c ms ns) where
    -- the slot of a number that is left
    pub slot_left : (number offset γ : ℕ) → IsOpen a h c → IsAt bits number p offset → IsLeft (end_view bits cells) number → offset < length ms → γ ≡ id_at ms offset → (offset < length ns) × (γ ≡ id_at ns offset)
    slot_left number offset γ whole at left inside named = (omega (arith, inside, as_long c ms ns whole opens), named ∙ sym (kept_name (end_view bits cells) number p offset c ms ns opens (change_at cells p c within is) at left))

    module _ (o : Owned T A) (δ offset : ℕ) (known : o.site.value ≡ ms) (name : o.site.cell ≡ name_of c) (slots : o.slots ≡ slice_set ns offset δ) where
      abbrev after : List (Cell T A)
      after = slice_set cells p (cell.Own o)

      pub still_named : map name_of after ≡ map name_of cells
      still_named = map-set_same name_of cells p (cell.Own o) c (name ∙ ap name_of is)

      pub still_ending : IsEnding a h bits cells → IsEnding a h bits after
      still_ending ending = let whole = whole_at cells p c within is ending.each in let long : length o.slots ≡ length o.site.value = ap length slots ∙ length-set ns offset δ ∙ as_long c ms ns whole opens ∙ ap length (sym known) in
          record { few = omega (arith, length-set cells p (cell.Own o), ending.few); each = All-set (IsOpen a h) cells p (cell.Own o) long ending.each }

      changed_here : slice_index_or (map change_of after) p None ≡ Some (o.site.value, o.slots)
      changed_here = let inside : p < length (map change_of cells) = omega (arith, within, length-map cells change_of) in
          ap (λ (xs : List (Option Changed)). slice_index_or xs p None) (map-set change_of cells p (cell.Own o)) ∙ get_or-set_same (map change_of cells) p (Some (o.site.value, o.slots)) None inside

      unchanged : (q : ℕ) → q ≢ p → slice_index_or (map change_of after) q None ≡ slice_index_or (map change_of cells) q None
      unchanged q ne = ap (λ (xs : List (Option Changed)). slice_index_or xs q None) (map-set change_of cells p (cell.Own o)) ∙ get_or-set_other (map change_of cells) p q (Some (o.site.value, o.slots)) None ne

      module _ (number other : ℕ) (at : IsAt bits number p offset) (ne : other ≢ number) (left : IsLeft (end_view bits cells) other) where
        here : (r : ℕ) → IsAt bits other p r → id_at o.slots r ≡ id_at o.site.value r
        here r there = let apart : r ≢ offset = λ same. ne (at_one_number (subst (λ (k : ℕ). IsAt bits other p k) same there) at) in
            ap (λ (xs : List ℕ). id_at xs r) slots ∙ get_or-set_other ns offset r δ 0 apart ∙ kept_name (end_view bits cells) other p r c ms ns opens (change_at cells p c within is) there left ∙ ap (λ (xs : List ℕ). id_at xs r) (sym known)

        by_place : (q r : ℕ) (d : Changed) → (q ≡ p) ⊎ (q ≡ p → ⊥) → IsAt bits other q r → slice_index_or (map change_of after) q None ≡ Some d → id_at d.1 r ≡ id_at d.0 r
        by_place q r d (inl same) there looks = let now : slice_index_or (map change_of after) p None ≡ Some d = subst (λ (k : ℕ). slice_index_or (map change_of after) k None ≡ Some d) same looks in
            let is_now : (o.site.value, o.slots) ≡ d = ap (λ (v : Option Changed). unwrap_or v d) (sym changed_here ∙ now) in
            subst (λ (z : Changed). id_at z.1 r ≡ id_at z.0 r) is_now (here r (subst (λ (k : ℕ). IsAt bits other k r) same there))
        by_place q r d (inr differ) there looks = left q r d there (sym (unchanged q differ) ∙ looks)

        pub still_left : IsLeft (end_view bits after) other
        still_left q r d there looks = by_place q r d (cases_eq q p) there looks

  -- the cell of a number
  pub record IsFound (cells : List (Cell T A)) (p offset : ℕ) (c : Cell T A) (name : ℕ) (names : List ℕ) (γ : ℕ) : Type 0 where
    pub within : p < length cells
    pub of : name_of c ≡ name
    pub inside : offset < length names
    pub named : γ ≡ id_at names offset
    pub whole : IsOpen a h c

  module _ (bits : ℕ) (cells : List (Cell T A)) (e : EndView) (ending : IsEnding a h bits cells) (is : end_view bits cells ≡ e) {number name γ : ℕ} {names : List ℕ} (slot : IsSlot e.slab number name names γ) where
    base : IsSlot (end_view bits cells).slab number name names γ
    base = subst (λ (v : EndView). IsSlot v.slab number name names γ) (sym is) slot

    pub ended_few : number < 2 ^ 32
    ended_few = let few : bits + base.place < 32 = omega (arith, ending.few, base.inside, length-map cells name_of) in few_numbers few base.at

    pub found_within : {p offset : ℕ} → IsAt bits number p offset → p < length cells
    found_within at = omega (arith, (slot_at base at).inside, length-map cells name_of)

    pub found : {p offset : ℕ} (c : Cell T A) → IsAt bits number p offset → c ≡ slice_index_or cells p c → IsFound cells p offset c name names γ
    found {p} {offset} c at looks = let there = slot_at base at in let within = found_within at in
        record { within = within; of = sym (there.holds ∙ name_at cells p c within looks); inside = there.within; named = there.named; whole = whole_at cells p c within looks ending.each }

-- the cells as the slab left them
module _ (T A : Type 0) where
  abbrev left_as : List (WordView A (List ℕ)) → List (Cell T A)
  left_as ws = map cell.Shared ws

  pub shared_names : (ws : List (WordView A (List ℕ))) → map name_of (left_as ws) ≡ map (λ (w : WordView A (List ℕ)). w.id) ws
  shared_names [] = refl
  shared_names (w ∷ ws) = ap (λ (ns : List ℕ). w.id ∷ ns) (shared_names ws)

  shared_unchanged : (ws : List (WordView A (List ℕ))) (p : ℕ) → slice_index_or (map change_of (left_as ws)) p None ≡ None
  shared_unchanged [] p = refl
  shared_unchanged (w ∷ ws) zero = refl
  shared_unchanged (w ∷ ws) (suc p) = shared_unchanged ws p

  shared_whole : (a : A) (h : ℕ) (ws : List (WordView A (List ℕ))) → All (IsCell a h) ws → All (IsOpen a h) (left_as ws)
  shared_whole a h [] all k d lt = absurd (omega arith)
  shared_whole a h (w ∷ ws) all zero d lt = All-head (IsCell a h) w ws all
  shared_whole a h (w ∷ ws) all (suc k) d lt = shared_whole a h ws (All-tail (IsCell a h) w ws all) k d (omega arith)

  pub shared_ending : {a : A} {h bits : ℕ} {ws : List (WordView A (List ℕ))} → IsSlab a h bits ws → IsEnding a h bits (left_as ws)
  shared_ending {a} {h} {bits} {ws} slab = record { few = omega (arith, length-map {B = Cell T A} ws cell.Shared, slab.few); each = shared_whole a h ws slab.each }

  pub all_left : (bits number : ℕ) (ws : List (WordView A (List ℕ))) → IsLeft (end_view bits (left_as ws)) number
  all_left bits number ws p r c at looks = absurd (let z : 0 ≡ 1 = ap is_some (sym (shared_unchanged ws p) ∙ looks) in omega arith)

-- the first of some, and the others
module _ {X : Type 0} (P : X → Type 0) {x : X} {xs ys : List X} (is : ys ≡ x ∷ xs) (all : All P ys) where
  pub first_holds : P x
  first_holds = All-head P x xs (subst (All P) is all)

  pub rest_holds : All P xs
  rest_holds = All-tail P x xs (subst (All P) is all)
