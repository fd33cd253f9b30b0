-- The entries of a generation, as a map from places keeps them.
use Rattle.std.proofs.Common.{ℕ, ◌≡◌, ◌<◌, ◌≤◌, List, [], ◌∷◌, Bool, true, false, refl, Option, Some, None, length, sym, ap, arith, ltb, eqb, cond, ◌∙◌, inl, inr}
use Rattle.std.specs.Prelude.{map}
use Rattle.std.specs.Option.{option_map}
use Rattle.std.specs.Ordering.{nat_cmp, is_eq}
use Rattle.std.specs.declared.cmp.Ordering.TheVariants.{Less, Equal, Greater}
use Rattle.std.specs.BTreeMap.{is_at, insert_entry}
use Rattle.std.specs.Map.{lookup}
use Rattle.std.proofs.lemmas.Bool.{lt-ltb, le-ltb, eq-eqb, ne_eqb, eqb-true, cases_order}
use Rattle.table_core.specs.Generations.{Gen, fill, bucket, put_in}
use Rattle.table_core.specs.Bound.{entry_of}
use Rattle.table_core.specs.declared.generation.Entry.{Entry}
use Rattle.table_core.specs.declared.generation.Slot.{Slot}
use Rattle.table_core.proofs.Sizes.{length-put_in}

-- how two places compare, with what the tests say
pub data Compared (i k : ℕ) : Type 0 where
  below : ltb i k ≡ true → eqb k i ≡ false → nat_cmp i k ≡ Less → Compared i k
  same : i ≡ k → nat_cmp i k ≡ Equal → Compared i k
  above : ltb i k ≡ false → eqb k i ≡ false → nat_cmp i k ≡ Greater → Compared i k

pub compared : (i k : ℕ) → Compared i k
compared i k = elim (cases_order i k) [
  | inl e ↦ same e (rw (le-ltb i k (omega arith), eq-eqb i k e) refl)
  | inr h ↦ elim h [
    | inl l ↦ below (lt-ltb i k l) (ne_eqb k i (λ e. omega arith)) (rw (lt-ltb i k l) refl)
    | inr l ↦ above (le-ltb i k (omega arith)) (ne_eqb k i (λ e. omega arith)) (rw (le-ltb i k (omega arith), ne_eqb i k (λ e. omega arith)) refl)
  ]
]

pub at_place_test : (i k : ℕ) → is_eq (nat_cmp i k) ≡ eqb k i
at_place_test i k = elim (compared i k) [
  | below l e c ↦ ap is_eq c ∙ sym e
  | same e c ↦ ap is_eq c ∙ sym (eq-eqb k i (sym e))
  | above l e c ↦ ap is_eq c ∙ sym e
]

lookup_if : (i : ℕ) (e : ℕ × Slot) (o : Option Slot) (p : Option Entry) (b : Bool) → eqb e.0 i ≡ b → option_map (λ s. entry_of (i, s)) o ≡ p →
    option_map (λ s. entry_of (i, s)) (cond b (Some e.1) o) ≡ cond b (Some (entry_of e)) p
lookup_if i e o p true h k = ap (λ j. Some (entry_of (j, e.1))) (sym (eqb-true e.0 i h))
lookup_if i e o p false h k = k

-- what a map has at a place is what the bucket holds
pub lookup_bucket : (i : ℕ) (es : List (ℕ × Slot)) → option_map (λ s. entry_of (i, s)) (lookup (is_at (nat_cmp i)) es) ≡ bucket (map entry_of es) i
lookup_bucket i [] = refl
lookup_bucket i (e ∷ es) = rw (at_place_test i e.0) (lookup_if i e _ _ (eqb e.0 i) refl (lookup_bucket i es))

-- an absent place put into a map is an entry put in
pub insert_put : (k : ℕ) (s : Slot) (es : List (ℕ × Slot)) → bucket (map entry_of es) k ≡ None → map entry_of (insert_entry nat_cmp es k s) ≡ put_in (entry_of (k, s)) (map entry_of es)
insert_put k s [] h = refl
insert_put k s (e ∷ es) h = elim (compared k e.0) [
  | below l q c ↦ rw (c, l) refl
  | same q c ↦ absurd (let z : eqb e.0 k ≡ true = eq-eqb e.0 k (sym q) in let y = rw z at h in cc)
  | above l q c ↦ rw (c, l) (ap (λ xs. entry_of e ∷ xs) (insert_put k s es (rw q at h)))
]

pub fill_counts : (g : Gen) (e : Entry) → g.size ≤ length g.entries → g.size < length (fill g e).entries
fill_counts g e h = omega (arith, length-put_in e g.entries)
