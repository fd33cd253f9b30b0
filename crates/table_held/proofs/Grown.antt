-- Growth: the current generation becomes the last earlier one, and the new one names its entries.
use Rattle.std.proofs.Common.{◌≡◌, ℕ, ◌+◌, ◌*◌, ◌<◌, ◌≤◌, List, [], ◌∷◌, ◌++◌, length, refl, ◌∙◌, add-one}
use Rattle.std.proofs.Math.Nat.{pow-suc}
use Rattle.std.proofs.lemmas.List.{map-append}
use Rattle.table_generations.specs.Buckets.{Content, shown_all, shown_entries}
use Rattle.std.specs.Int.{IsPowerOfTwo}
use Rattle.table_generations.specs.Generations.{GenerationView, AllOwnNone}
use Rattle.table_generations.specs.Growth.{IsRehashed}
use Rattle.table_held.specs.Growth.{IsGrown}
use Rattle.table_held.specs.Table.{table_of, contents_in, IsKept}
use Rattle.table_held.proofs.Sizes.{capacity_power}
use Rattle.table_held.proofs.Kept.{sizes, kept_grown, table_grown, count_grown}

module _ {A T U : Type 0} {target : T → U} {rehash : U → ℕ → Type 0} (first : ℕ) (vs ws : List (GenerationView A T)) (cur new : GenerationView A T) (pushed : ws ≡ vs ++ cur ∷ []) (kept : IsKept first (contents_in vs) cur.contents cur.size)
    (some : 0 < length cur.contents) (wanted : length cur.contents ≤ 2 * cur.size) (twice : length new.contents ≡ 2 * length cur.contents)
    (counted : new.size ≡ length (shown_entries new.contents)) (names : AllOwnNone new.contents) (made : IsRehashed target rehash (shown_all cur.contents) (shown_all new.contents)) where
  after_push : contents_in ws ≡ contents_in vs ++ cur.contents ∷ []
  after_push = rw pushed (map-append (λ g. g.contents) vs (cur ∷ []))

  same_size : new.size ≡ cur.size
  same_size = counted ∙ count_grown first (contents_in vs) cur.contents cur.size kept new.contents some wanted twice names made

  pub grown_kept : IsKept first (contents_in ws) new.contents new.size
  grown_kept = rw (after_push, same_size) (kept_grown first (contents_in vs) cur.contents cur.size kept new.contents some wanted twice names made)

  pub grown_table : IsGrown target rehash (table_of first (contents_in vs) cur.contents cur.size) (table_of first (contents_in ws) new.contents new.size)
  grown_table = rw (after_push, same_size) (table_grown first (contents_in vs) cur.contents cur.size kept new.contents some wanted twice names made)

-- twice the capacity is a power of two
pub power_twice : {T : Type 0} (first : ℕ) (gs : List (List (Content T))) (cur : List (Content T)) (size : ℕ) → IsKept first gs cur size → 0 < length cur → (c : ℕ) → c ≡ length cur * 2 → IsPowerOfTwo c
power_twice first gs cur size kept some c twice =
    let p = capacity_power first (length gs) (length cur) _ _ kept.first_is (sizes first gs cur size kept some) in
    (kept.first_is.0.0 + length gs + 1, rw (twice, add-one, pow-suc, ← p) refl)
