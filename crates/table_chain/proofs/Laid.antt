-- The words of a chain, by their places.
use Rattle.std.proofs.Common.{◌≡◌, ◌≢◌, ℕ, zero, suc, ◌<◌, ◌++◌, List, [], ◌∷◌, length, ap, sym, ◌∙◌, arith, refl, subst, length-append}
use Rattle.std.specs.Prelude.{slice_index_or}
use mathlib.Core.Logic.{dite}
use native.Mathlib.Decide.{ℕ_discrete}
use Rattle.logbook.specs.Pages.{Book, Named}
use Rattle.table_slab.specs.Held.{IsRightTo, StandsAt}
use Rattle.table_slab.specs.Shelved.{names_of, slab_of}
use Rattle.table_slab.specs.Slabs.{SlabView, IsSlot}
use Rattle.table_slab.specs.declared.site.Site.{Site}
use Rattle.table_slab.specs.declared.slab.Right.{Right}
use Rattle.table_slab.specs.declared.slab.Standing.{Standing}
use Rattle.table_chain.specs.History.{History, HasSize, IsInside}
use Rattle.table_chain.specs.Chains.{AreWords, IsWord}

pub get_or-push_last : {X : Type 0} (xs : List X) (x d : X) → slice_index_or (xs ++ x ∷ []) (length xs) d ≡ x
get_or-push_last [] x d = refl
get_or-push_last (y ∷ xs) x d = get_or-push_last xs x d

pub get_or-push_below : {X : Type 0} (xs : List X) (x d : X) (k : ℕ) → k < length xs → slice_index_or (xs ++ x ∷ []) k d ≡ slice_index_or xs k d
get_or-push_below [] x d k lt = absurd (omega arith)
get_or-push_below (y ∷ xs) x d zero lt = refl
get_or-push_below (y ∷ xs) x d (suc k) lt = get_or-push_below xs x d k (omega arith)

pub words_push : (b : Book) (ws : List Named) (w : Named) → AreWords b ws → IsWord b w → w.key ≡ length ws → AreWords b (ws ++ w ∷ [])
words_push b ws w are word key k d lt = dite (ℕ_discrete k (length ws))
    (λ (is : k ≡ length ws). let here : slice_index_or (ws ++ w ∷ []) k d ≡ w = ap (λ (i : ℕ). slice_index_or (ws ++ w ∷ []) i d) is ∙ get_or-push_last ws w d in
    ((ap (λ (x : Named). x.tracked) here ∙ word.0, ap (λ (x : Named). x.book) here ∙ word.1), ap (λ (x : Named). x.key) here ∙ (key ∙ sym is)))
    (λ (ne : k ≢ length ws). let less : k < length ws = omega (arith, lt, ne, length-append ws (w ∷ [])) in let before = are k d less in let here : slice_index_or (ws ++ w ∷ []) k d ≡ slice_index_or ws k d = get_or-push_below ws w d k less in
    ((ap (λ (x : Named). x.tracked) here ∙ before.0.0, ap (λ (x : Named). x.book) here ∙ before.0.1), ap (λ (x : Named). x.key) here ∙ before.1))

-- one more value in the list that is handed out
pub each_push : {X : Type 0} (P : ℕ → X → Type 0) (xs : List X) (x : X) → ((p : ℕ) (d : X) → p < length xs → P p (slice_index_or xs p d)) → P (length xs) x → (p : ℕ) (d : X) → p < length (xs ++ x ∷ []) → P p (slice_index_or (xs ++ x ∷ []) p d)
each_push P xs x each here p d lt = dite (ℕ_discrete p (length xs))
    (λ (is : p ≡ length xs). subst (P p) (sym (ap (λ (i : ℕ). slice_index_or (xs ++ x ∷ []) i d) is ∙ get_or-push_last xs x d)) (subst (λ (i : ℕ). P i x) (sym is) here))
    (λ (ne : p ≢ length xs). let less : p < length xs = omega (arith, lt, ne, length-append xs (x ∷ [])) in subst (P p) (sym (get_or-push_below xs x d p less)) (each p d less))

-- a word by its place
pub word_here : {G : Type 0} (b : Book) (ws : List Named) (log : History G) (k : ℕ) (w : Named) → AreWords b ws → HasSize (length ws) log → k < length ws → w ≡ slice_index_or ws k w → IsWord b w × (k ≡ w.key) × IsInside w.key log
word_here b ws log k w are size lt is = let here = are k w lt in let key : w.key ≡ k = ap (λ (x : Named). x.key) is ∙ here.1 in
    ((ap (λ (x : Named). x.tracked) is ∙ here.0.0, ap (λ (x : Named). x.book) is ∙ here.0.1), sym key, (length ws, size, omega (arith, lt, key)))

-- the slab whose names a history has
module _ {T A : Type 0} (s : SlabView) (names : List ℕ) (k : ℕ) (is : names ≡ names_of s) where
  pub stands_in : (w : Standing T A) → StandsAt (slab_of names) k w → StandsAt s k w
  stands_in w at = subst (λ (ns : List ℕ). StandsAt (slab_of ns) k w) is at

  pub right_in : (r : Right T A) → IsRightTo (slab_of names) k r → IsRightTo s k r
  right_in r to = subst (λ (ns : List ℕ). IsRightTo (slab_of ns) k r) is to

-- a right to the same slot
pub same_right : {T A : Type 0} (s : SlabView) (k : ℕ) (r q : Right T A) → q.site ≡ r.site → q.room.of ≡ r.room.of → IsRightTo s k r → IsRightTo s k q
same_right s k r q site of to = subst (λ (z : Site (List ℕ) × ℕ). IsSlot s k z.0.cell z.0.value z.1) (λ i. (sym site i, sym of i)) to
