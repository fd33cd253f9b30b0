-- The mark beside a word agrees with it.
use Rattle.std.proofs.Common.{◌≡◌, ℕ, Option, Some, true, false, refl, ap, subst}
use Rattle.table_cell.specs.Notes.{Agrees}
use Rattle.table_cell.specs.Words.{WordView, word_view}
use Rattle.table_cell.specs.Contents.{IsMarked, Reads, content_of}
use Rattle.table_cell.specs.declared.bucket.Entry.{Entry}
use Rattle.table_cell.specs.declared.bucket.Mark.{Mark}
use Rattle.table_cell.specs.declared.bucket.Mark.TheVariants.{Unmarked, Own, Named}

module _ {A T : Type 0} where
  pub reads : (m : Mark) (w : WordView A (Entry T)) → IsMarked m w → Reads (content_of m w.value) m
  reads Unmarked w i = refl
  reads (Own bits) w i = (i.1, ap (content_of (Own bits)) i.2, i.3)
  reads (Named bits) w i = (i.1, ap (content_of (Named bits)) i.2, i.3)

  -- a word that names the entry of a set one has its bits
  pub own_bits : (bits : ℕ) (w : WordView A (Entry T)) (e : Entry T) → IsMarked (Own bits) w → Agrees w.value e → e.bits ≡ bits
  own_bits bits w e i agrees = subst (λ (x : Entry T). x.bits ≡ bits) (subst (λ (v : Option (Entry T)). Agrees v e) i.2 agrees) i.3

  pub named_bits : (bits : ℕ) (w : WordView A (Entry T)) (e : Entry T) → IsMarked (Named bits) w → Agrees w.value e → e.bits ≡ bits
  named_bits bits w e i agrees = subst (λ (x : Entry T). x.bits ≡ bits) (subst (λ (v : Option (Entry T)). Agrees v e) i.2 agrees) i.3

  pub is_named : (bits : ℕ) (a : A) (h : ℕ) (e : Entry T) (w : WordView A (Entry T)) → w ≡ word_view a h false (Some e) → e.bits ≡ bits → IsMarked (Named bits) w
  is_named bits a h e w is same = (ap (λ (v : WordView A (Entry T)). v.owning) is, e, ap (λ (v : WordView A (Entry T)). v.value) is, same)

  pub is_own : (bits : ℕ) (a : A) (h : ℕ) (e : Entry T) (w : WordView A (Entry T)) → w ≡ word_view a h true (Some e) → e.bits ≡ bits → IsMarked (Own bits) w
  is_own bits a h e w is same = (ap (λ (v : WordView A (Entry T)). v.owning) is, e, ap (λ (v : WordView A (Entry T)). v.value) is, same)
