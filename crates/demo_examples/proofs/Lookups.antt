-- A look-up of a word, in the words of a table's clauses.
use Rattle.std.proofs.Common.{◌≡◌, ◌∙◌, ℕ, ◌<◌, ◌^◌, Bool, true, Option, Some, ap, subst, arith}
use Rattle.std.proofs.lemmas.Grind.{common_steps}
use Rattle.table_held.specs.Shown.{Shows, ShowsAt, LooksUpAsList}
use Rattle.demo_examples.specs.Words.{same_word, word_hash}

-- a word below 2^64 is its own hash
own_hash : (word : ℕ) → word < 2 ^ 64 → word ≡ word_hash word
own_hash word small = grind (arith, common_steps)

pub same_words : (a b : ℕ) → same_word a b ≡ true → b ≡ a
same_words a b is = grind (arith, common_steps)

module _ {T : Type 0} (target : T → ℕ) where
  pub looks_for : {X P : Type 0} (s : Shows X T P) (answers : ℕ → Bool → Type 0) (t : X) (word : ℕ) (shown : Option ℕ) → word < 2 ^ 64
      → LooksUpAsList target same_word word_hash s answers t word shown
      → LooksUpAsList target same_word word_hash s answers t (word_hash word) shown
  looks_for s answers t word shown small told =
      let AtHash : ℕ → Type 0 = λ h. LooksUpAsList target same_word word_hash s answers t h shown in
      subst AtHash (own_hash word small) told

  pub shows_word : (entry : Option T) (word : ℕ) (shown copied : Option ℕ) → copied ≡ shown
      → (e : T) × (entry ≡ Some e) × (same_word word (target e) ≡ true) × (shown ≡ Some (target e))
      → ShowsAt entry (λ e. (copied ≡ Some (target e)) × (target e ≡ word))
  shows_word entry word shown copied is (e, at, same, shows) =
      rw (at, is) (shows, same_words word (target e) same)

  pub finds_word : (entry : Option T) (word : ℕ) (shown copied : Option ℕ) → copied ≡ shown
      → (e : T) × (entry ≡ Some e) × (same_word word (target e) ≡ true) × (shown ≡ Some (target e))
      → copied ≡ Some word
  finds_word entry word shown copied is (e, at, same, shows) = is ∙ shows ∙ ap Some (same_words word (target e) same)
