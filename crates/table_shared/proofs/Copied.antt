-- Entries of the generation before that are named in the one that is made.
use Rattle.std.proofs.Common.{◌≡◌, ◌∙◌, ℕ, ◌+◌, ◌<◌, inl, inr, List, Option, Some, None, length, refl, sym, ap, arith, subst, get_or-set_other, get_or-set_same}
use Rattle.std.specs.Prelude.{IfSome, option_map, ⊤}
use Rattle.std.proofs.lemmas.Bool.{cases_eq, cases_lt}
use Rattle.table_cell.specs.Contents.{BucketView, bucket, word_naming, NamesEntry}
use Rattle.table_cell.specs.Notes.{Agrees}
use Rattle.table_cell.specs.Words.{WordView}
use Rattle.table_cell.specs.declared.bucket.Entry.{Entry}
use Rattle.table_generations.specs.Buckets.{Content, vacant, own, named, shown, shown_all, content_at}
use Rattle.table_generations.specs.Growth.{PutsName}
use Rattle.table_generations.specs.Looks.{IsSeen}
use Rattle.table_generations.proofs.Contents.{length-shown_all, shown_at}
use Rattle.table_generations.proofs.Laws.{vacant_fits}
use Rattle.table_shared.specs.Growths.{AreNamed, Names}
use Rattle.table_generations.specs.Windows.{NoneShown}
use Rattle.table_shared.proofs.Looked.{some_same}

module _ {A T : Type 0} (from : A) (home : ℕ) where
  same : (x : Entry T) (word : WordView A (Entry T)) (e : Entry T) → Some word ≡ Some (word_naming from home x) → Agrees word.value e → x ≡ e
  same x word e is agrees = subst (λ (v : Option (Entry T)). Agrees v e) (ap (λ (w : WordView A (Entry T)). w.value) (some_same word (word_naming from home x) is)) agrees

  names : (x : Entry T) (word : WordView A (Entry T)) (e : Entry T) → Some word ≡ Some (word_naming from home x) → Agrees word.value e → word ≡ word_naming from home e
  names x word e is agrees = some_same word (word_naming from home x) is ∙ ap (word_naming from home) (same x word e is agrees)

  -- where a word was made that names what a bucket shows, and this entry is read by it, it names this
  -- entry, which is the one that the bucket was set to alone, if it was
  pub seen_word : (c : Content T) (old new : Option (Entry T)) (word : WordView A (Entry T)) (e : Entry T) → IsSeen c old new (λ o. Some word ≡ option_map (word_naming from home) o)
      → Agrees word.value e → (word ≡ word_naming from home e) × IfSome (shown c) (λ x. x ≡ e)
  seen_word vacant old None word e saw agrees = absurd (let no = saw.shared.0 in cc)
  seen_word vacant old (Some x) word e saw agrees = (names x word e saw.shared.0 agrees, tt)
  seen_word (own x) old new word e saw agrees = (names x word e saw.alone.0 agrees, same x word e saw.alone.0 agrees)
  seen_word (named x) old new word e saw agrees = (names x word e saw.alone.0 agrees, same x word e saw.alone.0 agrees)

  -- where none was made, the bucket wasn't set alone
  pub seen_none : (c : Content T) (old new : Option (Entry T)) (r : Option (WordView A (Entry T))) → r ≡ None → IsSeen c old new (λ o. r ≡ option_map (word_naming from home) o) → shown c ≡ None
  seen_none vacant old new r is saw = refl
  seen_none (own e) old new r is saw = absurd (let no = sym is ∙ saw.alone.0 in cc)
  seen_none (named e) old new r is saw = absurd (let no = sym is ∙ saw.alone.0 in cc)

  module _ (h : ℕ) (word : WordView A (Entry T)) (e : Entry T) (is : word ≡ word_naming from home e) where
    -- such a word names an entry of its home
    pub names_entry : home ≡ h → NamesEntry h word
    names_entry same = (e, rw is (ap (λ k. word_naming from k e) same))

    -- and the bucket that is made of it names that entry
    pub named_bucket : (b : BucketView A T) → IfSome word.value (λ x. b ≡ bucket word.from h (named x)) → b ≡ bucket from h (named e)
    named_bucket b so = rw is at so

module _ {T U : Type 0} (target : T → U) where
  -- a name that is put into an empty bucket is there, and those that were there stay
  names_there : (built after : List (Content T)) (h : ℕ) (e : Entry T) → PutsName target built after h (named e) → Names after e
  names_there built after h e (j, vac, is) =
      let fits : j < length (shown_all built) = vacant_fits target (λ _ _. ⊤) (shown_all built) h j (let some = vac.within in omega arith) vac in
      let within : j < length built = rw (← length-shown_all built) fits in
      (j, rw is (get_or-set_same built j (named e) vacant within))

  names_stay : (built after : List (Content T)) (h : ℕ) (c : Content T) (e : Entry T) → PutsName target built after h c → Names built e → Names after e
  names_stay built after h c e (j, vac, is) (k, at) = elim (cases_eq k j) [
    | inl same ↦ absurd (
        let empty : shown (content_at built j) ≡ None = sym (shown_at built j) ∙ vac.vacant in
        let shows : shown (content_at built j) ≡ Some e = ap shown (rw same at at) in
        cc)
    | inr other ↦ (k, rw is (get_or-set_other built j k c vacant other ∙ at))
  ]

  -- no bucket between was set alone, and the entry of the next one is put: those passed so far are named
  pub named_on : (before : List (Content T)) (i : ℕ) (built after : List (Content T)) (h : ℕ) (e : Entry T) → PutsName target built after h (named e)
      → IfSome (shown (content_at before i)) (λ x. x ≡ e) → AreNamed before i built → AreNamed before (i + 1) after
  named_on before i built after h e put alone so m x lt shows = elim (cases_eq m i) [
    | inl same ↦ (
        let here : shown (content_at before i) ≡ Some x = rw same at shows in
        let is : x ≡ e = rw here at alone in
        rw is (names_there built after h e put))
    | inr other ↦ names_stay built after h (named e) x put (so m x (omega arith) shows)
  ]

module _ {T : Type 0} where
  -- buckets that weren't set alone are passed: the entries of those passed so far are named
  pub named_past : (before : List (Content T)) (i k : ℕ) (built : List (Content T)) → NoneShown before i k → AreNamed before i built → AreNamed before k built
  named_past before i k built none so m x lt shows = elim (cases_lt m i) [
    | inl less ↦ so m x less shows
    | inr ge ↦ absurd (let here : shown (content_at before m) ≡ None = none m ge lt in cc)
  ]
