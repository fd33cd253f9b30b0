-- What was written on success, as what was told.
use Rattle.std.proofs.Common.{Result, Ok, Err, ◌≡◌, ◌+◌, ◌-◌, ◌<◌, ◌++◌, ℕ, List, [], ◌∷◌, Option, Some, length, get_or, drop, refl, sym, ◌∙◌, arith, append_assoc}
use Rattle.std.specs.Prelude.{OnOk, OnErr, slice_get}
use Rattle.std.specs.Io.KnownBytes.{Appends}
use Rattle.std.proofs.lemmas.List.{drop_more, get_or_read}
use Rattle.std.proofs.lemmas.Option.{get_or_from_slice_get}
use Rattle.tool_lines.specs.Counts.{word_line, word_lines}

pub on_ok : {V E : Type 0} (r : Result V E) (P Q : Type 0) → (P → Q) → OnOk r P → OnOk r Q
on_ok (Ok v) P Q f h = f h
on_ok (Err e) P Q f h = h

pub on_both : {V E : Type 0} (r : Result V E) (P Q : Type 0) → OnOk r P → OnOk r Q → OnOk r (P × Q)
on_both (Ok v) P Q p q = (p, q)
on_both (Err e) P Q p q = p

-- what holds in any case holds on an error
pub on_err_always : {V E : Type 0} (r : Result V E) (P : Type 0) → P → OnErr r P
on_err_always (Ok v) P p = tt
on_err_always (Err e) P p = p

-- one line of a word more is written
pub one_line_written : (words : List (List ℕ)) (counts : List ℕ) (n : ℕ) (written all : List ℕ) → n < length words → length counts ≡ length words
    → written ++ word_lines (n + 1) (drop n words) (drop n counts) ≡ all
    → (written ++ word_line (n + 1) (get_or words n []) (get_or counts n 0)) ++ word_lines (n + 1 + 1) (drop (n + 1) words) (drop (n + 1) counts) ≡ all
one_line_written words counts n written all below same is =
    let at_words : drop n words ≡ get_or words n [] ∷ drop (n + 1) words = drop_more words n [] below in
    let at_counts : drop n counts ≡ get_or counts n 0 ∷ drop (n + 1) counts = drop_more counts n 0 (omega arith) in
    append_assoc written _ _ ∙ (rw (at_words, at_counts) at is)

pub same_bytes : (a b : Option (List ℕ)) (xs ys : List ℕ) → xs ≡ ys → Appends a b xs → Appends a b ys
same_bytes a b xs ys same grown = rw (← same) grown

-- the line of the word with n before it
pub line_is : (words : List (List ℕ)) (counts : List ℕ) (n number : ℕ) (word : List ℕ) (count : ℕ) → number ≡ n + 1 → Some word ≡ slice_get words (number - 1) → n < length counts → count ≡ get_or counts n count
    → word_line number word count ≡ word_line (n + 1) (get_or words n []) (get_or counts n 0)
line_is words counts n number word count number_is word_is below count_is =
    let before : number - 1 ≡ n = omega arith in
    let there : slice_get words n ≡ Some word = rw before at (sym word_is) in
    let named : get_or words n [] ≡ word = get_or_from_slice_get words n word [] there in
    let counted : count ≡ get_or counts n 0 = get_or_read counts n count below count_is 0 in
    rw (number_is, named, ← counted) refl
