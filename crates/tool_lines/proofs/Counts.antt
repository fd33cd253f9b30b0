-- How the counts follow one word more.
use Rattle.std.proofs.Common.{◌≡◌, ◌≢◌, ℕ, zero, suc, ◌+◌, ◌-◌, ◌<◌, ◌++◌, true, false, List, [], ◌∷◌, Some, length, map, refl, sym, ap, ◌∙◌, arith, get_or, set, append_assoc}
use Rattle.std.specs.Prelude.{Contains, slice_get}
use Rattle.std.specs.Str.{bytes_eq}
use Rattle.std.proofs.lemmas.List.{map-append}
use Rattle.std.proofs.lemmas.List.Sums.{sum_by-append}
use Rattle.std.proofs.lemmas.Option.{slice_get_within, get_or_from_slice_get, slice_get-get_or}
use Rattle.std.proofs.lemmas.Slice.Eq.{bytes_eq-Decides}
use Rattle.interner.specs.Texts.{HasNumber, AllDifferent}
use Rattle.tool_lines.specs.Firsts.{firsts}
use Rattle.tool_lines.specs.Counts.{Counts, occurrences, word_lines, counted}
use Rattle.tool_lines.proofs.Firsts.{firsts_known, firsts_new, Contains_from_firsts, Contains_in_firsts}

same_text : (text : List ℕ) → bytes_eq text text ≡ true
same_text text = (bytes_eq-Decides text text).1 refl

other_text : (a b : List ℕ) → a ≢ b → bytes_eq a b ≡ false
other_text a b apart = elim (bytes_eq a b) as (λ r. bytes_eq a b ≡ r → bytes_eq a b ≡ false) [
  | true ↦ λ is. absurd (apart ((bytes_eq-Decides a b).0 is))
  | false ↦ λ is. is
] refl

-- one word more is counted for itself alone
once_more : (words : List (List ℕ)) (word : List ℕ) → occurrences (words ++ word ∷ []) word ≡ occurrences words word + 1
once_more words word = sum_by-append _ words (word ∷ []) ∙ (rw same_text refl)

no_more : (words : List (List ℕ)) (word other : List ℕ) → other ≢ word → occurrences (words ++ word ∷ []) other ≡ occurrences words other
no_more words word other apart =
    let test : bytes_eq other word ≡ false = other_text other word apart in
    sum_by-append _ words (word ∷ []) ∙ (rw test (omega arith))

none_there : (words : List (List ℕ)) (word : List ℕ) → ¬ Contains words word → occurrences words word ≡ 0
none_there [] word none = refl
none_there (first ∷ words) word none =
    let apart : bytes_eq word first ≡ false = other_text word first (λ is. none (0, omega arith, sym is)) in
    rw apart (none_there words word (λ (k, below, is). none (suc k, omega arith, is)))

-- the counts of other words stay
others_stay : (words texts : List (List ℕ)) (word : List ℕ) → ¬ Contains texts word → map (occurrences (words ++ word ∷ [])) texts ≡ map (occurrences words) texts
others_stay words [] word none = refl
others_stay words (text ∷ texts) word none =
    let apart : text ≢ word = λ is. none (0, omega arith, is) in
    let here : occurrences (words ++ word ∷ []) text ≡ occurrences words text = no_more words word text apart in
    let rest : map (occurrences (words ++ word ∷ [])) texts ≡ map (occurrences words) texts = others_stay words texts word (λ (k, below, is). none (suc k, omega arith, is)) in
    rw (here, rest) refl

-- a new word stands at the end, once
pub counts_new : (words different later : List (List ℕ)) (counts more : List ℕ) (word : List ℕ) → ¬ Contains different word → later ≡ different ++ word ∷ [] → more ≡ counts ++ 1 ∷ [] → Counts words different counts
    → Counts (words ++ word ∷ []) later more
counts_new words different later counts more word none longer once is =
    let new_first : ¬ Contains (firsts words) word = rw (← is.in_order) none in
    let new : ¬ Contains words word = λ among. new_first (Contains_in_firsts words word among) in
    let all : firsts (words ++ word ∷ []) ≡ firsts words ++ word ∷ [] = firsts_new words word new in
    let one : occurrences (words ++ word ∷ []) word ≡ 1 = once_more words word ∙ ap (λ n. n + 1) (none_there words word new) in
    let old : map (occurrences (words ++ word ∷ [])) (firsts words) ≡ map (occurrences words) (firsts words) = others_stay words (firsts words) word new_first in
    let both = map-append (occurrences (words ++ word ∷ [])) (firsts words) (word ∷ []) in
    record {
      in_order = longer ∙ ap (λ d. d ++ word ∷ []) is.in_order ∙ sym all;
      counted = rw (once, all, both, old, one, is.counted) refl;
    }

-- one more at the only place of the word
at_number : (words texts : List (List ℕ)) (word : List ℕ) (n : ℕ) → n < length texts → get_or texts n word ≡ word
    → ((k : ℕ) → k < length texts → get_or texts k word ≡ word → k ≡ n)
    → set (map (occurrences words) texts) n (get_or (map (occurrences words) texts) n 0 + 1) ≡ map (occurrences (words ++ word ∷ [])) texts
at_number words [] word n within at only = absurd (omega (arith, within))
at_number words (text ∷ texts) word zero within at only =
    let none : ¬ Contains texts word = λ (k, below, is). let no : suc k ≡ 0 = only (suc k) (omega arith) is in omega arith in
    let here : occurrences (words ++ word ∷ []) text ≡ occurrences words text + 1 = rw at (once_more words word) in
    rw (here, others_stay words texts word none) refl
at_number words (text ∷ texts) word (suc n) within at only =
    let apart : text ≢ word = λ is. let no : 0 ≡ suc n = only 0 (omega arith) is in omega arith in
    let here : occurrences (words ++ word ∷ []) text ≡ occurrences words text = no_more words word text apart in
    let rest = at_number words texts word n (omega arith) at (λ k below is. let next : suc k ≡ suc n = only (suc k) (omega arith) is in omega arith) in
    rw (here, ← rest) refl

-- a known word is counted once more at its number
counted_once : (words different : List (List ℕ)) (counts : List ℕ) (word : List ℕ) (number : ℕ) → HasNumber different word number → AllDifferent different → Counts words different counts
    → Counts (words ++ word ∷ []) different (set counts (number - 1) (get_or counts (number - 1) 0 + 1))
counted_once words different counts word number has apart is =
    let within : number - 1 < length different = slice_get_within different (number - 1) word has.1 in
    let at : get_or different (number - 1) word ≡ word = get_or_from_slice_get different (number - 1) word word has.1 in
    let known : Contains words word = Contains_from_firsts words word (rw (← is.in_order) (number - 1, within, at)) in
    let all : firsts (words ++ word ∷ []) ≡ different = firsts_known words word known ∙ sym is.in_order in
    let counts_are : counts ≡ map (occurrences words) different = is.counted ∙ ap (map (occurrences words)) (sym is.in_order) in
    let k_is : (k : ℕ) → k < length different → get_or different k word ≡ word → k ≡ number - 1 = λ k below same.
    let there : slice_get different k ≡ Some word = slice_get-get_or different k word below ∙ ap Some same in
    let same_number : k + 1 ≡ number = apart word (k + 1) number (omega arith, (let back : k + 1 - 1 ≡ k = omega arith in rw back there)) has in
    omega arith in
    record {
      in_order = sym all;
      counted = rw (all, counts_are) (at_number words different word (number - 1) within at (λ k below same. k_is k below same));
    }

pub counts_known : (words different later : List (List ℕ)) (counts more : List ℕ) (word : List ℕ) (number : ℕ) → HasNumber different word number → AllDifferent different
    → later ≡ different → more ≡ set counts (number - 1) (get_or counts (number - 1) 0 + 1) → Counts words different counts → Counts (words ++ word ∷ []) later more
counts_known words different later counts more word number has apart same once is =
    let kept = counted_once words different counts word number has apart is in
    record { in_order = same ∙ kept.in_order; counted = once ∙ kept.counted }

-- one word more behind those of a line
pub more_counted : (before done different : List (List ℕ)) (counts : List ℕ) (word read : List ℕ) → read ≡ word → Counts ((before ++ done) ++ read ∷ []) different counts → Counts (before ++ (done ++ word ∷ [])) different counts
more_counted before done different counts word read same is =
    let all : (before ++ done) ++ read ∷ [] ≡ before ++ (done ++ word ∷ []) = append_assoc before done (read ∷ []) ∙ ap (λ w. before ++ (done ++ w ∷ [])) same in
    rw all at is

-- what is written of the words that these counts are of
pub lines_of_counts : (words different : List (List ℕ)) (counts : List ℕ) → Counts words different counts → word_lines 1 different counts ≡ counted words
lines_of_counts words different counts is = rw (is.in_order, is.counted) refl
