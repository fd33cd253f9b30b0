-- How the words and the lines of a text follow from its first ones.
use Rattle.std.proofs.Common.{◌≡◌, ℕ, suc, ◌<◌, ◌++◌, Bool, true, false, List, [], ◌∷◌, Option, Some, None, length, refl, sym, ap, ◌∙◌, arith, append_assoc, append-nil, get_or, inl, inr}
use Rattle.std.specs.Prelude.{IfSome}
use Rattle.std.specs.Io.KnownBytes.{Keeps}
use Rattle.std.proofs.lemmas.Bool.{false≢true, eqb-true}
use Rattle.std.proofs.lemmas.Grind.{flat_map-append}
use Rattle.std.proofs.lemmas.List.{nil_from_length}
use Rattle.std.specs.List.{filter, flat_map}
use Rattle.std.specs.Char.{is_ascii_whitespace}
use Rattle.std.proofs.lemmas.List.Elements.{filter-append}
use Rattle.tool_streams.specs.Lines.{is_break, AllAnswer, CutsLine, ReadsLine}
use Rattle.tool_lines.specs.Pieces.{parts_between, is_filled, words_of, without_empty_last, lines_of, BeginsBlank, HasReadLines}

-- what every byte answers, the bytes behind the first answer too
rest_answers : (test : ℕ → Bool) (answer : Bool) (byte : ℕ) (bytes : List ℕ) → AllAnswer test answer (byte ∷ bytes) → AllAnswer test answer bytes
rest_answers test answer byte bytes all k d below = all (suc k) d (omega arith)

first_answers : (test : ℕ → Bool) (answer : Bool) (byte : ℕ) (bytes : List ℕ) → AllAnswer test answer (byte ∷ bytes) → test byte ≡ answer
first_answers test answer byte bytes all = all 0 0 (omega arith)

-- there is a first part
some_part : (test : ℕ → Bool) (text : List ℕ) → (part : List ℕ) × (parts : List (List ℕ)) × (parts_between test text ≡ part ∷ parts)
some_part test [] = ([], [], refl)
some_part test (byte ∷ text) = elim (test byte) as (λ b. test byte ≡ b → (part : List ℕ) × (parts : List (List ℕ)) × (parts_between test (byte ∷ text) ≡ part ∷ parts)) [
  | true ↦ λ is. ([], parts_between test text, rw is refl)
  | false ↦ λ is. let r = some_part test text in (byte ∷ r.0, r.1, rw (is, r.2) refl)
] refl

-- bytes that don't pass stand at the front of the first part
longer_first : (test : ℕ → Bool) (bytes text part : List ℕ) (parts : List (List ℕ)) → AllAnswer test false bytes → parts_between test text ≡ part ∷ parts → parts_between test (bytes ++ text) ≡ (bytes ++ part) ∷ parts
longer_first test [] text part parts all is = is
longer_first test (byte ∷ bytes) text part parts all is =
    rw (first_answers test false byte bytes all, longer_first test bytes text part parts (rest_answers test false byte bytes all) is) refl

-- the parts on both sides of a byte that passes
both_sides : (test : ℕ → Bool) (bytes : List ℕ) (byte : ℕ) (text : List ℕ) → test byte ≡ true → parts_between test (bytes ++ byte ∷ text) ≡ parts_between test bytes ++ parts_between test text
both_sides test [] byte text passes = rw passes refl
both_sides test (b ∷ bytes) byte text passes = elim (test b) as (λ r. test b ≡ r → parts_between test ((b ∷ bytes) ++ byte ∷ text) ≡ parts_between test (b ∷ bytes) ++ parts_between test text) [
  | true ↦ λ is. rw (is, both_sides test bytes byte text passes) refl
  | false ↦ λ is. let first = some_part test bytes in rw (is, both_sides test bytes byte text passes, first.2) refl
] refl

-- blanks in front of a text are no words
pub words_after_blanks : (blanks text : List ℕ) → AllAnswer is_ascii_whitespace true blanks → words_of (blanks ++ text) ≡ words_of text
words_after_blanks [] text all = refl
words_after_blanks (byte ∷ blanks) text all =
    rw (first_answers is_ascii_whitespace true byte blanks all) (words_after_blanks blanks text (rest_answers is_ascii_whitespace true byte blanks all))

-- a word, and what stands behind it
behind_word : (word text : List ℕ) → BeginsBlank text → (parts : List (List ℕ)) × (parts_between is_ascii_whitespace text ≡ [] ∷ parts) × (words_of text ≡ filter is_filled parts)
behind_word word [] begins = ([], refl, refl)
behind_word word (byte ∷ text) begins = (parts_between is_ascii_whitespace text, rw begins refl, rw begins refl)

filled : (word : List ℕ) (words : List (List ℕ)) → 0 < length word → filter is_filled (word ∷ words) ≡ word ∷ filter is_filled words
filled [] words some = absurd (omega (arith, some))
filled (byte ∷ word) words some = refl

pub word_in_front : (word text : List ℕ) → 0 < length word → AllAnswer is_ascii_whitespace false word → BeginsBlank text → words_of (word ++ text) ≡ word ∷ words_of text
word_in_front word text some all begins =
    let behind = behind_word word text begins in
    let parts : parts_between is_ascii_whitespace (word ++ text) ≡ word ∷ behind.0 =
    longer_first is_ascii_whitespace word text [] behind.0 all behind.1 ∙ ap (λ w. w ∷ behind.0) (append-nil word) in
    ap (filter is_filled) parts ∙ filled word behind.0 some ∙ ap (λ ws. word ∷ ws) (sym behind.2)

-- the words on both sides of a line break
words_on_both_sides : (line text : List ℕ) → words_of (line ++ 10 ∷ text) ≡ words_of line ++ words_of text
words_on_both_sides line text =
    ap (filter is_filled) (both_sides is_ascii_whitespace line 10 text refl) ∙ filter-append is_filled (parts_between is_ascii_whitespace line) (parts_between is_ascii_whitespace text)

-- a line, and the lines behind it
without_last : (part : List ℕ) (test : ℕ → Bool) (text : List ℕ) → without_empty_last (part ∷ parts_between test text) ≡ part ∷ without_empty_last (parts_between test text)
without_last part test text = let first = some_part test text in rw first.2 refl

alone : (line : List ℕ) → 0 < length line → without_empty_last (line ∷ []) ≡ line ∷ []
alone [] some = absurd (omega (arith, some))
alone (byte ∷ line) some = refl

pub line_in_front : (text line rest : List ℕ) → CutsLine text line rest → lines_of text ≡ line ∷ lines_of rest
line_in_front text line rest (all, inl is) =
    let parts : parts_between is_break (line ++ 10 ∷ rest) ≡ line ∷ parts_between is_break rest =
    longer_first is_break line (10 ∷ rest) [] (parts_between is_break rest) all refl ∙ ap (λ l. l ∷ parts_between is_break rest) (append-nil line) in
    ap lines_of is ∙ ap without_empty_last parts ∙ without_last line is_break rest
line_in_front text line rest (all, inr (is, some, none)) =
    let whole : parts_between is_break (line ++ []) ≡ (line ++ []) ∷ [] = longer_first is_break line [] [] [] all refl in
    let parts : parts_between is_break line ≡ line ∷ [] = rw append-nil at whole in
    rw (none, is, parts) (alone line some)

-- an empty last part has no words
words_without_empty_last : (parts : List (List ℕ)) → flat_map words_of (without_empty_last parts) ≡ flat_map words_of parts
words_without_empty_last [] = refl
words_without_empty_last ([] ∷ []) = refl
words_without_empty_last ((byte ∷ part) ∷ []) = refl
words_without_empty_last (part ∷ next ∷ parts) = ap (λ ws. words_of part ++ ws) (words_without_empty_last (next ∷ parts))

-- bytes that stand at the front of the first part between line breaks, whatever text follows
abbrev HasNoBreak : List ℕ → Type 0
HasNoBreak line = (text part : List ℕ) (parts : List (List ℕ)) → parts_between is_break text ≡ part ∷ parts
    → parts_between is_break (line ++ text) ≡ (line ++ part) ∷ parts

one_byte_more : (line : List ℕ) (byte : ℕ) → HasNoBreak line → is_break byte ≡ false → HasNoBreak (line ++ byte ∷ [])
one_byte_more line byte none is text part parts cut =
    let longer : parts_between is_break (byte ∷ text) ≡ (byte ∷ part) ∷ parts = rw (is, cut) refl in
    rw (append_assoc line (byte ∷ []) text, append_assoc line (byte ∷ []) part) (none (byte ∷ text) (byte ∷ part) parts longer)

-- the words of a text are those of its parts between line breaks
words_of_parts : (text line : List ℕ) → HasNoBreak line → flat_map words_of (parts_between is_break (line ++ text)) ≡ words_of (line ++ text)
words_of_parts [] line none = rw (none [] [] [] refl) (append-nil (words_of (line ++ [])))
words_of_parts (byte ∷ text) line none = elim (is_break byte) as (λ b. is_break byte ≡ b → flat_map words_of (parts_between is_break (line ++ byte ∷ text)) ≡ words_of (line ++ byte ∷ text)) [
  | true ↦ λ is.
      let whole : parts_between is_break (line ++ byte ∷ text) ≡ (line ++ []) ∷ parts_between is_break text = none (byte ∷ text) [] (parts_between is_break text) (rw is refl) in
      let behind : flat_map words_of (parts_between is_break text) ≡ words_of text = words_of_parts text [] (λ rest part parts cut. cut) in
      let sides : words_of (line ++ byte ∷ text) ≡ words_of line ++ words_of text = rw (eqb-true byte 10 is) (words_on_both_sides line text) in
      rw (whole, append-nil line, behind) (sym sides)
  | false ↦ λ is. rw append_assoc at (words_of_parts text (line ++ byte ∷ []) (one_byte_more line byte none is))
] refl

-- the words of texts are those of their lines
pub words_of_lines : (texts : List (List ℕ)) → flat_map words_of (flat_map lines_of texts) ≡ flat_map words_of texts
words_of_lines [] = refl
words_of_lines (text ∷ texts) =
    let of_text : flat_map words_of (lines_of text) ≡ words_of text =
    words_without_empty_last (parts_between is_break text) ∙ words_of_parts text [] (λ rest part parts cut. cut) in
    flat_map-append words_of (lines_of text) (flat_map lines_of texts) ∙ rw (of_text, words_of_lines texts) refl

-- one line more is read
pub one_line_more : (a b c : Option (List ℕ)) (line : List ℕ) (lines : List (List ℕ)) → HasReadLines a b lines → ReadsLine b c line true → HasReadLines a c (lines ++ line ∷ [])
one_line_more None b c line lines has reads = tt
one_line_more (Some text) None c line lines has reads = absurd has
one_line_more (Some text) (Some behind) None line lines has reads = absurd reads
one_line_more (Some text) (Some behind) (Some rest) line lines has reads =
    has ∙ ap (λ ls. lines ++ ls) (line_in_front behind line rest reads) ∙ sym (append_assoc lines (line ∷ []) (lines_of rest))

-- nothing is read yet
pub start_lines : (a b : Option (List ℕ)) → Keeps a b → HasReadLines a b []
start_lines None b kept = tt
start_lines (Some text) None kept = absurd kept
start_lines (Some text) (Some rest) kept = ap lines_of (sym kept)

-- all is read
pub all_lines : (a b c : Option (List ℕ)) (line : List ℕ) (lines : List (List ℕ)) → HasReadLines a b lines → ReadsLine b c line false → IfSome a (λ text. lines_of text ≡ lines)
all_lines None b c line lines has reads = tt
all_lines (Some text) None c line lines has reads = absurd has
all_lines (Some text) (Some rest) None line lines has reads = absurd reads
all_lines (Some text) (Some rest) (Some none) line lines has reads = has ∙ ap (λ r. lines ++ lines_of r) reads ∙ append-nil lines

-- the first word, behind blanks
pub first_word_is : (text blanks rest word behind : List ℕ) → text ≡ blanks ++ rest → AllAnswer is_ascii_whitespace true blanks
    → 0 < length rest → is_ascii_whitespace (get_or rest 0 0) ≡ false → rest ≡ word ++ behind → AllAnswer is_ascii_whitespace false word → BeginsBlank behind
    → words_of text ≡ word ∷ words_of behind
first_word_is text blanks rest [] [] cut all some first parts word begins = let none = ap length parts in absurd (omega arith)
first_word_is text blanks rest [] (byte ∷ behind) cut all some first parts word begins =
    let no : true ≡ false = sym begins ∙ (rw parts at first) in absurd (false≢true (sym no))
first_word_is text blanks rest (byte ∷ word) behind cut all some first parts in_word begins =
    ap words_of cut ∙ words_after_blanks blanks rest all ∙ ap words_of parts ∙ word_in_front (byte ∷ word) behind (omega arith) in_word begins

pub no_word_is : (text blanks rest : List ℕ) → text ≡ blanks ++ rest → AllAnswer is_ascii_whitespace true blanks → length rest ≡ 0 → words_of text ≡ []
no_word_is text blanks rest cut all none =
    let empty : rest ≡ [] = nil_from_length rest none in
    ap words_of cut ∙ words_after_blanks blanks rest all ∙ ap words_of empty

-- one word more of a line
pub one_word_more : (line rest behind word : List ℕ) (words : List (List ℕ)) → words_of line ≡ words ++ words_of rest → words_of rest ≡ word ∷ words_of behind → words_of line ≡ (words ++ word ∷ []) ++ words_of behind
one_word_more line rest behind word words has cut = has ∙ ap (λ ws. words ++ ws) cut ∙ sym (append_assoc words (word ∷ []) (words_of behind))
