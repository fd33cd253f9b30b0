-- A line is cut at its first space in one way, so it spells at most what its word begins.
use Rattle.std.proofs.Common.{◌≡◌, ◌≢◌, ℕ, Bool, List, [], ◌∷◌, ◌++◌, ◌+◌, ◌*◌, arith, ap, refl, sym, ◌∙◌}
use Rattle.std.specs.Prelude.{Option, Some, None, IfSome, IfNone, codes}
use Rattle.tool_streams.specs.Numbers.{SpellsNumber}
use Rattle.tool_commands.specs.Spelling.{SpellsPair, HasNoSpace}
use Rattle.tool_commands.specs.Events.{Piece, Letters, Number, answer, grant, pieces_of, SpellsPiece, IsCut, SpellsPieces, SpellsAfter, SpellsBehind, SpellsEvent}
use Rattle.tool_commands.proofs.Spaces.{HasNoSpace-tail, cut_once, numbers_have_none, number_once}
use Rattle.table_core.specs.declared.event.Event.{Event}
use Rattle.table_core.specs.declared.event.Event.TheVariants.{Insert, Lookup, Len, Walk, Share, Own, Free, Load, Read, Put, Add, Size, Check, Copy, Show}

has_space : (before after : List ℕ) → ¬ HasNoSpace (before ++ codes " " ++ after)
has_space [] after none = none 0 0 (omega arith) refl
has_space (b ∷ before) after none = has_space before after (HasNoSpace-tail b (before ++ codes " " ++ after) none)

abbrev pub HasTwo : List Piece → Type 0
HasTwo [] = ⊥
HasTwo (p ∷ []) = ⊥
HasTwo (p ∷ q ∷ ps) = Unit {0}

-- two parts or more have a space
pub no_pieces : (text : List ℕ) (ps : List Piece) → HasTwo ps → HasNoSpace text → ¬ SpellsPieces text ps
no_pieces text [] two none s = two
no_pieces text (p ∷ []) two none s = two
no_pieces text (p ∷ q ∷ ps) two none (before, after, cut, first, rest) = has_space before after (rw cut.parts at none)

-- two parts or more are cut where their text is
pub cut_pieces : (text before after : List ℕ) (ps : List Piece) → HasTwo ps → text ≡ before ++ codes " " ++ after → HasNoSpace before
    → SpellsPieces text ps → SpellsAfter before after ps
cut_pieces text before after [] two e none s = absurd two
cut_pieces text before after (p ∷ []) two e none s = absurd two
cut_pieces text before after (p ∷ q ∷ ps) two e none (b, a, cut, first, rest) =
    let same : (before ≡ b) × (after ≡ a) = cut_once before after b a none cut.first (sym e ∙ cut.parts) in
    (rw same.0 first, rw same.1 rest)

pieces_of-two : (e : Event) → HasTwo (pieces_of e)
pieces_of-two (Insert c v h) = tt
pieces_of-two _ = tt

pub no_event : (text : List ℕ) (e : Event) → HasNoSpace text → ¬ SpellsEvent text e
no_event text e none s = no_pieces text (pieces_of e) (pieces_of-two e) none s

pub cut_event : (text before after : List ℕ) (e : Event) → text ≡ before ++ codes " " ++ after → HasNoSpace before → SpellsEvent text e
    → SpellsAfter before after (pieces_of e)
cut_event text before after e is none s = cut_pieces text before after (pieces_of e) (pieces_of-two e) is none s

-- Pairs of numbers

pub pieces-pair : (text : List ℕ) (a b : ℕ) → SpellsPair text a b → SpellsPieces text (Number a ∷ Number b ∷ [])
pieces-pair text a b p = (p.before, p.after, record { parts = p.parts; first = numbers_have_none p.before a p.first_is }, p.first_is, p.second_is)

pub pair-pieces : (text : List ℕ) (a b : ℕ) → SpellsPieces text (Number a ∷ Number b ∷ []) → SpellsPair text a b
pair-pieces text a b (before, after, cut, first, rest) = record { before = before; after = after; parts = cut.parts; first_is = first; second_is = rest }

-- What follows the word

-- the pieces of an event begin with its word and its call's number
record HasCall (e : Event) : Type 0 where
  word : List ℕ
  call : ℕ
  others : List Piece
  is : pieces_of e ≡ Letters word ∷ Number call ∷ others

has_call : (e : Event) → HasCall e
has_call (Insert c v h) = record { word = codes "insert"; call = c; others = Number v ∷ Number h ∷ []; is = refl }
has_call (Lookup c h) = record { word = codes "lookup"; call = c; others = Number h ∷ []; is = refl }
has_call (Len c) = record { word = codes "len"; call = c; others = []; is = refl }
has_call (Walk c) = record { word = codes "walk"; call = c; others = []; is = refl }
has_call (Share c) = record { word = codes "share"; call = c; others = []; is = refl }
has_call (Own c) = record { word = codes "own"; call = c; others = []; is = refl }
has_call (Free c) = record { word = codes "free"; call = c; others = []; is = refl }
has_call (Load c) = record { word = codes "load"; call = c; others = []; is = refl }
has_call (Read c y) = record { word = codes "read"; call = c; others = answer y ∷ []; is = refl }
has_call (Put c y m) = record { word = codes "put"; call = c; others = answer y ∷ grant m ∷ []; is = refl }
has_call (Add c) = record { word = codes "add"; call = c; others = []; is = refl }
has_call (Size c) = record { word = codes "size"; call = c; others = []; is = refl }
has_call (Check c m) = record { word = codes "check"; call = c; others = grant m ∷ []; is = refl }
has_call (Copy c k) = record { word = codes "copy"; call = c; others = Number k ∷ []; is = refl }
has_call (Show c) = record { word = codes "show"; call = c; others = []; is = refl }

-- a text that follows the word of an event begins with the number of a call
record HasNumber (word text : List ℕ) (e : Event) : Type 0 where
  call : ℕ
  others : List Piece
  is : pieces_of e ≡ Letters word ∷ Number call ∷ others
  spelled : SpellsPieces text (Number call ∷ others)

has_number : (word text : List ℕ) (e : Event) → SpellsAfter word text (pieces_of e) → HasNumber word text e
has_number word text e s =
    let h : HasCall e = has_call e in
    let told : SpellsAfter word text (Letters h.word ∷ Number h.call ∷ h.others) = rw h.is at s in
    record { call = h.call; others = h.others; is = rw told.0 h.is; spelled = told.1 }

-- without a space it is the number alone
number_alone : (text : List ℕ) (c : ℕ) (ps : List Piece) → HasNoSpace text → SpellsPieces text (Number c ∷ ps) → (ps ≡ []) × SpellsNumber text c
number_alone text c [] none s = (refl, s)
number_alone text c (p ∷ ps) none s = absurd (no_pieces text (Number c ∷ p ∷ ps) tt none s)

-- cut at its first space it is the number, and the other pieces
number_cut : (text first more : List ℕ) (c : ℕ) (ps : List Piece) → text ≡ first ++ codes " " ++ more → HasNoSpace first
    → SpellsPieces text (Number c ∷ ps) → SpellsNumber first c × SpellsPieces more ps
number_cut text first more c [] is none s = absurd (has_space first more (rw is at (numbers_have_none text c s)))
number_cut text first more c (p ∷ ps) is none s = cut_pieces text first more (Number c ∷ p ∷ ps) tt is none s

module _ (word text : List ℕ) (none : HasNoSpace text) (e : Event) (s : SpellsAfter word text (pieces_of e)) where
  alone : (h : HasNumber word text e) → (h.others ≡ []) × SpellsNumber text h.call
  alone h = number_alone text h.call h.others none h.spelled

  pub no_number : ((c : ℕ) → ¬ SpellsNumber text c) → ⊥
  no_number never = let h = has_number word text e s in never h.call (alone h).1

  pub no_call : (call : ℕ) → SpellsNumber text call → ((f : Event) → pieces_of f ≢ Letters word ∷ Number call ∷ []) → ⊥
  no_call call spelled never =
      let h = has_number word text e s in
      let told = alone h in
      let same : h.call ≡ call = number_once text h.call call told.1 spelled in
      let is : pieces_of e ≡ Letters word ∷ Number call ∷ [] = rw (← same, ← told.0) h.is in
      never e is

module _ (word text first more : List ℕ) (is : text ≡ first ++ codes " " ++ more) (none : HasNoSpace first) (e : Event) (s : SpellsAfter word text (pieces_of e)) where
  cut : (h : HasNumber word text e) → SpellsNumber first h.call × SpellsPieces more h.others
  cut h = number_cut text first more h.call h.others is none h.spelled

  pub no_number_before : ((c : ℕ) → ¬ SpellsNumber first c) → ⊥
  no_number_before never = let h = has_number word text e s in never h.call (cut h).0

  pub none_behind : (call : ℕ) → SpellsNumber first call → ((f : Event) → ¬ SpellsBehind word call more (pieces_of f)) → ⊥
  none_behind call spelled never =
      let h = has_number word text e s in
      let told = cut h in
      let same : Number h.call ≡ Number call = ap Number (number_once first h.call call told.0 spelled) in
      let behind : SpellsBehind word call more (pieces_of e) = rw h.is (refl, same, told.1) in
      never e behind

-- what stands behind the call's number stands after the word with it
pub behind_after : (word text first more : List ℕ) (call : ℕ) (ps : List Piece) → IsCut text first more → SpellsNumber first call
    → SpellsBehind word call more ps → SpellsAfter word text ps
behind_after word text first more call [] cut spelled s = absurd s
behind_after word text first more call (p ∷ []) cut spelled s = absurd s
behind_after word text first more call (p ∷ q ∷ []) cut spelled (is, same, rest) = absurd rest
behind_after word text first more call (p ∷ q ∷ r ∷ ps) cut spelled (is, same, rest) = (is, (first, more, cut, rw same spelled, rest))

-- What stands behind each word and the call's number

-- the letters of a word as one number, by which words are told apart
abbrev pub word_number : List ℕ → ℕ
word_number [] = 0
word_number (c ∷ cs) = c + 256 * word_number cs

module _ (call : ℕ) (text : List ℕ) where
  pub behind_insert : ((v h : ℕ) → ¬ SpellsPieces text (Number v ∷ Number h ∷ [])) → (e : Event) → ¬ SpellsBehind (codes "insert") call text (pieces_of e)
  behind_insert none (Insert c v h) (is, same, rest) = none v h rest
  behind_insert none _ s = absurd (omega (arith, ap word_number s.0))

  pub behind_lookup : ((h : ℕ) → ¬ SpellsNumber text h) → (e : Event) → ¬ SpellsBehind (codes "lookup") call text (pieces_of e)
  behind_lookup none (Lookup c h) (is, same, rest) = none h rest
  behind_lookup none _ s = absurd (omega (arith, ap word_number s.0))

  pub behind_copy : ((k : ℕ) → ¬ SpellsNumber text k) → (e : Event) → ¬ SpellsBehind (codes "copy") call text (pieces_of e)
  behind_copy none (Copy c k) (is, same, rest) = none k rest
  behind_copy none _ s = absurd (omega (arith, ap word_number s.0))

  pub behind_read : ((y : Bool) → ¬ SpellsPiece text (answer y)) → (e : Event) → ¬ SpellsBehind (codes "read") call text (pieces_of e)
  behind_read none (Read c y) (is, same, rest) = none y rest
  behind_read none _ s = absurd (omega (arith, ap word_number s.0))

  pub behind_check : ((m : Bool) → ¬ SpellsPiece text (grant m)) → (e : Event) → ¬ SpellsBehind (codes "check") call text (pieces_of e)
  behind_check none (Check c m) (is, same, rest) = none m rest
  behind_check none _ s = absurd (omega (arith, ap word_number s.0))

  pub behind_put : ((y m : Bool) → ¬ SpellsPieces text (answer y ∷ grant m ∷ [])) → (e : Event) → ¬ SpellsBehind (codes "put") call text (pieces_of e)
  behind_put none (Put c y m) (is, same, rest) = none y m rest
  behind_put none _ s = absurd (omega (arith, ap word_number s.0))

-- none of the words that more than a number follows
pub record IsOther (word : List ℕ) : Type 0 where
  pub insert : word ≢ codes "insert"
  pub lookup : word ≢ codes "lookup"
  pub read : word ≢ codes "read"
  pub put : word ≢ codes "put"
  pub check : word ≢ codes "check"
  pub copy : word ≢ codes "copy"

-- nothing stands behind another word and a number
pub behind_other : (word : List ℕ) (call : ℕ) (text : List ℕ) → IsOther word → (e : Event) → ¬ SpellsBehind word call text (pieces_of e)
behind_other word call text other (Insert c v h) s = other.insert s.0
behind_other word call text other (Lookup c h) s = other.lookup s.0
behind_other word call text other (Read c y) s = other.read s.0
behind_other word call text other (Put c y m) s = other.put s.0
behind_other word call text other (Check c m) s = other.check s.0
behind_other word call text other (Copy c k) s = other.copy s.0
behind_other word call text other _ (is, same, rest) = rest

pub IfSome-implies : {A : Type 0} {P Q : A → Type 0} (o : Option A) → ((a : A) → P a → Q a) → IfSome o P → IfSome o Q
IfSome-implies None f h = h
IfSome-implies (Some a) f h = f a h

pub IfNone-implies : {A P Q : Type 0} (o : Option A) → (P → Q) → IfNone o P → IfNone o Q
IfNone-implies None f h = f h
IfNone-implies (Some a) f h = h
