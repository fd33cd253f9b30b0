-- That the calls that ask for words are lawful.
use Rattle.std.proofs.Common.{◌≡◌, ℕ, ◌∙◌, Bool, true, List, [], ◌∷◌, map, sym, ap, inl, inr, arith}
use Rattle.std.specs.Prelude.{Contains}
use Rattle.std.specs.List.{flat_map}
use Rattle.std.proofs.lemmas.Grind.{common_steps}
use Rattle.table_generations.specs.declared.atomic_value.InPlace.{InPlace}
use Rattle.table_held.proofs.Apart.{first_or_other}
use Rattle.table_held.specs.Calls.{given}
use Rattle.table_held.specs.Runs.{AreLawful}
use Rattle.table_held.specs.Settled.{MeetsOneClass}
use Rattle.table_held.specs.declared.runs.Call.TheVariants as call
use Rattle.demo_examples.specs.Asks.{in_place, asked_of_words}
use Rattle.demo_examples.specs.Words.{same_word, word_hash}
use Rattle.demo_examples.specs.declared.alike.Ask.{Ask}
use Rattle.demo_examples.specs.declared.alike.Ask.TheVariants as ask
use Rattle.demo_examples.proofs.Lookups.{same_words}

-- a word that meets a key has the key's own hash
own_hash_of_key : (hash key a : ℕ) → hash ≡ word_hash key → same_word key a ≡ true → word_hash a ≡ hash
own_hash_of_key hash key a is same = rw (same_words key a same) (sym is)

pub one_word_meets : MeetsOneClass same_word same_word
one_word_meets key x y one other = grind (arith, common_steps)

-- the hash of each call is that of its word
own_insert : (a : Ask) (hash : ℕ) (value : InPlace ℕ) → asked_of_words a ≡ call.Insert hash value → hash ≡ word_hash value.0
own_insert (ask.Insert word) hash value is =
    let hash_is : word_hash word ≡ hash = cc in
    let value_is : in_place word ≡ value = cc in
    sym hash_is ∙ ap (λ v. word_hash v.0) value_is
own_insert (ask.Find word) hash value is = absurd (cc)
own_insert ask.Count hash value is = absurd (cc)

own_lookup : (a : Ask) (hash key : ℕ) → asked_of_words a ≡ call.Lookup hash key → hash ≡ word_hash key
own_lookup (ask.Insert word) hash key is = absurd (cc)
own_lookup (ask.Find word) hash key is =
    let hash_is : word_hash word ≡ hash = cc in
    let key_is : word ≡ key = cc in
    sym hash_is ∙ ap word_hash key_is
own_lookup ask.Count hash key is = absurd (cc)

inserts_own : (asks : List Ask) (hash : ℕ) (value : InPlace ℕ) → Contains (map asked_of_words asks) (call.Insert hash value) → hash ≡ word_hash value.0
inserts_own [] hash value (k, within, is) = absurd (omega arith)
inserts_own (a ∷ asks) hash value among = elim (first_or_other (asked_of_words a) (map asked_of_words asks) (call.Insert hash value) among) [
  | inl is ↦ own_insert a hash value is
  | inr other ↦ inserts_own asks hash value other
]

lookups_own : (asks : List Ask) (hash key : ℕ) → Contains (map asked_of_words asks) (call.Lookup hash key) → hash ≡ word_hash key
lookups_own [] hash key (k, within, is) = absurd (omega arith)
lookups_own (a ∷ asks) hash key among = elim (first_or_other (asked_of_words a) (map asked_of_words asks) (call.Lookup hash key) among) [
  | inl is ↦ own_lookup a hash key is
  | inr other ↦ lookups_own asks hash key other
]

-- closures that compare words, and hash a word to itself, make such calls lawful
pub asks_lawful : (eq test : ℕ → ℕ → Bool → Type 0) (rehash : ℕ → ℕ → Type 0)
    → ((a b : ℕ) (answer : Bool) → eq a b answer → answer ≡ same_word a b)
    → ((a b : ℕ) (answer : Bool) → test a b answer → answer ≡ same_word a b)
    → ((a h : ℕ) → rehash a h → h ≡ word_hash a)
    → (asks : List Ask)
    → AreLawful (λ v. v.0) same_word word_hash eq rehash test same_word (flat_map given (map asked_of_words asks)) (map asked_of_words asks)
asks_lawful eq test rehash eq_is test_is rehash_is asks = record {
  inserts = record {
    eq_is = λ v e answer among also told. eq_is v.0 e.0 answer told;
    rehash_is = λ e h among told. rehash_is e.0 h told;
    hash_is = inserts_own asks;
  };
  tests = λ hash key among. record {
    test_is = λ e answer inside told. test_is key e.0 answer told;
    hash_is = λ e inside meets. own_hash_of_key hash key e.0 (lookups_own asks hash key among) meets;
  };
}
