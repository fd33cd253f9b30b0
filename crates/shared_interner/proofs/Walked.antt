-- A walk over the texts of an interner is one over the entries of its set.
use Rattle.std.proofs.Common.{◌≡◌, ℕ, ◌==◌, ◌≤◌, ◌+◌, List, [], ◌∷◌, refl, ap, sym, subst, ◌∙◌, arith, inl, inr}
use Rattle.std.specs.Prelude.{Contains, map, count_by, cond}
use Rattle.std.specs.Borrow.{Bor}
use Rattle.std.specs.Iterator.{Yields}
use Rattle.std.proofs.lemmas.List.Elements.{Contains-append_right}
use Rattle.std.proofs.lemmas.List.Sums.{sum_by-cons}
use Rattle.table_numbered.specs.Words.{numbered}
use Rattle.table_numbered.specs.declared.event.Numbered.{Numbered}
use Rattle.table_numbered.proofs.Apart.{first_or_other}
use Rattle.shared_set.specs.Walks as entries
use Rattle.shared_interner.specs.declared.symbol.Symbol.{Symbol}
use Rattle.shared_interner.specs.Symbols.{number_of}
use Rattle.shared_interner.specs.Naming.{Texts}
use Rattle.shared_interner.specs.Walks.{TextWalk, Shown, WalksOn, given, NeverTwice, GivesNamed, GivesAllOf}
use Rattle.shared_interner.proofs.Named.{same_symbol}

abbrev Entry : Type 0
Entry = Numbered (List ℕ)

-- what a step shows of the set
abbrev entry_of : Shown → ℕ × Bor (List ℕ)
entry_of e = (number_of e.0, e.1)

abbrev entries_of : List Shown → List Entry
entries_of items = entries.given (map entry_of items)

-- a run over texts is one over entries
run_of : (items : List Shown) (w last : TextWalk) → Yields WalksOn w items last → Yields entries.WalksOn w (map entry_of items) last
run_of [] w last run = run
run_of (e ∷ items) w last run = (run.0, run.1, run_of items run.0 last run.2)

-- a symbol comes as often as its number
comes_as : (items : List Shown) (s : Symbol) → count_by (λ e. number_of s == number_of e.0) items ≡ count_by (λ e. number_of s == e.number) (entries_of items)
comes_as [] s = refl
comes_as (e ∷ items) s = let one : ℕ = cond (number_of s == number_of e.0) 1 0 in
    sum_by-cons (λ (x : Shown). cond (number_of s == number_of x.0) 1 0) e items
    ∙ (ap (λ n. one + n) (comes_as items s)
    ∙ sym (sum_by-cons (λ (x : Entry). cond (number_of s == x.number) 1 0) (numbered (number_of e.0) e.1.now) (entries_of items)))

-- a text comes where its entry does
first_given : (e : Shown) (items : List Shown) → Contains (given (e ∷ items)) (e.0, e.1.now)
first_given e items = (0, omega arith, refl)

first_entry : (e : Shown) (items : List Shown) → Contains (entries_of (e ∷ items)) (numbered (number_of e.0) e.1.now)
first_entry e items = (0, omega arith, refl)

given_entry : (items : List Shown) (s : Symbol) (text : List ℕ) → Contains (given items) (s, text) → Contains (entries_of items) (numbered (number_of s) text)
given_entry [] s text among = absurd (let lt = among.1 in omega (arith, lt))
given_entry (e ∷ items) s text among = elim (first_or_other (e.0, e.1.now) (given items) (s, text) among) [
  | inl is ↦ subst (λ (p : Symbol × List ℕ). Contains (entries_of (e ∷ items)) (numbered (number_of p.0) p.1)) is (first_entry e items)
  | inr later ↦ Contains-append_right (numbered (number_of e.0) e.1.now ∷ []) (entries_of items) (numbered (number_of s) text) (given_entry items s text later)
]

entry_given : (items : List Shown) (s : Symbol) (text : List ℕ) → Contains (entries_of items) (numbered (number_of s) text) → Contains (given items) (s, text)
entry_given [] s text among = absurd (let lt = among.1 in omega (arith, lt))
entry_given (e ∷ items) s text among = elim (first_or_other (numbered (number_of e.0) e.1.now) (entries_of items) (numbered (number_of s) text) among) [
  | inl is ↦ (let one : e.0 ≡ s = same_symbol e.0 s (ap (λ (x : Entry). x.number) is) in let same : e.1.now ≡ text = ap (λ (x : Entry). x.value) is in
      subst (Contains (given (e ∷ items))) (λ i. (one i, same i)) (first_given e items))
  | inr later ↦ Contains-append_right ((e.0, e.1.now) ∷ []) (given items) (s, text) (entry_given items s text later)
]

pub never_twice : (w : TextWalk) → entries.NeverTwice w → NeverTwice w
never_twice w once items last run s = let few = once (map entry_of items) last (run_of items w last run) (number_of s) in subst (λ (n : ℕ). n ≤ 1) (sym (comes_as items s)) few

pub gives_named : (w : TextWalk) → entries.GivesEntries w → GivesNamed w
gives_named w all items last run s text among = all (map entry_of items) last (run_of items w last run) (numbered (number_of s) text) (given_entry items s text among)

pub gives_all : (known : Texts) (w : TextWalk) → entries.GivesAllOf known w → GivesAllOf known w
gives_all known w all items drained s text named =
    entry_given items s text (all (map entry_of items) (drained.0, (drained.1.0, run_of items w drained.1.0 drained.1.1, drained.1.2)) (numbered (number_of s) text) named)
