-- What a walk gives, one bucket after another.
use Rattle.std.proofs.Common.{◌≡◌, ◌≢◌, ℕ, ◌-◌, ◌<◌, ◌≤◌, ◌⊎◌, ◌==◌, Bool, List, [], ◌∷◌, Option, Some, None, refl, sym, subst, ◌∙◌, arith, inl, inr}
use Rattle.std.specs.Prelude.{Contains, MatchOption, IfSome, count_by}
use Rattle.std.specs.Borrow.{Bor}
use Rattle.std.specs.Iterator.{Yields}
use Rattle.std.proofs.lemmas.Bool.{cases_Bool, eqb-true}
use Rattle.std.proofs.lemmas.List.Elements.{Contains-append_right}
use Rattle.std.proofs.lemmas.List.Sums.{sum_by-cons}
use mathlib.Core.List.{IsPrefix}
use mathlib.Core.Logic.{dite}
use native.Mathlib.Decide.{ℕ_discrete}
use Rattle.table_numbered.specs.Words.{numbered, alike, marked}
use Rattle.table_numbered.specs.History.{History, Stands, IsFree, IsEntry, HasSize, IsReached}
use Rattle.table_numbered.specs.declared.event.Stored.TheVariants.{Entry}
use Rattle.table_numbered.specs.Walking.{IsOnlyAt}
use Rattle.table_numbered.specs.declared.event.Numbered.{Numbered}
use Rattle.table_numbered.proofs.Apart.{first_or_other}
use Rattle.table_numbered.proofs.Histories.{stands_on, same_value, has_inside}
use Rattle.shared_set.specs.Known.{SharedView, KnownView}
use Rattle.shared_set.specs.Walks.{WalkView, walk_view, IsDue, IsPassed, GoesOn, PassesNone, Gives, IsOver, ComesNext, HasEnded, Visits, WalksOn, given, NeverTwice, GivesEntries, GivesAllOf, Begins}
use Rattle.shared_set.proofs.Keeping.{keeps_trans, keeps_longer}

module _ {V : Type 0} where
  goes_on : (a b c : WalkView V) → GoesOn a b → GoesOn b c → GoesOn a c
  goes_on a b c one other = record {
    of = other.of ∙ one.of;
    begun = other.begun ∙ one.begun;
    keeps = keeps_trans a.history b.history c.history one.keeps other.keeps;
    passed = λ k there. other.passed k (one.passed k there);
    left = omega (arith, one.left, other.left);
  }

  pub passes_on : (a b c : WalkView V) → PassesNone a b → PassesNone b c → PassesNone a c
  passes_on a b c one other = record { on = goes_on a b c one.on other.on; due = λ d there. other.due d (one.due d there) }

  -- what is given after buckets with nothing that must come
  pub gives_after : (a b c : WalkView V) (e : Numbered V) → PassesNone a b → Gives b e c → Gives a e c
  gives_after a b c e one other = record {
    on = goes_on a b c one.on other.on;
    fewer = omega (arith, one.on.left, other.fewer);
    entry = other.entry;
    first = λ there. other.first (one.on.passed e.number there);
    passed = other.passed;
    due = λ d there. other.due d (one.due d there);
  }

module _ {V : Type 0} (g : SharedView) (begun old new : History (Numbered V)) (n left : ℕ) (same : V → V → Bool) (hash : V → ℕ) (known : IsPrefix begun old) (on : IsPrefix old new) (r : IsReached (alike same) (marked hash) new) (some : 0 < left) (within : left ≤ n) where
  abbrev was : WalkView V
  was = walk_view g begun old n left

  abbrev is : WalkView V
  is = walk_view g begun new n (left - 1)

  bucket_passed : GoesOn was is
  bucket_passed = record {
    of = refl;
    begun = refl;
    keeps = keeps_longer old new on;
    passed = λ k there. (there.0, omega (arith, there.1), (there.2.0, stands_on old new there.0 (numbered k there.2.0) on there.2.1));
    left = omega arith;
  }

  -- what must come stands in this bucket or in a later one
  due_here : (d : Numbered V) → IsDue was d → Stands new (n - left) d ⊎ IsDue is d
  due_here d there = dite (ℕ_discrete there.0 (n - left))
      (λ (here : there.0 ≡ n - left). inl (subst (λ (p : ℕ). Stands new p d) here (stands_on old new there.0 d on (stands_on begun old there.0 d known there.2))))
      (λ (ne : there.0 ≢ n - left). inr (there.0, omega (arith, ne, there.1, some, within), there.2))

  -- one bucket is passed
  pub visited : (result : Option (ℕ × Bor V)) → MatchOption result (IsFree new (n - left)) (λ e. Stands new (n - left) (numbered e.0 e.1.now)) → IfSome result (λ e. IsOnlyAt new (n - left) e.0) → Visits was result is
  visited None free only = (
    record {
      on = bucket_passed;
      due = λ d there. elim (due_here d there) [
        | inl here ↦ absurd (free d here)
        | inr later ↦ later
      ];
    },
    omega (arith, some),
  )
  visited (Some e) shown only = record {
    on = bucket_passed;
    fewer = omega (arith, some);
    entry = (n - left, shown);
    first = λ there. let at : there.0 ≡ n - left = only there.0 (there.2.0, stands_on old new there.0 (numbered e.0 there.2.0) on there.2.1) in absurd (let lt : there.0 < n - left = there.1 in omega (arith, at, lt));
    passed = (n - left, omega (arith, some, within), (e.1.now, shown));
    due = λ d there. elim (due_here d there) [
      | inl here ↦ inl (same_value (alike same) (marked hash) new (n - left) d (numbered e.0 e.1.now) r here shown)
      | inr later ↦ inr later
    ];
  }

module _ {V : Type 0} (g : SharedView) (begun log : History (Numbered V)) (n left : ℕ) (same : V → V → Bool) (hash : V → ℕ) (known : IsPrefix begun log) (size : HasSize n log) (r : IsReached (alike same) (marked hash) log) where
  -- no entry must come once no bucket is left
  pub over : left ≡ 0 → IsOver (walk_view g begun log n left)
  over none = (none, λ d due. absurd (let lt : due.0 < n = has_inside (alike same) (marked hash) n due.0 (Entry d) log size r (stands_on begun log due.0 d known due.2) in let le : n - left ≤ due.0 = due.1 in omega (arith, none, lt, le)))

module _ {V : Type 0} where
  pub ended : (a b : WalkView V) → PassesNone a b → IsOver b → HasEnded a b
  ended a b one at_end = record { on = one.on; none = λ d there. at_end.1 d (one.due d there); over = at_end.0 }

  -- where no bucket comes next, the walk is over
  pub is_over : (w : WalkView V) (r : Option ℕ) → ComesNext w r → ((i : ℕ) → r ≡ Some i → ⊥) → IsOver w
  is_over w None comes none = comes
  is_over w (Some i) comes none = absurd (none i refl)

  -- a number that was passed is not given again
  passed_never : (items : List (ℕ × Bor V)) (w last : WalkView V) → Yields WalksOn w items last → (k : ℕ) → IsPassed w k → count_by (λ e. k == e.number) (given items) ≡ 0
  passed_never [] w last run k passed = refl
  passed_never (e ∷ items) w last run k passed = let step = run.1 in let rest = passed_never items run.0 last run.2 k (step.on.passed k passed) in
      elim (cases_Bool (k == e.0)) [
        | inl it ↦ absurd (step.first (subst (IsPassed w) (eqb-true k e.0 it) passed))
        | inr other ↦ rw (sum_by-cons, other) (omega (arith, rest))
      ]

  once : (items : List (ℕ × Bor V)) (w last : WalkView V) → Yields WalksOn w items last → (k : ℕ) → count_by (λ e. k == e.number) (given items) ≤ 1
  once [] w last run k = omega arith
  once (e ∷ items) w last run k = let step = run.1 in elim (cases_Bool (k == e.0)) [
    | inl it ↦ (let rest = passed_never items run.0 last run.2 k (subst (IsPassed run.0) (sym (eqb-true k e.0 it)) step.passed) in rw (sum_by-cons, it) (omega (arith, rest)))
    | inr other ↦ (let rest = once items run.0 last run.2 k in rw (sum_by-cons, other) (omega (arith, rest)))
  ]

  -- what is given first, or given later, is given
  among_first : (e : ℕ × Bor V) (items : List (ℕ × Bor V)) → Contains (given (e ∷ items)) (numbered e.0 e.1.now)
  among_first e items = (0, omega arith, refl)

  among_later : (e : ℕ × Bor V) (items : List (ℕ × Bor V)) (d : Numbered V) → Contains (given items) d → Contains (given (e ∷ items)) d
  among_later e items d among = Contains-append_right (numbered e.0 e.1.now ∷ []) (given items) d among

  -- what must come was given by now, or must still come
  given_or_due : (items : List (ℕ × Bor V)) (w last : WalkView V) → Yields WalksOn w items last → (d : Numbered V) → IsDue w d → Contains (given items) d ⊎ IsDue last d
  given_or_due [] w last run d due = inr (subst (λ (x : WalkView V). IsDue x d) run due)
  given_or_due (e ∷ items) w last run d due = elim (run.1.due d due) [
    | inl is ↦ inl (subst (Contains (given (e ∷ items))) (sym is) (among_first e items))
    | inr later ↦ elim (given_or_due items run.0 last run.2 d later) [
      | inl among ↦ inl (among_later e items d among)
      | inr still ↦ inr still
    ]
  ]

  -- what is known by now is known at the end
  run_keeps : (items : List (ℕ × Bor V)) (w last : WalkView V) → Yields WalksOn w items last → (d : Numbered V) → IsEntry w.history d → IsEntry last.history d
  run_keeps [] w last run d there = subst (λ (x : WalkView V). IsEntry x.history d) run there
  run_keeps (e ∷ items) w last run d there = run_keeps items run.0 last run.2 d (run.1.on.keeps d there)

  pub never_twice : (w : WalkView V) → NeverTwice w
  never_twice w items last run k = once items w last run k

  pub gives_all : (known : KnownView V) (w : WalkView V) → Begins known w → GivesAllOf known.history w
  gives_all known w begins items drained e there =
      let due : IsDue w e = (there.0, omega (arith, begins.next), subst (λ (log : History (Numbered V)). Stands log there.0 e) (sym begins.begun) there.1) in
      elim (given_or_due items w drained.1.0 drained.1.1 e due) [
        | inl among ↦ among
        | inr still ↦ absurd (drained.1.2.none e still)
      ]

  pub gives_entries : (w : WalkView V) → GivesEntries w
  gives_entries w [] last run e among = absurd (let lt = among.1 in omega (arith, lt))
  gives_entries w (x ∷ items) last run e among = elim (first_or_other (numbered x.0 x.1.now) (given items) e among) [
    | inl is ↦ run_keeps items run.0 last run.2 e (subst (IsEntry run.0.history) is run.1.entry)
    | inr later ↦ gives_entries run.0 items last run.2 e later
  ]
