-- What a table's clauses say of the answers that a memo keeps.
use Rattle.std.proofs.Common.{◌≡◌, ℕ, Bool, true, false, [], ◌∷◌, ◌++◌, sym, ap, ◌∙◌}
use Rattle.std.specs.Prelude.{Contains, ◌==◌}
use Rattle.std.specs.declared.boxed.Box.{Box}
use Rattle.std.proofs.lemmas.Bool.{false≢true}
use Rattle.std.proofs.lemmas.List.Elements.{Contains-append_left, Contains-push}
use Rattle.std.specs.List.Sorted.{IsPermutation}
use Rattle.std.proofs.lemmas.List.Sorted.{Contains-permutation}
use Rattle.std.proofs.Common.{eq-eqb, arith}
use Rattle.std.proofs.lemmas.Grind.{common_steps}
use Rattle.table_terms.specs.Laws.{number_hash}
use Rattle.table_held.specs.Table.{HeldTable, entries}
use Rattle.table_held.specs.Held.{FindsOne, FindsNone}
use Rattle.tool_lines.specs.Memo.{same_answer, answer_hash, IsByArgument, Keeps, KeepsAll}
use Rattle.tool_lines.specs.declared.memo.Answer.{Answer}

-- a test that is true of equal numbers alone
pub equal_numbers : (a b : ℕ) → (a == b) ≡ true → a ≡ b
equal_numbers a b is = grind (arith, common_steps)

module _ {A : Type 0} where
  -- a lawful look-up that finds none: none is kept
  pub none_kept : (answers : Answer → Bool → Type 0) (t : HeldTable (Box Answer A)) (hash argument : ℕ)
      → IsByArgument t → ((a : Answer) (yes : Bool) → answers a yes → yes ≡ (a.argument == argument)) → hash ≡ number_hash argument
      → FindsNone (λ b. b.value) same_answer answer_hash answers (IsByArgument t) (entries t) hash → ¬ Keeps t argument
  none_kept answers t hash argument lawful test_is hash_is none (b, among, is) =
      let refused : (b.value.argument == argument) ≡ false = none (λ a. a.argument == argument) (record {
        test_is = λ e yes there h. test_is e.value yes h;
        hash_is = λ e there h. ap number_hash (equal_numbers e.value.argument argument h) ∙ sym hash_is;
        table_is = lawful;
      }) b among in
      false≢true (sym refused ∙ eq-eqb b.value.argument argument is)

  -- a look-up that shows an answer to this argument: it is kept
  pub found_kept : (answers : Answer → Bool → Type 0) (t : HeldTable (Box Answer A)) (argument : ℕ) (shown : Answer)
      → ((a : Answer) (yes : Bool) → answers a yes → yes ≡ (a.argument == argument))
      → FindsOne (λ b. b.value) answers (entries t) shown → Keeps t argument
  found_kept answers t argument shown test_is one =
      (one.entry, one.among, equal_numbers one.entry.value.argument argument (sym (test_is one.entry.value true one.accepted)))

  -- what an insert leaves: the table before, which is `old`, and `new`
  module _ (before old new : HeldTable (Box Answer A)) (is : before ≡ old) where
    same_old : (b : Box Answer A) → Contains (entries old) b → Contains (entries before) b
    same_old b among = rw is among

    -- with one answer more, or with none
    pub stays_with : (value : Box Answer A) → IsPermutation (entries before ++ value ∷ []) (entries new) → KeepsAll old new
    stays_with value more argument (b, among, at) =
        (b, Contains-permutation _ _ b more (Contains-append_left (entries before) (value ∷ []) b (same_old b among)), at)

    pub stays : IsPermutation (entries before) (entries new) → KeepsAll old new
    stays same argument (b, among, at) = (b, Contains-permutation _ _ b same (same_old b among), at)

  -- the answer that was placed is kept, and so is one that was found by its argument
  pub placed_keeps : (before new : HeldTable (Box Answer A)) (value : Box Answer A) (argument : ℕ) → value.value.argument ≡ argument
      → IsPermutation (entries before ++ value ∷ []) (entries new) → Keeps new argument
  placed_keeps before new value argument at more = (value, Contains-permutation _ _ value more (Contains-push (entries before) value), at)

  pub found_keeps : {Lives Accepts : Box Answer A → Type 0} (before new : HeldTable (Box Answer A)) (argument : ℕ)
      → (e : Box Answer A) × Lives e × Contains (entries before) e × Accepts e → IsPermutation (entries before) (entries new)
      → ((e : Box Answer A) → Accepts e → e.value.argument ≡ argument) → Keeps new argument
  found_keeps before new argument (e, lives, among, accepted) same at = (e, Contains-permutation _ _ e same among, at e accepted)
