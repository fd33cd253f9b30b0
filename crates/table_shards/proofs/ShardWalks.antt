-- Steps of walks over shards.
use Rattle.std.proofs.Common.{◌≡◌, ℕ, ◌<◌, List, [], ◌∷◌, length, map, refl, sym, ap, ◌∙◌, arith, Option, Some, None}
use Rattle.std.specs.List.{flat_map}
use Rattle.std.specs.List.Sorted.{IsPermutation}
use Rattle.std.proofs.lemmas.List.{length-map, nil_from_length}
use Rattle.std.specs.Prelude.{IfSome}
use Rattle.std.specs.Iterator.{at_most, UpTo}
use Rattle.std.specs.Iterator.SizeHint.{IsExactHint}
use Rattle.std.proofs.lemmas.List.Sorted.{length_permutation, IsPermutation-refl, IsPermutation-append_left}
use Rattle.table_held.specs.Table as table
use Rattle.table_held.specs.Table.{HeldTable, held}
use Rattle.table_held.specs.Shown.{GivesEntries, WalksAsList}
use Rattle.table_shards.specs.Shards.{entries, sharded}
use Rattle.table_shards.specs.ShardWalks.{left_of}
use Rattle.table_held.proofs.Answered.{walks_as_list}
use Rattle.table_shards.proofs.Shards.{entries_by_shard}

module _ {T : Type 0} where
  -- the walk of the first shard, and then the others, is the walk of all
  pub all_left : (ts : List (HeldTable T)) (t : HeldTable T) (later : List (HeldTable T)) → ts ≡ t ∷ later → left_of (table.entries t) later ≡ entries ts
  all_left ts t later split = rw split (sym (entries_by_shard (t ∷ later)))

  pub all_walk_as_list : (ts : List (HeldTable T)) (es : List T) → es ≡ entries ts → WalksAsList sharded ts es
  all_walk_as_list ts es is = walks_as_list sharded ts es (rw is (IsPermutation-refl (entries ts)))

  -- where one shard's entries are out, those of the next shard come
  pub next_left : (walk next : List T) (t : HeldTable T) (ts later : List (HeldTable T)) → walk ≡ [] → next ≡ table.entries t → ts ≡ t ∷ later → left_of next later ≡ left_of walk ts
  next_left walk next t ts later out is split = rw (out, is, split) refl

  -- so do its values, in some order
  pub next_given : (walk next : List T) (t : HeldTable T) (ts later : List (HeldTable T)) → walk ≡ [] → IsPermutation (table.entries t) next → ts ≡ t ∷ later → IsPermutation (left_of walk ts) (left_of next later)
  next_given walk next t ts later out gives split = rw (out, split) (IsPermutation-append_left (flat_map table.entries later) (table.entries t) next gives)

  -- the values of the first shard, and then those of the others, are those of all
  pub all_given : (ts : List (HeldTable T)) (t : HeldTable T) (later : List (HeldTable T)) (walk : List T) → ts ≡ t ∷ later → IsPermutation (table.entries t) walk → GivesEntries sharded ts (left_of walk later)
  all_given ts t later walk split gives =
      let permuted : IsPermutation (entries ts) (left_of walk later) = rw (← all_left ts t later split) (IsPermutation-append_left (flat_map table.entries later) (table.entries t) walk gives) in
      record { permuted = permuted; as_list = walks_as_list sharded ts (left_of walk later) permuted }

  -- where nothing is left, nothing was
  pub nothing_left : (walk : List T) (ts : List (HeldTable T)) → walk ≡ [] → ts ≡ [] → left_of walk ts ≡ []
  nothing_left walk ts out none = rw (out, none) refl

  pub nothing_was : (before after : List T) → IsPermutation before after → after ≡ [] → before ≡ []
  nothing_was before after same none = nil_from_length before (sym (length_permutation before after same) ∙ ap length none)

  -- a value that was handed out isn't left
  pub one_less : (before after : List T) (v : T) → IsPermutation before (v ∷ after) → length after < length before
  one_less before after v out = let counted : length (v ∷ after) ≡ length before = length_permutation before (v ∷ after) out in omega arith

-- an exact hint is an upper bound
pub upper_of_exact : (lower : ℕ) (upper : Option ℕ) (n : ℕ) → IsExactHint (lower, upper) n → IfSome upper (UpTo (at_most n))
upper_of_exact lower None n exact = tt
upper_of_exact lower (Some k) n (low, is) = (tt, omega (arith, is))

module _ {T U : Type 0} (target : T → U) where
  -- where there is no target, there is no entry
  pub no_targets : (walk : List T) → map target walk ≡ [] → walk ≡ []
  no_targets walk none = nil_from_length walk (sym (length-map walk target) ∙ ap length none)
