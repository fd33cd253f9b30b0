-- How far a probe has come, and what its end shows.
use Rattle.std.proofs.Common.{◌≡◌, ℕ, ◌+◌, ◌<◌, ◌≤◌, Bool, true, false, sym, subst, ◌∙◌, arith, ap, inr}
use mathlib.Core.List.{IsPrefix}
use base.Growing.{prefix_trans}
use Rattle.table_terms.specs.Laws.{IsLaw}
use Rattle.table_terms.specs.Probes as round
use Rattle.table_numbered.specs.Probing.{first_of, bucket_at}
use Rattle.table_numbered.specs.Words.{mark_of, numbered, alike, marked, of_value}
use Rattle.table_numbered.specs.declared.event.Numbered.{Numbered}
use Rattle.table_numbered.specs.declared.event.Stored.TheVariants.{Entry, Closed}
use Rattle.table_numbered.specs.History.{History, Has, Stands, IsFree, IsUntouched, HasSize, IsEntry, NonePasses, HasPassed, Reaches, IsReached, Adds}
use Rattle.table_numbered.specs.Generations.{IsPlaced, HasRoom, HasNoRoom}
use Rattle.table_numbered.proofs.Histories.{size_on, untouched_free, passed_on, passed_more, none_beyond}

-- a probe for this mark is at the bucket `index`, past so many buckets whose entries do not pass the test
pub record Goes {V : Type 0} (test : V → Bool) (n m : ℕ) (log : History (Numbered V)) (index tried : ℕ) : Type 0 where
  pub inside : index < n
  pub at : bucket_at n m tried ≡ index
  pub passed : HasPassed n log (of_value test) m tried

module _ {V : Type 0} {test : V → Bool} {n m : ℕ} where
  pub goes_first : {count mark index : ℕ} {log : History (Numbered V)} → count ≡ n → mark ≡ m → index < count → index ≡ bucket_at count mark 0 → Goes test n m log index 0
  goes_first {index = index} size is inside at = record {
    inside = subst (λ (c : ℕ). index < c) size inside;
    at = sym (at ∙ (λ i. bucket_at (size i) (is i) 0));
    passed = λ j lt. absurd (omega arith);
  }

  -- the bucket has an entry that does not pass: the probe goes on to the next one
  pub goes_on : {log : History (Numbered V)} {index tried next count : ℕ} (new : History (Numbered V)) (e : Numbered V) → Goes test n m log index tried → IsPrefix log new → Stands new index e → test e.value ≡ false
      → count ≡ n → next < count → ((a k : ℕ) → index ≡ round.bucket_at count a k → next ≡ round.bucket_at count a (k + 1)) → Goes test n m new next (tried + 1)
  goes_on {log} {index} {tried} {next} {count} new e go more there differs size inside step = record {
    inside = subst (λ (c : ℕ). next < c) size inside;
    at = subst (λ (c : ℕ). bucket_at c m (tried + 1) ≡ next) size (sym (step (first_of count m) tried (subst (λ (c : ℕ). index ≡ bucket_at c m tried) (sym size) (sym go.at))));
    passed = passed_more n tried m (of_value test) new e (passed_on n tried m (of_value test) log new more go.passed) (subst (λ (i : ℕ). Stands new i e) (sym go.at) there) differs;
  }

  module _ {log : History (Numbered V)} {index tried : ℕ} (go : Goes test n m log index tried) (new : History (Numbered V)) (on : IsPrefix log new) where
    passed_then : HasPassed n new (of_value test) m tried
    passed_then = passed_on n tried m (of_value test) log new on go.passed

    -- the probe has come to an empty bucket
    pub goes_vacant : tried < n → IsUntouched new index → HasRoom test n m new
    goes_vacant lt free = (tried, lt, passed_then, subst (IsUntouched new) (sym go.at) free)

    -- or to a closed one
    pub goes_closed : Has new index Closed → HasNoRoom test n m new
    goes_closed closed = (tried, passed_then, inr (subst (λ (i : ℕ). Has new i Closed) (sym go.at) closed))

  module _ (same : V → V → Bool) (hash : V → ℕ) (agrees : (v : V) → test v ≡ true → mark_of (hash v) ≡ m) where
    -- the probe ends at a bucket without an entry
    pub goes_none : {log : History (Numbered V)} {index tried : ℕ} (new : History (Numbered V)) → Goes test n m log index tried → IsPrefix log new → HasSize n new → IsReached (alike same) (marked hash) new → IsFree new index → NonePasses (of_value test) (IsEntry new)
    goes_none {log} {tried = tried} new go more size reached free = none_beyond (alike same) (marked hash) n tried m (of_value test) new size reached (λ e. agrees e.value) (passed_on n tried m (of_value test) log new more go.passed)
        (λ lt. subst (IsFree new) (sym go.at) free)

    -- the probe ends after a whole turn
    pub goes_round : {log : History (Numbered V)} {index tried : ℕ} → Goes test n m log index tried → n ≤ tried → HasSize n log → IsReached (alike same) (marked hash) log → NonePasses (of_value test) (IsEntry log)
    goes_round {log} {tried = tried} go all size reached = none_beyond (alike same) (marked hash) n tried m (of_value test) log size reached (λ e. agrees e.value) go.passed (λ lt. absurd (omega arith))

pub goes_reaches : {V : Type 0} (same : V → V → Bool) (hash : V → ℕ) {n : ℕ} (k : ℕ) (v : V) {log : History (Numbered V)} {index tried : ℕ} → Goes (same v) n (mark_of (hash v)) log index tried → tried < n → Reaches (alike same) (marked hash) n log (numbered k v) index
goes_reaches same hash k v {tried = tried} go inside = (tried, inside, go.at, go.passed)

module _ {V : Type 0} {same : V → V → Bool} {hash : V → ℕ} (law : IsLaw same hash) {n : ℕ} {v : V} {log : History (Numbered V)} {index tried : ℕ} (go : Goes (same v) n (mark_of (hash v)) log index tried) where
  -- who is the same as v has its mark
  pub same_mark : (w : V) → same v w ≡ true → mark_of (hash w) ≡ mark_of (hash v)
  same_mark w is = ap mark_of (sym (law.agrees v w is))

  -- the value was placed at the end of the probe
  pub goes_placed : (k : ℕ) (old new : History (Numbered V)) → IsPrefix old log → HasSize n log → Adds (alike same) (marked hash) (Entry (numbered k v)) index log new → IsPlaced same hash k v old new
  goes_placed k old new on size adds = let mid : History (Numbered V) = adds.0 in record {
    place = index;
    before = mid;
    known = prefix_trans old log mid on adds.1;
    none = none_beyond (alike same) (marked hash) n tried (mark_of (hash v)) (of_value (same v)) mid (size_on n log mid size adds.1) adds.4 (λ e is. same_mark e.value is)
        (passed_on n tried (mark_of (hash v)) (of_value (same v)) log mid adds.1 go.passed) (λ lt. untouched_free mid (bucket_at n (mark_of (hash v)) tried) (subst (IsUntouched mid) (sym go.at) adds.3));
    then = adds.2;
  }
