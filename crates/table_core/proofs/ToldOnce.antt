-- A call is told at most one thing.
use Rattle.std.proofs.Common.{ℕ, ◌≡◌, ◌++◌, ◌+◌, ◌≤◌, ◌⊎◌, inl, inr, List, [], ◌∷◌, false, refl, Option, Some, None, length, sym, subst, arith, ◌∙◌}
use Rattle.std.specs.Prelude.{◌==◌, option_to_list}
use Rattle.table_core.specs.Replies.{Finished}
use Rattle.table_terms.specs.Capacities.{IsFirstCapacity}
use Rattle.table_core.specs.Machine.{empty, finishes, after}
use Rattle.table_core.specs.History.{replies}
use Rattle.table_core.specs.declared.event.Event.{Event}
use Rattle.table_core.specs.Values.{ToldOnce}
use Rattle.table_core.proofs.Lists.{weigh-append}
use Rattle.std.proofs.lemmas.List.{append_assoc}
use Rattle.table_core.proofs.Members.{Is}
use Rattle.table_core.proofs.FewReads.{other_number}
use Rattle.table_core.proofs.Pasts.{replies_snoc, by_snoc}
use Rattle.table_core.proofs.Callings.{Has, IsDone, done_kept, has_after, done_silent, replied, reply_ends}
use Rattle.table_core.proofs.Weights.{count_by-ifs}
use Rattle.table_core.proofs.OneHistory.{in_replies, counts, count_none, count_few}

-- a call that was told something is done
pub done_after : (f : ℕ) → IsFirstCapacity f → (s : List Event) (r : Finished) → Is r (replies (empty f) s) → Has IsDone (after f s) r.call
done_after f h s r i =
    let g = in_replies s (empty f) r i in
    let all : Has IsDone (after f ((g.before ++ g.event ∷ []) ++ g.rest)) r.call = has_after IsDone done_kept f h (g.before ++ g.event ∷ []) g.rest r.call (reply_ends f g.before g.event r g.reply) in
    subst (λ t. Has IsDone (after f t) r.call) (append_assoc g.before (g.event ∷ []) g.rest ∙ sym g.split) all

-- it is told nothing more
told_nothing : (f : ℕ) → IsFirstCapacity f → (s : List Event) (x : Event) (n : ℕ) → Has IsDone (after f s) n → (o : Option Finished) → finishes (after f s) x ≡ o → counts n (option_to_list o) ≡ 0
told_nothing f h s x n d None e = refl
told_nothing f h s x n d (Some q) e =
    let other : (q.call == n) ≡ false = other_number q.call n (λ k. (let t = replied f s x q e in done_silent f h s n x t.call t.found d t.taken (t.number ∙ k))) in
    rw other refl

one_option : (o : Option Finished) → length (option_to_list o) ≤ 1
one_option None = omega arith
one_option (Some q) = omega arith

once_more : (f : ℕ) → IsFirstCapacity f → (n : ℕ) (s : List Event) (x : Event) → counts n (replies (empty f) s) ≤ 1 → (counts n (replies (empty f) s) ≡ 0) ⊎ ((r : Finished) × Is r (replies (empty f) s) × (r.call ≡ n)) → counts n (replies (empty f) s) + counts n (option_to_list (finishes (after f s) x)) ≤ 1
once_more f h n s x one (inl z) = omega (arith, z, count_few n (option_to_list (finishes (after f s) x)), one_option (finishes (after f s) x))
once_more f h n s x one (inr k) =
    let d : Has IsDone (after f s) n = subst (λ m. Has IsDone (after f s) m) k.2 (done_after f h s k.0 k.1) in
    omega (arith, one, told_nothing f h s x n d (finishes (after f s) x) refl)

once_snoc : (f : ℕ) → IsFirstCapacity f → (n : ℕ) (s : List Event) (x : Event) → counts n (replies (empty f) s) ≤ 1 → counts n (replies (empty f) (s ++ x ∷ [])) ≤ 1
once_snoc f h n s x one = rw (replies_snoc f s x, weigh-append) (once_more f h n s x one (count_none n (replies (empty f) s)))

pub told_once : (f : ℕ) (s : List Event) (n : ℕ) → IsFirstCapacity f → ToldOnce f s n
told_once f s n h =
    let once : counts n (replies (empty f) s) ≤ 1 = by_snoc (λ t. counts n (replies (empty f) t) ≤ 1) (omega arith) (once_snoc f h n) s in
    omega (arith, once, count_by-ifs (λ (r : Finished). r.call == n) (replies (empty f) s))
