-- Where a value goes that is handed in: into the account, to what was found, or to what was refused.
use Rattle.std.proofs.Common.{◌≡◌, refl, length, ℕ, suc, All, arith, List, [], ◌∷◌, ◌++◌, Bool, map, sym, subst, ap, ◌∙◌}
use Rattle.std.specs.List.Sorted.{IsPermutation}
use Rattle.std.proofs.lemmas.List.Sorted.{IsPermutation-trans, IsPermutation-append_left}
use Rattle.std.proofs.lemmas.List.{map-append}
use Rattle.table_terms.specs.Laws.{AllApart}
use Rattle.table_numbered.specs.Words.{numbered}
use Rattle.table_numbered.specs.History.{History}
use Rattle.table_numbered.specs.declared.event.Numbered.{Numbered}
use Rattle.shared_set.specs.Accounts.{AccountView, placed_values, ComeOut}
use Rattle.shared_set.specs.Known.{SharedView}
use Rattle.demo_examples.specs.Accounts.{AreFound, IsWork, AreAccounted}
use Rattle.demo_examples.specs.declared.accounts.Work.{Work}
use Rattle.demo_examples.proofs.Found.{found_comes_out}
use Rattle.demo_examples.proofs.Moved.{behind_first, behind_second, gains, three_together}

module _ {V : Type 0} where
  abbrev values : List (Numbered V) → List V
  values es = map (λ (e : Numbered V). e.value) es

  -- a value with a receipt
  pub into_account : (old new : AccountView V) (k : ℕ) (v w : V) (back : List V) → new.placed ≡ old.placed ++ numbered k w ∷ [] → w ≡ v → IsPermutation (v ∷ (placed_values old ++ back)) (placed_values new ++ back)
  into_account old new k v w back more is = subst (λ (vs : List V). IsPermutation (v ∷ (placed_values old ++ back)) (vs ++ back))
      (sym (ap values more ∙ map-append (λ (e : Numbered V). e.value) old.placed (numbered k w ∷ []) ∙ ap (λ (x : V). placed_values old ++ x ∷ []) is)) (behind_first (placed_values old) back v)

  -- a value that was found
  pub to_found : (old new : AccountView V) (found refused now : List V) (v w : V) → new.placed ≡ old.placed → now ≡ found ++ w ∷ [] → w ≡ v → IsPermutation (v ∷ (placed_values old ++ (found ++ refused))) (placed_values new ++ (now ++ refused))
  to_found old new found refused now v w kept more is = subst (λ (vs : List V). IsPermutation (v ∷ (placed_values old ++ (found ++ refused))) (vs ++ (now ++ refused))) (sym (ap values kept))
      (subst (λ (vs : List V). IsPermutation (v ∷ (placed_values old ++ (found ++ refused))) (placed_values old ++ (vs ++ refused))) (sym (more ∙ ap (λ (x : V). found ++ x ∷ []) is))
      (gains (placed_values old) (found ++ refused) ((found ++ v ∷ []) ++ refused) v (behind_first found refused v)))

  -- a value that was refused
  pub to_refused : (placed found refused now : List V) (v w : V) → now ≡ refused ++ w ∷ [] → w ≡ v → IsPermutation (v ∷ (placed ++ (found ++ refused))) (placed ++ (found ++ now))
  to_refused placed found refused now v w more is = subst (λ (vs : List V). IsPermutation (v ∷ (placed ++ (found ++ refused))) (placed ++ (found ++ vs))) (sym (more ∙ ap (λ (x : V). refused ++ x ∷ []) is))
      (gains placed (found ++ refused) (found ++ (refused ++ v ∷ [])) v (behind_second found refused v))

  -- what was placed, found and refused is put together
  pub joined : (mine theirs both : AccountView V) (found more_found all_found refused more_refused all_refused : List V) → both.placed ≡ mine.placed ++ theirs.placed → all_found ≡ found ++ more_found → all_refused ≡ refused ++ more_refused
      → IsPermutation ((placed_values mine ++ (found ++ refused)) ++ (placed_values theirs ++ (more_found ++ more_refused))) (placed_values both ++ (all_found ++ all_refused))
  joined mine theirs both found more_found all_found refused more_refused all_refused is found_is refused_is =
      let before : List V = (placed_values mine ++ (found ++ refused)) ++ (placed_values theirs ++ (more_found ++ more_refused)) in
      subst (λ (vs : List V). IsPermutation before (placed_values both ++ (vs ++ all_refused))) (sym found_is)
      (subst (λ (vs : List V). IsPermutation before (placed_values both ++ ((found ++ more_found) ++ vs))) (sym refused_is)
      (subst (λ (vs : List V). IsPermutation before (vs ++ ((found ++ more_found) ++ (refused ++ more_refused)))) (sym (ap values is ∙ map-append (λ (e : Numbered V). e.value) mine.placed theirs.placed))
      (three_together (placed_values mine) found refused (placed_values theirs) more_found more_refused)))

pub no_items : {X : Type 0} (xs : List X) → length xs ≡ 0 → xs ≡ []
no_items [] none = refl
no_items (x ∷ xs) none = absurd (omega (arith, none))

module _ {V : Type 0} (same : V → V → Bool) where
  -- what holds of each of a list holds of those behind the first
  pub of_one_set : {L A : Type 0} (set : SharedView) (w : Work V L A) (rest : List (Work V L A)) → All (λ (x : Work V L A). IsWork same set x) (w ∷ rest) → All (λ (x : Work V L A). IsWork same set x) rest
  of_one_set set w rest each k d lt = each (suc k) d (omega arith)

  -- what was placed comes out, and with what was found and refused it is what was handed in
  pub accounted : (given placed found refused out : List V) (log : History (Numbered V)) → IsPermutation given (placed ++ (found ++ refused)) → IsPermutation placed out → AllApart same out → AreFound same log found → ComeOut log out
      → AreAccounted same given out found refused
  accounted given placed found refused out log moved settled apart known come = record {
    all = IsPermutation-trans given (placed ++ (found ++ refused)) (out ++ (found ++ refused)) moved (IsPermutation-append_left (found ++ refused) placed out settled);
    apart = apart;
    same_out = found_comes_out same log found out known come;
  }
