-- What was found is known, and comes out.
use Rattle.std.proofs.Common.{◌≡◌, ℕ, zero, suc, Bool, List, [], ◌∷◌, ◌++◌, sym, subst, ap, ◌∙◌, arith, inl, inr}
use Rattle.std.specs.Prelude.{Contains}
use Rattle.std.proofs.lemmas.List.Elements.{Contains-append_cases}
use Rattle.table_numbered.specs.Words.{numbered}
use Rattle.table_numbered.specs.History.{History, IsEntry}
use Rattle.table_numbered.specs.Generations.{Passes}
use Rattle.table_numbered.specs.declared.event.Numbered.{Numbered}
use Rattle.shared_set.specs.Accounts.{ComeOut}
use Rattle.shared_set.specs.Known.{Keeps, SomePasses}
use Rattle.demo_examples.specs.Accounts.{AreFound, HasSame}

module _ {V : Type 0} (same : V → V → Bool) where
  pub found_on : (old new : History (Numbered V)) (found : List V) → Keeps old new → AreFound same old found → AreFound same new found
  found_on old new found kept known v among = let it = known v among in (it.0, it.1, (it.2.0, kept (numbered it.0 it.1) it.2.1))

  one_found : (log : History (Numbered V)) (v : V) → SomePasses (same v) (IsEntry log) → AreFound same log (v ∷ [])
  one_found log v there w (zero, within, is) = subst (λ (x : V). SomePasses (same x) (IsEntry log)) is there
  one_found log v there w (suc i, within, is) = absurd (omega (arith, within))

  both_found : (log : History (Numbered V)) (found more : List V) → AreFound same log found → AreFound same log more → AreFound same log (found ++ more)
  both_found log found more known known' v among = elim (Contains-append_cases found more v among) [
    | inl mine ↦ known v mine
    | inr theirs ↦ known' v theirs
  ]

  -- one more is found, and an equal entry is known
  pub found_more : (old new : History (Numbered V)) (found now : List V) (v w : V) {k : ℕ} {e : V} → now ≡ found ++ w ∷ [] → w ≡ v → Keeps old new → Passes (same v) (IsEntry new) k e → AreFound same old found → AreFound same new now
  found_more old new found now v w {k} {e} more is kept passed known = subst (AreFound same new) (sym (more ∙ ap (λ (x : V). found ++ x ∷ []) is))
      (both_found new found (v ∷ []) (found_on old new found kept known) (one_found new v (k, e, passed)))

  -- what two have found is known to who knows what both knew
  pub found_by_both : (mine theirs both : History (Numbered V)) (found more all : List V) → all ≡ found ++ more → Keeps mine both → Keeps theirs both → AreFound same mine found → AreFound same theirs more → AreFound same both all
  found_by_both mine theirs both found more all is kept kept' known known' =
      subst (AreFound same both) (sym is) (both_found both found more (found_on mine both found kept known) (found_on theirs both more kept' known'))

  -- for each that was found the same one comes out
  pub found_comes_out : (log : History (Numbered V)) (found out : List V) → AreFound same log found → ComeOut log out → (v : V) → Contains found v → HasSame same out v
  found_comes_out log found out known come v among = let it = known v among in (it.1, come (numbered it.0 it.1) it.2.1, it.2.0)
