-- How a walk begins, and what goes into a call at a word and comes back. Assumes `Logic`.
--     begins      at the machine values that the types of the parameters have told
--     goes_in, comes_back      for a call at a word a part of its lifetime's token stands in for half of that of the `&`
--     lends_block      by a `&` to the home
use Rattle.std.proofs.Common.{◌≡◌, ℕ, List, [], ◌∷◌, sym, subst}
use seplogic.Ra.Ura.{Ura}
use mir.Syntax.{Ty, Fn}
use mir.Val.{Val}
use base.Fraction.{left, right}
use base.Logic.{SProp, ent, sep, wand, apply∗}
use base.Fml.{Lft, Share, Fml, flft}
use base.Before.{before}
use prog.Model.{Model}
use prog.Wp.{Calls, Loops, WpFn}
use types.Logic.{Logic, sem}
use types.Kit.{Item, Step, step, Seq, ‵, ◌⊛◌, raw, some, later, mean, prop, allocs, params', runs, at_ret, ◌$◌, ◌∵◌, !, qed, move, split, split3, pick, show, use1, use2, use3, await, frame, updating, now, done}
use types.Run.{enter}
use contract.BorrowLft.{◌⊑◌}
use contract.Running.{Running}
use contract.Shared.{Lends-one}
use denote.RattleType.{RattleType}
use denote.RawPtr.{Ptr}
use denote.Param.Laws.{Laws}
use Rattle.table_cell.specs.Words.{freeable}
use Rattle.table_cell.proofs.Moves.{mine, Out, lend_out}

module _ {M : Type 1} {𝓤 : Ura M} {𝓛 : Logic 𝓤} {K : Type 0} {Γ : List (Item 𝓤)} where
  open 𝓛 use {H}

  pub begins : K → (fn : Fn) {C : Calls 𝓤 H} {Λ : Loops 𝓤 H} {Post : Val → SProp 𝓤} {passed told : List Val} → passed ≡ told
      → Step K 𝓛 Γ (allocs fn.locals (λ E. params' E told (runs C Λ E fn.body (at_ret E Post)))) Γ (prop (WpFn 𝓤 H C Λ fn passed Post))
  begins t fn {C} {Λ} {Post} {passed} {told} is = step (λ walk. subst (λ (us : List Val). Seq K 𝓛 Γ (prop (WpFn 𝓤 H C Λ fn us Post))) (sym is) (enter t C Λ fn told Post $ walk))

module _ {M : Type 1} {𝓤 : Ura M} (𝓛 : Logic 𝓤) (𝓜 : Model 𝓤 𝓛.H) (𝓡 : Running 𝓤 𝓛.H 𝓜) (κ α : Lft) (q : Share) where
  open 𝓛 use {H, A}

  abbrev pub Owed : Share → SProp 𝓤
  Owed s = wand 𝓤 (A.lft α s) (H.⇛ (A.lft κ (right q)))

  abbrev pub In : Share → Item 𝓤
  In s = ‵ (flft κ (left q)) ⊛ ‵ (flft α s) ⊛ raw (Owed s)

  pub goes_in : ent 𝓤 (sep 𝓤 (sem 𝓛 (before κ α)) (A.lft κ q)) (H.⇛ (mean 𝓛 (some In)))
  goes_in = qed 𝓛 (‵ (before κ α) ∷ ‵ (flft κ q) ∷ []) ∵ updating ! $ move ! (1 ∷ []) $ use1 𝓛 (‵ (flft κ (left q)) ⊛ ‵ (flft κ (right q))) (𝓛.lfts.lft_split κ q) $ split ! $
      move ! (2 ∷ 1 ∷ []) $ use2 𝓛 (later (some (λ (s : Share). ‵ (flft α s) ⊛ raw (Owed s)))) (Lends-one 𝓛 𝓜 𝓡 κ α (right q)) $ await ! tt $ pick ! (λ s. split ! $
      now ! $ show ! (λ (r : Share). mean 𝓛 (In r)) s $ move ! (2 ∷ 0 ∷ 1 ∷ []) $ frame ! $ frame ! $ done !)

  pub comes_back : (s : Share) → ent 𝓤 (mean 𝓛 (In s)) (H.⇛ (A.lft κ q))
  comes_back s = qed 𝓛 (‵ (flft κ (left q)) ∷ ‵ (flft α s) ∷ raw (Owed s) ∷ []) ∵ updating ! $ move ! (1 ∷ 2 ∷ []) $
      use2 𝓛 (later (‵ (flft κ (right q)))) (apply∗ 𝓤 (A.lft α s) (H.⇛ (A.lft κ (right q)))) $ await ! tt $ move ! (1 ∷ 0 ∷ []) $
      use2 𝓛 (‵ (flft κ q)) (𝓛.lfts.lft_join κ q) $ now ! $ done !

-- a block is lent for its home by a `&` to the home, and its setter can still take it back
module _ {M : Type 1} {𝓤 : Ura M} (𝓛 : Logic 𝓤) (𝓜 : Model 𝓤 𝓛.H) (𝓡 : Running 𝓤 𝓛.H 𝓜) (R : RattleType) (L : Laws R) (k : Ty → Ptr → Fml) (h : ℕ) where
  open 𝓛 use {H, A}

  module _ (κ : Lft) (q : Share) (μ : Lft) (r : Share) (p : Ptr) (x : R.Denot) where
    abbrev pub LentOut : Item 𝓤
    LentOut = some (λ (ν : ℕ). ‵ (mine 𝓛 R L k h p x ν) ⊛ ‵ (flft κ q) ⊛ ‵ (flft μ r))

    pub lends_block : μ ⊑ R.lives → ent 𝓤 (sep 𝓤 (sem 𝓛 (before κ (h ∷ []))) (sep 𝓤 (A.lft κ q) (sep 𝓤 (sem 𝓛 (freeable R k p x)) (A.lft μ r)))) (H.⇛ (mean 𝓛 LentOut))
    lends_block within = let Back : SProp 𝓤 = H.⇛ (A.lft κ q) in
        qed 𝓛 (‵ (before κ (h ∷ [])) ∷ ‵ (flft κ q) ∷ ‵ (freeable R k p x) ∷ ‵ (flft μ r) ∷ []) ∵ updating ! $
        use2 𝓛 (later (some (λ (s : Share). ‵ (flft (h ∷ []) s) ⊛ raw (wand 𝓤 (A.lft (h ∷ []) s) Back)))) (Lends-one 𝓛 𝓜 𝓡 κ (h ∷ []) q) $ await ! tt $ pick ! (λ s. split ! $
        -- [the home's token; the way back; the block; μ's token]
        move ! (2 ∷ 0 ∷ 3 ∷ []) $ use3 𝓛 (later (Out 𝓛 R L k h s μ r p x)) (lend_out 𝓛 R L k h s μ r within p x) $ await ! tt $ pick ! (λ ν. split3 ! $
        move ! (1 ∷ 3 ∷ []) $ use2 𝓛 (later (‵ (flft κ q))) (apply∗ 𝓤 (A.lft (h ∷ []) s) Back) $ await ! tt $ now ! $
        show ! (λ (i : ℕ). mean 𝓛 (‵ (mine 𝓛 R L k h p x i) ⊛ ‵ (flft κ q) ⊛ ‵ (flft μ r))) ν $ move ! (1 ∷ []) $ frame ! $ done !))
