-- What the steps trade that take slots of a counter. Assumes `Logic`.
use Rattle.std.proofs.Common.{◌≡◌, ℕ, zero, suc, ◌+◌, List, [], ◌∷◌, ◌++◌, take, drop as drop_of, inl, inr, refl, sym, subst, ap, ◌∙◌, arith, take-append-drop}
use Rattle.std.specs.Prelude.{None}
use seplogic.Ra.Ura.{Ura}
use base.Logic.{SProp, ent, sep, wand, all, upd, upd_i}
use base.Fml.{Fml}
use base.Shift.{Keyless}
use types.Logic.{Logic, sem}
use types.Kit.{‵, ◌$◌, ◌∵◌, !, qed, by, move, keep, each, assume, suffices, done, use1, use2, split, ◌⊛◌}
use denote.RattleType.{RattleType}
use denote.Steps.{nothing}
use Rattle.logbook.specs.Kept.{offer_owns}
use Rattle.table_slab.specs.Rights.{rooms}
use Rattle.table_slab.specs.declared.counter.rule.Event.{Event}
use Rattle.table_slab.specs.declared.counter.rule.Event.TheVariants.{Taken, Left}
use Rattle.table_slab.specs.Counting.{total, lying, before, part, said_by, slots_of, Moved, left, gained}
use Rattle.table_slab.proofs.Tokens.{rooms_split, rooms_join}
use Rattle.table_slab.proofs.Counted.{total_taken, total_left, lying_taken, lying_left}

abbrev no_names : List ℕ
no_names = []

drop_none : (k : ℕ) → drop_of k no_names ≡ no_names
drop_none zero = refl
drop_none (suc k) = refl

-- what is left past some more is past them all
drop_more : (m n : ℕ) (xs : List ℕ) → drop_of n (drop_of m xs) ≡ drop_of (m + n) xs
drop_more zero n xs = ap (λ (k : ℕ). drop_of k xs) (omega arith)
drop_more (suc m) n [] = drop_none n ∙ sym (drop_none (suc m + n))
drop_more (suc m) n (x ∷ xs) = let e : suc m + n ≡ suc (m + n) = omega arith in drop_more m n xs ∙ ap (λ (k : ℕ). drop_of k (x ∷ xs)) (sym e)

module _ {M : Type 1} {𝓤 : Ura M} (𝓛 : Logic 𝓤) (R : RattleType) (names : List ℕ) where
  abbrev Pr : Type 2
  Pr = SProp 𝓤

  abbrev ◌⊢◌ : Pr → Pr → Type 1
  P ⊢ Q = ent 𝓤 P Q

  abbrev ◌∗◌ : Pr → Pr → Pr
  P ∗ Q = sep 𝓤 P Q

  abbrev ⟦◌⟧ : Fml → Pr
  ⟦ P ⟧ = sem 𝓛 P

  infix 26 ◌⊢◌
  infixr 35 ◌∗◌
  abbrev K : List Event → Fml
  K = left R names

  abbrev back : List Event → List ℕ
  back log = said_by names (lying 0 log)

  abbrev unused : List Event → List ℕ
  unused log = drop_of (total log) names

  parted : (n : ℕ) (xs : List ℕ) → ⟦ rooms R xs ⟧ ⊢ ⟦ rooms R (take n xs) ⟧ ∗ ⟦ rooms R (drop_of n xs) ⟧
  parted n xs = subst (λ (ds : List ℕ). ⟦ rooms R ds ⟧ ⊢ ⟦ rooms R (take n xs) ⟧ ∗ ⟦ rooms R (drop_of n xs) ⟧) (take-append-drop n xs) (rooms_split 𝓛 R (take n xs) (drop_of n xs))

  module _ (xs : List Event) where
    cut : (n : ℕ) → ⟦ K xs ⟧ ⊢ ⟦ K (xs ++ Taken n ∷ []) ⟧ ∗ ⟦ rooms R (part names (total xs) n) ⟧
    cut n = let rest : List ℕ = unused xs in let far : total xs + n ≡ total (xs ++ Taken n ∷ []) = sym (total_taken xs n) in
        let fewer : drop_of n rest ≡ unused (xs ++ Taken n ∷ []) = drop_more (total xs) n names ∙ ap (λ (k : ℕ). drop_of k names) far in
        let after : back xs ++ drop_of n rest ≡ back (xs ++ Taken n ∷ []) ++ unused (xs ++ Taken n ∷ []) = λ i. said_by names (sym (lying_taken 0 xs n) i) ++ fewer i in
        subst (λ (ds : List ℕ). ⟦ K xs ⟧ ⊢ ⟦ rooms R ds ⟧ ∗ ⟦ rooms R (take n rest) ⟧) after
        (qed 𝓛 (‵ (K xs) ∷ []) ∵ use1 𝓛 (‵ (rooms R (back xs)) ⊛ ‵ (rooms R rest)) (rooms_split 𝓛 R (back xs) rest) $ split ! $ move ! (1 ∷ []) $
        use1 𝓛 (‵ (rooms R (take n rest)) ⊛ ‵ (rooms R (drop_of n rest))) (parted n rest) $ split ! $ move ! (2 ∷ 1 ∷ []) $
        use2 𝓛 (‵ (rooms R (back xs ++ drop_of n rest))) (rooms_join 𝓛 R (back xs) (drop_of n rest)) $ done !)

    swap : (w : ℕ) → ⟦ K xs ⟧ ∗ ⟦ rooms R (said_by names w) ⟧ ⊢ ⟦ K (xs ++ Left w ∷ []) ⟧ ∗ ⟦ rooms R (back xs) ⟧
    swap w = let rest : List ℕ = unused xs in
        let after : said_by names w ++ rest ≡ back (xs ++ Left w ∷ []) ++ unused (xs ++ Left w ∷ []) = λ i. said_by names (sym (lying_left 0 xs w) i) ++ drop_of (sym (total_left xs w) i) names in
        subst (λ (ds : List ℕ). ⟦ K xs ⟧ ∗ ⟦ rooms R (said_by names w) ⟧ ⊢ ⟦ rooms R ds ⟧ ∗ ⟦ rooms R (back xs) ⟧) after
        (qed 𝓛 (‵ (K xs) ∷ ‵ (rooms R (said_by names w)) ∷ []) ∵ use1 𝓛 (‵ (rooms R (back xs)) ⊛ ‵ (rooms R rest)) (rooms_split 𝓛 R (back xs) rest) $ split ! $ move ! (2 ∷ 1 ∷ []) $
        use2 𝓛 (‵ (rooms R (said_by names w ++ rest))) (rooms_join 𝓛 R (said_by names w) rest) $ done !)

  -- what an update gives up: the slots that it leaves in the counter
  abbrev given : Event → List ℕ
  given (Taken n) = []
  given (Left w) = said_by names w

  traded : (ask : Event) (xs : List Event) → ⟦ K xs ⟧ ∗ ⟦ rooms R (given ask) ⟧ ⊢ ⟦ K (xs ++ ask ∷ []) ⟧ ∗ ⟦ rooms R (slots_of names (ask ∷ []) (before ask xs)) ⟧
  traded (Taken n) xs = qed 𝓛 (‵ (K xs) ∷ ‵ (rooms R []) ∷ []) ∵ keep ! (0 ∷ []) $ by ! (cut xs n)
  traded (Left w) xs = swap xs w

  module _ (ask : Event) where
    abbrev Gain : ℕ → Fml
    Gain = gained R names (ask ∷ [])

    abbrev Given : Fml
    Given = rooms R (given ask)

    runs : (xs ys : List Event) (r : ℕ) → Moved ask xs ys r → ⟦ K xs ⟧ ∗ ⟦ Given ⟧ ⊢ upd 𝓤 (⟦ K ys ⟧ ∗ ⟦ Gain r ⟧)
    runs xs ys r (inl e) = subst (λ (z : List Event × ℕ). ⟦ K xs ⟧ ∗ ⟦ Given ⟧ ⊢ upd 𝓤 (⟦ K z.0 ⟧ ∗ ⟦ Gain z.1 ⟧)) (λ i. (sym e.1 i, sym e.0 i))
        (qed 𝓛 (‵ (K xs) ∷ ‵ Given ∷ []) ∵ suffices ! _ (upd_i 𝓤 (⟦ K (xs ++ ask ∷ []) ⟧ ∗ ⟦ Gain (suc (before ask xs)) ⟧)) $ by ! (traded ask xs))
    runs xs ys r (inr e) = subst (λ (z : List Event × ℕ). ⟦ K xs ⟧ ∗ ⟦ Given ⟧ ⊢ upd 𝓤 (⟦ K z.0 ⟧ ∗ ⟦ Gain z.1 ⟧)) (λ i. (sym e.1 i, sym e.0 i))
        (qed 𝓛 (‵ (K xs) ∷ ‵ Given ∷ []) ∵ suffices ! _ (upd_i 𝓤 (⟦ K xs ⟧ ∗ ⟦ Gain 0 ⟧)) $ keep ! (0 ∷ []) $ nothing ! $ move ! (1 ∷ 0 ∷ []) $ done !)

    abbrev Moves : List Event × List Event × ℕ → Pr
    Moves z = all 𝓤 (λ (_ : Moved ask z.0 z.1 z.2). wand 𝓤 ⟦ K z.0 ⟧ (upd 𝓤 (⟦ K z.1 ⟧ ∗ ⟦ Gain z.2 ⟧)))

    pub offers : ⟦ Given ⟧ ⊢ ⟦ offer_owns K (Moved ask) Gain None ⟧
    offers = qed 𝓛 (‵ Given ∷ []) ∵ each ! Moves (λ z. each ! (λ (_ : Moved ask z.0 z.1 z.2). wand 𝓤 ⟦ K z.0 ⟧ (upd 𝓤 (⟦ K z.1 ⟧ ∗ ⟦ Gain z.2 ⟧))) (λ m. assume ! (‵ (K z.0)) $ by ! (runs z.0 z.1 z.2 m)))

-- the rights to slots name no token of one thread
module _ (R : RattleType) where
  rooms_quiet : (γs : List ℕ) → Keyless (rooms R γs)
  rooms_quiet [] = tt
  rooms_quiet (γ ∷ γs) = ((λ ε. (tt, tt)), rooms_quiet γs)

  pub quiet : (names : List ℕ) (es : List Event) → Keyless (left R names es)
  quiet names es = rooms_quiet (said_by names (lying 0 es) ++ drop_of (total es) names)
