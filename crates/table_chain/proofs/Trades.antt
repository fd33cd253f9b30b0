-- What the step that shows a value trades, and what the rights that were given up say of a history. Assumes `Logic`.
--     has_earlier    what stands for good of an entry may be had, and that no two slots have one number
--     offers    the right to a number is an update that shows what lies there
use Rattle.std.proofs.Common.{◌≡◌, ℕ, zero, suc, ◌<◌, ◌⊎◌, List, [], ◌∷◌, ◌++◌, length, inl, inr, refl, ap, ◌∙◌, sym, subst, arith}
use Rattle.std.specs.Prelude.{Contains, Option, Some, None, slice_index_or}
use seplogic.Ra.Ura.{Ura}
use base.Logic.{SProp, ent, sep, wand, all, upd, upd_i, id⊢, via, guard, guard_i, never, never_e}
use base.Fml.{Fml, ftrue}
use types.Logic.{Logic, sem}
use types.Kit.{‵, ◌⊛◌, ◌$◌, ◌∵◌, !, qed, by, move, split, fsplit, fjoin, frame, each, assume, suffices, use1, use2, given, learn, check, rewrite, done}
use native.Mathlib.Decide.{ℕ_discrete}
use denote.RattleType.{RattleType}
use denote.Steps.{nothing}
use Rattle.logbook.specs.Kept.{offer_owns}
use Rattle.table_slab.specs.Shelved.{slab_of, right, standing}
use Rattle.table_slab.specs.Spent.{spent}
use Rattle.table_slab.proofs.Spent.{right_spends, spent_stands, spents_differ}
use Rattle.table_chain.specs.declared.event.Event.{Event}
use Rattle.table_chain.specs.declared.event.Stored.{Stored}
use Rattle.table_chain.specs.declared.event.Stored.TheVariants.{Shown, End}
use Rattle.std.proofs.lemmas.List.Elements.{Contains-append_left}
use mathlib.Core.List.{IsPrefix}
use Rattle.table_chain.specs.History.{event, Has, NumbersDiffer, Moved}
use Rattle.table_chain.specs.Kept.{kept_in, all_kept, traded}

-- an element of a list is its first or one of the others
first_or_other : {X : Type 0} (x : X) (xs : List X) (v : X) → Contains (x ∷ xs) v → (x ≡ v) ⊎ Contains xs v
first_or_other x xs v (zero, within, is) = inl is
first_or_other x xs v (suc k, within, is) = inr (k, omega arith, is)

-- what was stored is stored at each later time
pub later : {V : Type 0} (l m : List (Event V)) (p k : ℕ) (s : Stored V) → IsPrefix l m → Has l p k s → Has m p k s
later l m p k s on there = subst (λ (log : List (Event _)). Has log p k s) on.1 (Contains-append_left l on.0 (event p k (Some s)) there)

-- values that stand under different numbers
module _ {V : Type 0} where
  abbrev pub Apart : ℕ → Option (Stored V) → ℕ → Option (Stored V) → Type 0
  Apart j o k u = (f g : V) → o ≡ Some (Shown f) → u ≡ Some (Shown g) → j ≡ k → ⊥

  abbrev Against : Event V → List (Event V) → Type 0
  Against e [] = Unit {0}
  Against e (x ∷ es) = Apart e.number e.value x.number x.value × Against e es

  abbrev Pairwise : List (Event V) → Type 0
  Pairwise [] = Unit {0}
  Pairwise (x ∷ es) = Against x es × Pairwise es

  against_in : (e : Event V) (es : List (Event V)) (d : Event V) → Against e es → Contains es d → Apart e.number e.value d.number d.value
  against_in e [] d all there = absurd (let lt = there.1 in omega arith)
  against_in e (x ∷ es) d all there = elim (first_or_other x es d there) [
    | inl is ↦ subst (λ (y : Event V). Apart e.number e.value y.number y.value) is all.0
    | inr other ↦ against_in e es d all.1 other
  ]

  -- of two entries one comes first, or they are one
  numbers_differ : (es : List (Event V)) → Pairwise es → NumbersDiffer es
  numbers_differ [] all p q k f g one other = absurd (let lt = one.1 in omega arith)
  numbers_differ (z ∷ es) all p q k f g one other = let a : Event V = event p k (Some (Shown f)) in let b : Event V = event q k (Some (Shown g)) in elim (first_or_other z es a one) [
    | inl here ↦ elim (first_or_other z es b other) [
      | inl there ↦ sym (ap (λ (e : Event V). e.slot) here) ∙ ap (λ (e : Event V). e.slot) there
      | inr there ↦ absurd (against_in z es b all.0 there f g (ap (λ (e : Event V). e.value) here) refl (ap (λ (e : Event V). e.number) here))
    ]
    | inr here ↦ elim (first_or_other z es b other) [
      | inl there ↦ absurd (against_in z es a all.0 here g f (ap (λ (e : Event V). e.value) there) refl (ap (λ (e : Event V). e.number) there))
      | inr there ↦ numbers_differ es all.1 p q k f g here there
    ]
  ]

module _ {M : Type 1} {𝓤 : Ura M} (𝓛 : Logic 𝓤) (R : RattleType) (names : List ℕ) where
  open 𝓛 use {A}

  abbrev Pr : Type 2
  Pr = SProp 𝓤

  abbrev ◌⊢◌ : Pr → Pr → Type 1
  P ⊢ Q = ent 𝓤 P Q

  abbrev ◌∗◌ : Pr → Pr → Pr
  P ∗ Q = sep 𝓤 P Q

  abbrev ⟦◌⟧ : Fml → Pr
  ⟦ P ⟧ = sem 𝓛 P

  infix 26 ◌⊢◌
  infixr 35 ◌∗◌
  abbrev E : Type 0
  E = Event R.Denot

  abbrev K : List E → Fml
  K = all_kept R names

  abbrev One : E → Fml
  One e = kept_in R names e.number e.value

  -- what everyone may know of an entry
  abbrev pub known_in : ℕ → Option (Stored R.Denot) → Fml
  known_in k None = ftrue
  known_in k (Some (Shown x)) = standing R (slab_of names) k x
  known_in k (Some End) = ftrue

  abbrev Known : E → Fml
  Known e = known_in e.number e.value

  kept_known : (k : ℕ) (v : Option (Stored R.Denot)) → ⟦ kept_in R names k v ⟧ ⊢ ⟦ kept_in R names k v ⟧ ∗ ⟦ known_in k v ⟧
  kept_known k None = qed 𝓛 (‵ ftrue ∷ []) ∵ nothing ! $ done !
  kept_known k (Some (Shown x)) = spent_stands 𝓛 R (slab_of names) k x
  kept_known k (Some End) = qed 𝓛 (‵ ftrue ∷ []) ∵ nothing ! $ done !

  pushes : (es : List E) (e : E) → ⟦ K es ⟧ ∗ ⟦ One e ⟧ ⊢ ⟦ K (es ++ e ∷ []) ⟧
  pushes [] e = qed 𝓛 (‵ ftrue ∷ ‵ (One e) ∷ []) ∵ move ! (1 ∷ 0 ∷ []) $ fjoin ! $ done !
  pushes (x ∷ es) e = qed 𝓛 (‵ (K (x ∷ es)) ∷ ‵ (One e) ∷ []) ∵ fsplit ! $ move ! (1 ∷ 2 ∷ []) $ use2 𝓛 (‵ (K (es ++ e ∷ []))) (pushes es e) $ move ! (1 ∷ 0 ∷ []) $ fjoin ! $ done !

  has : (es : List E) (e : E) → Contains es e → ⟦ K es ⟧ ⊢ ⟦ K es ⟧ ∗ ⟦ Known e ⟧
  has [] e c = absurd (let lt = c.1 in omega arith)
  has (x ∷ es) e (zero, lt, is) = qed 𝓛 (‵ (K (x ∷ es)) ∷ []) ∵ fsplit ! $ use1 𝓛 (‵ (One x) ⊛ ‵ (Known x)) (kept_known x.number x.value) $ split ! $ move ! (0 ∷ 2 ∷ []) $ fjoin ! $ frame ! $
      by ! (subst (λ (y : E). ⟦ Known x ⟧ ⊢ ⟦ Known y ⟧) is (id⊢ 𝓤 ⟦ Known x ⟧))
  has (x ∷ es) e (suc k, lt, is) = qed 𝓛 (‵ (K (x ∷ es)) ∷ []) ∵ fsplit ! $ move ! (1 ∷ []) $ use1 𝓛 (‵ (K es) ⊛ ‵ (Known e)) (has es e (inner es e k lt is)) $ split ! $ move ! (2 ∷ 0 ∷ []) $ fjoin ! $ done !
    where
      inner : (fs : List E) (f : E) (j : ℕ) → suc j < suc (length fs) → slice_index_or fs j f ≡ f → Contains fs f
      inner fs f j l i = (j, omega arith, i)

  -- two values that stand are of different numbers
  shown_apart : (j k : ℕ) (f g : R.Denot) → Dec (j ≡ k) → ⟦ spent R (slab_of names) j f ⟧ ∗ ⟦ spent R (slab_of names) k g ⟧
      ⊢ guard 𝓤 (Apart j (Some (Shown f)) k (Some (Shown g))) (⟦ spent R (slab_of names) j f ⟧ ∗ ⟦ spent R (slab_of names) k g ⟧)
  shown_apart j k f g (no ne) = guard_i 𝓤 _ _ (λ _ _ _ _ is. ne is)
  shown_apart j k f g (yes is) = qed 𝓛 (‵ (spent R (slab_of names) j f) ∷ ‵ (spent R (slab_of names) k g) ∷ []) ∵ rewrite ! 1 (λ (n : ℕ). ‵ (spent R (slab_of names) n g)) (sym is) refl $
      by ! (via 𝓤 (never 𝓤) (spents_differ 𝓛 R (slab_of names) j f g) (never_e 𝓤 _))

  apart : (j : ℕ) (o : Option (Stored R.Denot)) (k : ℕ) (u : Option (Stored R.Denot)) → ⟦ kept_in R names j o ⟧ ∗ ⟦ kept_in R names k u ⟧
      ⊢ guard 𝓤 (Apart j o k u) (⟦ kept_in R names j o ⟧ ∗ ⟦ kept_in R names k u ⟧)
  apart j (Some (Shown f)) k (Some (Shown g)) = shown_apart j k f g (ℕ_discrete j k)
  apart j None k u = guard_i 𝓤 _ _ (λ f g o v is. absurd (cc o))
  apart j (Some End) k u = guard_i 𝓤 _ _ (λ f g o v is. absurd (cc o))
  apart j (Some (Shown f)) k None = guard_i 𝓤 _ _ (λ h g o v is. absurd (cc v))
  apart j (Some (Shown f)) k (Some End) = guard_i 𝓤 _ _ (λ h g o v is. absurd (cc v))

  against : (e : E) (es : List E) → ⟦ One e ⟧ ∗ ⟦ K es ⟧ ⊢ guard 𝓤 (Against e es) (⟦ One e ⟧ ∗ ⟦ K es ⟧)
  against e [] = guard_i 𝓤 _ _ tt
  against e (x ∷ es) = qed 𝓛 (‵ (One e) ∷ ‵ (K (x ∷ es)) ∷ []) ∵ move ! (1 ∷ []) $ fsplit ! $ move ! (2 ∷ 0 ∷ []) $
      use2 𝓛 (given (Apart e.number e.value x.number x.value) (‵ (One e) ⊛ ‵ (One x))) (apart e.number e.value x.number x.value) $ learn ! (λ first. split ! $ move ! (0 ∷ 2 ∷ []) $
      use2 𝓛 (given (Against e es) (‵ (One e) ⊛ ‵ (K es))) (against e es) $ learn ! (λ rest. split ! $
      -- [the entry; the others; the first of them]
      check ! (first, rest) $ frame ! $ move ! (1 ∷ 0 ∷ []) $ fjoin ! $ done !))

  pairwise : (es : List E) → ⟦ K es ⟧ ⊢ guard 𝓤 (Pairwise es) ⟦ K es ⟧
  pairwise [] = guard_i 𝓤 _ _ tt
  pairwise (x ∷ es) = qed 𝓛 (‵ (K (x ∷ es)) ∷ []) ∵ fsplit ! $ use2 𝓛 (given (Against x es) (‵ (One x) ⊛ ‵ (K es))) (against x es) $ learn ! (λ one. split ! $ move ! (1 ∷ []) $
      use1 𝓛 (given (Pairwise es) (‵ (K es))) (pairwise es) $ learn ! (λ rest. check ! (one, rest) $ move ! (1 ∷ 0 ∷ []) $ fjoin ! $ done !))

  -- of an entry of a later history what stands for good may be had, and that no two slots of an earlier one have one number
  pub has_earlier : (es fs : List E) (e : E) → IsPrefix es fs → Contains fs e → ⟦ K fs ⟧ ⊢ ⟦ K fs ⟧ ∗ guard 𝓤 (NumbersDiffer es) ⟦ Known e ⟧
  has_earlier es fs e on there = qed 𝓛 (‵ (K fs) ∷ []) ∵ use1 𝓛 (given (Pairwise fs) (‵ (K fs))) (pairwise fs) $ learn ! (λ all. use1 𝓛 (‵ (K fs) ⊛ ‵ (Known e)) (has fs e there) $ split ! $ frame ! $
      check ! (λ p q k f g a b. numbers_differ fs all p q k f g (later es fs p k (Shown f) on a) (later es fs q k (Shown g) on b)) $ done !)

  module _ (p k : ℕ) (x : R.Denot) where
    abbrev ask : E
    ask = event p k (Some (Shown x))

    abbrev Gain : ℕ → Fml
    Gain = traded R names (ask ∷ [])

    abbrev Right : Fml
    Right = right R (slab_of names) k (Some x)

    abbrev Spent : Fml
    Spent = spent R (slab_of names) k x

    runs : (xs ys : List E) (r : ℕ) → Moved ask xs ys r → ⟦ K xs ⟧ ∗ ⟦ Right ⟧ ⊢ upd 𝓤 (⟦ K ys ⟧ ∗ ⟦ Gain r ⟧)
    runs xs ys r (inl e) = subst (λ (z : List E × ℕ). ⟦ K xs ⟧ ∗ ⟦ Right ⟧ ⊢ upd 𝓤 (⟦ K z.0 ⟧ ∗ ⟦ Gain z.1 ⟧)) (λ i. (sym e.1 i, sym e.0 i))
        (qed 𝓛 (‵ (K xs) ∷ ‵ Right ∷ []) ∵ suffices ! _ (upd_i 𝓤 (⟦ K (xs ++ ask ∷ []) ⟧ ∗ ⟦ Gain 1 ⟧)) $ move ! (1 ∷ []) $ use1 𝓛 (‵ Spent) (right_spends 𝓛 R (slab_of names) k x) $ move ! (1 ∷ 0 ∷ []) $
        use2 𝓛 (‵ (K (xs ++ ask ∷ []))) (pushes xs ask) $ frame ! $ nothing ! $ done !)
    runs xs ys r (inr e) = subst (λ (z : List E × ℕ). ⟦ K xs ⟧ ∗ ⟦ Right ⟧ ⊢ upd 𝓤 (⟦ K z.0 ⟧ ∗ ⟦ Gain z.1 ⟧)) (λ i. (sym e.1 i, sym e.0 i)) (upd_i 𝓤 (⟦ K xs ⟧ ∗ ⟦ Right ⟧))

    abbrev Moves : List E × List E × ℕ → Pr
    Moves z = all 𝓤 (λ (_ : Moved ask z.0 z.1 z.2). wand 𝓤 ⟦ K z.0 ⟧ (upd 𝓤 (⟦ K z.1 ⟧ ∗ ⟦ Gain z.2 ⟧)))

    pub offers : ⟦ Right ⟧ ⊢ ⟦ offer_owns K (Moved ask) Gain None ⟧
    offers = qed 𝓛 (‵ Right ∷ []) ∵ each ! Moves (λ z. each ! (λ (_ : Moved ask z.0 z.1 z.2). wand 𝓤 ⟦ K z.0 ⟧ (upd 𝓤 (⟦ K z.1 ⟧ ∗ ⟦ Gain z.2 ⟧))) (λ m. assume ! (‵ (K z.0)) $ by ! (runs z.0 z.1 z.2 m)))

  module _ (p k : ℕ) where
    abbrev shut : E
    shut = event p k (Some End)

    closes_on : (xs ys : List E) (r : ℕ) → Moved shut xs ys r → ⟦ K xs ⟧ ∗ ⟦ ftrue ⟧ ⊢ upd 𝓤 (⟦ K ys ⟧ ∗ ⟦ ftrue ⟧)
    closes_on xs ys r (inl e) = subst (λ (z : List E). ⟦ K xs ⟧ ∗ ⟦ ftrue ⟧ ⊢ upd 𝓤 (⟦ K z ⟧ ∗ ⟦ ftrue ⟧)) (sym e.1)
        (qed 𝓛 (‵ (K xs) ∷ ‵ ftrue ∷ []) ∵ suffices ! _ (upd_i 𝓤 (⟦ K (xs ++ shut ∷ []) ⟧ ∗ ⟦ ftrue ⟧)) $ use2 𝓛 (‵ (K (xs ++ shut ∷ []))) (pushes xs shut) $ frame ! $ nothing ! $ done !)
    closes_on xs ys r (inr e) = subst (λ (z : List E). ⟦ K xs ⟧ ∗ ⟦ ftrue ⟧ ⊢ upd 𝓤 (⟦ K z ⟧ ∗ ⟦ ftrue ⟧)) (sym e.1) (upd_i 𝓤 (⟦ K xs ⟧ ∗ ⟦ ftrue ⟧))

    abbrev Shut : List E × List E × ℕ → Pr
    Shut z = all 𝓤 (λ (_ : Moved shut z.0 z.1 z.2). wand 𝓤 ⟦ K z.0 ⟧ (upd 𝓤 (⟦ K z.1 ⟧ ∗ ⟦ ftrue ⟧)))

    pub closes : ⟦ ftrue ⟧ ⊢ ⟦ offer_owns K (Moved shut) (λ (_ : ℕ). ftrue) None ⟧
    closes = qed 𝓛 (‵ ftrue ∷ []) ∵ each ! Shut (λ z. each ! (λ (_ : Moved shut z.0 z.1 z.2). wand 𝓤 ⟦ K z.0 ⟧ (upd 𝓤 (⟦ K z.1 ⟧ ∗ ⟦ ftrue ⟧))) (λ m. assume ! (‵ (K z.0)) $ by ! (closes_on z.0 z.1 z.2 m)))

-- what is kept beside a history names no token of one thread
module _ (R : RattleType) (names : List ℕ) where
  kept_quiet : (k : ℕ) (v : Option (Stored R.Denot)) → base.Shift.Keyless (kept_in R names k v)
  kept_quiet k None = tt
  kept_quiet k (Some (Shown x)) = λ at. (tt, ((λ ε. (tt, tt)), (λ is. tt)))
  kept_quiet k (Some End) = tt

  pub quiet : (es : List (Event R.Denot)) → base.Shift.Keyless (all_kept R names es)
  quiet [] = tt
  quiet (e ∷ es) = (kept_quiet e.number e.value, quiet es)
