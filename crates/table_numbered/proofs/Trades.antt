-- What the step that publishes trades. Assumes `Logic`.
--     has       what is kept of an entry of a history may be had
--     offers    the right to a number is an update that publishes it
use Rattle.std.proofs.Common.{◌≡◌, ℕ, zero, suc, ◌<◌, List, [], ◌∷◌, ◌++◌, length, inl, inr, refl, ap, ◌∙◌, sym, subst, arith}
use Rattle.std.specs.Prelude.{Contains, Option, Some, None, slice_index_or}
use seplogic.Ra.Ura.{Ura}
use base.Logic.{SProp, ent, sep, wand, all, upd, upd_i, id⊢, emp, via, guard}
use base.Fml.{Fml, ftrue}
use types.Logic.{Logic, sem}
use types.Kit.{‵, raw, ◌⊛◌, ◌$◌, ◌∵◌, !, qed, by, move, drop, split, fsplit, fjoin, frame, each, assume, suffices, use1, use2, given, learn, check, rewrite, done}
use contract.Monad.{fact, fact_i, fact_mono}
use native.Mathlib.Decide.{ℕ_discrete}
use Rattle.table_slab.proofs.Shelved.{standing_twice, standings_agree}
use Rattle.table_slab.proofs.Spent.{right_spends, spent_stands}
use Rattle.table_numbered.proofs.Apart.{first_or_other}
use denote.RattleType.{RattleType}
use denote.Steps.{nothing, heard}
use Rattle.logbook.specs.Kept.{offer_owns}
use Rattle.table_slab.specs.Slabs.{SlabView}
use Rattle.table_slab.specs.Shelved.{slab_of, right, standing}
use Rattle.table_slab.specs.Spent.{spent}
use Rattle.table_numbered.specs.declared.event.Event.{Event}
use Rattle.table_numbered.specs.declared.event.Stored.{Stored}
use Rattle.table_numbered.specs.declared.event.Stored.TheVariants.{Entry, Closed}
use Rattle.table_numbered.specs.declared.event.Numbered.{Numbered}
use Rattle.table_numbered.specs.Words.{numbered}
use Rattle.std.proofs.lemmas.List.Elements.{Contains-append_left}
use mathlib.Core.List.{IsPrefix}
use Rattle.table_numbered.specs.History.{event, Has, Stands, OneValue, Moved}
use Rattle.table_numbered.specs.Kept.{kept_in, all_kept, traded}

-- what a history says once
abbrev pub Happening : Type 0 → Type 0
Happening V = Event (Stored (Numbered V))

-- what an entry is made of
module _ {V : Type 0} where
  abbrev or_entry : Numbered V → Option (Stored (Numbered V)) → Numbered V
  or_entry d None = d
  or_entry d (Some Closed) = d
  or_entry d (Some (Entry e)) = e

  number_of : (e : Numbered V) (k : ℕ) (x : V) → Some (Entry e) ≡ Some (Entry (numbered k x)) → e.number ≡ k
  number_of e k x is = ap (λ (o : Option (Stored (Numbered V))). (or_entry e o).number) is

  value_of : (e : Numbered V) (k : ℕ) (x : V) → Some (Entry e) ≡ Some (Entry (numbered k x)) → e.value ≡ x
  value_of e k x is = ap (λ (o : Option (Stored (Numbered V))). (or_entry e o).value) is

  abbrev or_asked : Numbered V → List (Happening V) → Numbered V
  or_asked d [] = d
  or_asked d (e ∷ es) = or_entry d e.value

  -- what was asked for tells the value
  pub same_ask : (p k : ℕ) (x y : V) → event p (Some (Entry (numbered k x))) ∷ [] ≡ event p (Some (Entry (numbered k y))) ∷ [] → x ≡ y
  same_ask p k x y is = ap (λ (es : List (Happening V)). (or_asked (numbered k x) es).value) is

module _ {M : Type 1} {𝓤 : Ura M} (𝓛 : Logic 𝓤) (R : RattleType) (names : List ℕ) where
  open 𝓛 use {A}

  abbrev Pr : Type 2
  Pr = SProp 𝓤

  abbrev ◌⊢◌ : Pr → Pr → Type 1
  P ⊢ Q = ent 𝓤 P Q

  abbrev ◌∗◌ : Pr → Pr → Pr
  P ∗ Q = sep 𝓤 P Q

  abbrev ⟦◌⟧ : Fml → Pr
  ⟦ P ⟧ = sem 𝓛 P

  infix 26 ◌⊢◌
  infixr 35 ◌∗◌
  abbrev E : Type 0
  E = Happening R.Denot

  abbrev K : List E → Fml
  K = all_kept R names

  abbrev One : E → Fml
  One e = kept_in R names e.value

  abbrev s : SlabView
  s = slab_of names

  kept_twice : (v : Option (Stored (Numbered R.Denot))) → ⟦ kept_in R names v ⟧ ⊢ ⟦ kept_in R names v ⟧ ∗ ⟦ kept_in R names v ⟧
  kept_twice None = qed 𝓛 (‵ ftrue ∷ []) ∵ nothing ! $ done !
  kept_twice (Some (Entry e)) = standing_twice 𝓛 R s e.number e.value
  kept_twice (Some Closed) = qed 𝓛 (‵ ftrue ∷ []) ∵ nothing ! $ done !

  pushes : (es : List E) (e : E) → ⟦ K es ⟧ ∗ ⟦ One e ⟧ ⊢ ⟦ K (es ++ e ∷ []) ⟧
  pushes [] e = qed 𝓛 (‵ ftrue ∷ ‵ (One e) ∷ []) ∵ move ! (1 ∷ 0 ∷ []) $ fjoin ! $ done !
  pushes (x ∷ es) e = qed 𝓛 (‵ (K (x ∷ es)) ∷ ‵ (One e) ∷ []) ∵ fsplit ! $ move ! (1 ∷ 2 ∷ []) $ use2 𝓛 (‵ (K (es ++ e ∷ []))) (pushes es e) $ move ! (1 ∷ 0 ∷ []) $ fjoin ! $ done !

  pub has : (es : List E) (e : E) → Contains es e → ⟦ K es ⟧ ⊢ ⟦ K es ⟧ ∗ ⟦ One e ⟧
  has [] e c = absurd (let lt = c.1 in omega arith)
  has (x ∷ es) e (zero, lt, is) = qed 𝓛 (‵ (K (x ∷ es)) ∷ []) ∵ fsplit ! $ use1 𝓛 (‵ (One x) ⊛ ‵ (One x)) (kept_twice x.value) $ split ! $ move ! (1 ∷ 2 ∷ []) $ fjoin ! $ frame ! $
      by ! (subst (λ (y : E). ⟦ One x ⟧ ⊢ ⟦ One y ⟧) is (id⊢ 𝓤 ⟦ One x ⟧))
  has (x ∷ es) e (suc k, lt, is) = qed 𝓛 (‵ (K (x ∷ es)) ∷ []) ∵ fsplit ! $ move ! (1 ∷ []) $ use1 𝓛 (‵ (K es) ⊛ ‵ (One e)) (has es e (inner es e k lt is)) $ split ! $ move ! (2 ∷ 0 ∷ []) $ fjoin ! $ done !
    where
      inner : (fs : List E) (f : E) (j : ℕ) → suc j < suc (length fs) → slice_index_or fs j f ≡ f → Contains fs f
      inner fs f j l i = (j, omega arith, i)

  all_twice : (es : List E) → ⟦ K es ⟧ ⊢ ⟦ K es ⟧ ∗ ⟦ K es ⟧
  all_twice [] = qed 𝓛 (‵ ftrue ∷ []) ∵ nothing ! $ done !
  all_twice (x ∷ es) = qed 𝓛 (‵ (K (x ∷ es)) ∷ []) ∵ fsplit ! $ use1 𝓛 (‵ (One x) ⊛ ‵ (One x)) (kept_twice x.value) $ split ! $ move ! (2 ∷ []) $ use1 𝓛 (‵ (K es) ⊛ ‵ (K es)) (all_twice es) $ split ! $
      -- [the others, twice; the first, twice]
      move ! (2 ∷ 0 ∷ []) $ fjoin ! $ move ! (2 ∷ 1 ∷ []) $ fjoin ! $ done !

  -- two entries with one number have one value
  abbrev Alike : Option (Stored (Numbered R.Denot)) → Option (Stored (Numbered R.Denot)) → Type 0
  Alike o u = (k : ℕ) (x y : R.Denot) → o ≡ Some (Entry (numbered k x)) → u ≡ Some (Entry (numbered k y)) → x ≡ y

  told : (o u : Option (Stored (Numbered R.Denot))) → Alike o u → ⟦ kept_in R names o ⟧ ∗ ⟦ kept_in R names u ⟧ ⊢ fact 𝓤 (Alike o u)
  told o u alike = qed 𝓛 (‵ (kept_in R names o) ∷ ‵ (kept_in R names u) ∷ []) ∵ drop ! $ drop ! $ by ! (fact_i 𝓤 (Alike o u) (emp 𝓤) alike)

  entries_alike : (e f : Numbered R.Denot) → Dec (e.number ≡ f.number) → ⟦ kept_in R names (Some (Entry e)) ⟧ ∗ ⟦ kept_in R names (Some (Entry f)) ⟧ ⊢ fact 𝓤 (Alike (Some (Entry e)) (Some (Entry f)))
  entries_alike e f (yes is) = qed 𝓛 (‵ (standing R s e.number e.value) ∷ ‵ (standing R s f.number f.value) ∷ []) ∵ rewrite ! 1 (λ (k : ℕ). ‵ (standing R s k f.value)) (sym is) refl $
      by ! (via 𝓤 _ (standings_agree 𝓛 R s e.number e.value f.value) (fact_mono 𝓤 _ (Alike (Some (Entry e)) (Some (Entry f))) (λ one k x y o u. sym (value_of e k x o) ∙ (one ∙ value_of f k y u))))
  entries_alike e f (no apart) = told (Some (Entry e)) (Some (Entry f)) (λ k x y o u. absurd (apart (number_of e k x o ∙ sym (number_of f k y u))))

  alike : (o u : Option (Stored (Numbered R.Denot))) → ⟦ kept_in R names o ⟧ ∗ ⟦ kept_in R names u ⟧ ⊢ fact 𝓤 (Alike o u)
  alike (Some (Entry e)) (Some (Entry f)) = entries_alike e f (ℕ_discrete e.number f.number)
  alike None u = told None u (λ k x y o v. absurd (cc o))
  alike (Some Closed) u = told (Some Closed) u (λ k x y o v. absurd (cc o))
  alike (Some (Entry e)) None = told (Some (Entry e)) None (λ k x y o v. absurd (cc v))
  alike (Some (Entry e)) (Some Closed) = told (Some (Entry e)) (Some Closed) (λ k x y o v. absurd (cc v))

  abbrev Against : Option (Stored (Numbered R.Denot)) → List E → Type 0
  Against o [] = Unit {0}
  Against o (x ∷ es) = Alike o x.value × Against o es

  abbrev Pairwise : List E → Type 0
  Pairwise [] = Unit {0}
  Pairwise (x ∷ es) = Against x.value es × Pairwise es

  against : (o : Option (Stored (Numbered R.Denot))) (es : List E) → ⟦ kept_in R names o ⟧ ∗ ⟦ K es ⟧ ⊢ fact 𝓤 (Against o es)
  against o [] = qed 𝓛 (‵ (kept_in R names o) ∷ ‵ ftrue ∷ []) ∵ drop ! $ drop ! $ by ! (fact_i 𝓤 (Unit {0}) (emp 𝓤) tt)
  against o (x ∷ es) = qed 𝓛 (‵ (kept_in R names o) ∷ ‵ (K (x ∷ es)) ∷ []) ∵ use1 𝓛 (‵ (kept_in R names o) ⊛ ‵ (kept_in R names o)) (kept_twice o) $ split ! $ move ! (2 ∷ []) $ fsplit ! $
      -- [the first; the others; o, twice]
      move ! (2 ∷ 0 ∷ []) $ use2 𝓛 (raw (fact 𝓤 (Alike o x.value))) (alike o x.value) $ heard ! (Alike o x.value) (λ one. move ! (1 ∷ 0 ∷ []) $ use2 𝓛 (raw (fact 𝓤 (Against o es))) (against o es) $ heard ! (Against o es) (λ rest.
      by ! (fact_i 𝓤 (Against o (x ∷ es)) (emp 𝓤) (one, rest))))

  pairwise : (es : List E) → ⟦ K es ⟧ ⊢ fact 𝓤 (Pairwise es)
  pairwise [] = qed 𝓛 (‵ ftrue ∷ []) ∵ drop ! $ by ! (fact_i 𝓤 (Unit {0}) (emp 𝓤) tt)
  pairwise (x ∷ es) = qed 𝓛 (‵ (K (x ∷ es)) ∷ []) ∵ fsplit ! $ move ! (1 ∷ []) $ use1 𝓛 (‵ (K es) ⊛ ‵ (K es)) (all_twice es) $ split ! $ move ! (2 ∷ 0 ∷ []) $ use2 𝓛 (raw (fact 𝓤 (Against x.value es))) (against x.value es) $
      heard ! (Against x.value es) (λ one. use1 𝓛 (raw (fact 𝓤 (Pairwise es))) (pairwise es) $ heard ! (Pairwise es) (λ rest. by ! (fact_i 𝓤 (Pairwise (x ∷ es)) (emp 𝓤) (one, rest))))

  against_in : (o : Option (Stored (Numbered R.Denot))) (es : List E) (e : E) → Against o es → Contains es e → Alike o e.value
  against_in o [] e all there = absurd (let lt = there.1 in omega arith)
  against_in o (x ∷ es) e all there = elim (first_or_other x es e there) [
    | inl is ↦ subst (λ (y : E). Alike o y.value) is all.0
    | inr other ↦ against_in o es e all.1 other
  ]

  -- of two entries one comes first, or they are one
  one_value : (es : List E) (p q k : ℕ) (x y : R.Denot) → Pairwise es → Stands es p (numbered k x) → Stands es q (numbered k y) → x ≡ y
  one_value [] p q k x y all one other = absurd (let lt = one.1 in omega arith)
  one_value (z ∷ es) p q k x y all one other = elim (first_or_other z es (event p (Some (Entry (numbered k x)))) one) [
    | inl here ↦ elim (first_or_other z es (event q (Some (Entry (numbered k y)))) other) [
      | inl there ↦ value_of (numbered k x) k y (sym (ap (λ (a : E). a.value) here) ∙ ap (λ (a : E). a.value) there)
      | inr there ↦ against_in z.value es (event q (Some (Entry (numbered k y)))) all.0 there k x y (ap (λ (a : E). a.value) here) refl
    ]
    | inr here ↦ elim (first_or_other z es (event q (Some (Entry (numbered k y)))) other) [
      | inl there ↦ sym (against_in z.value es (event p (Some (Entry (numbered k x)))) all.0 here k y x (ap (λ (a : E). a.value) there) refl)
      | inr there ↦ one_value es p q k x y all.1 here there
    ]
  ]

  -- what is kept shows that a number has one value
  values_apart : (es : List E) → ⟦ K es ⟧ ⊢ ⟦ K es ⟧ ∗ fact 𝓤 (OneValue es)
  values_apart es = qed 𝓛 (‵ (K es) ∷ []) ∵ use1 𝓛 (‵ (K es) ⊛ ‵ (K es)) (all_twice es) $ split ! $ use1 𝓛 (raw (fact 𝓤 (Pairwise es))) (pairwise es) $ heard ! (Pairwise es) (λ all.
      frame ! $ by ! (fact_i 𝓤 (OneValue es) (emp 𝓤) (λ p q k x y. one_value es p q k x y all)))

  -- what is kept of an entry may be had, and that a number has one value
  pub has_one : (es : List E) (e : E) → Contains es e → ⟦ K es ⟧ ⊢ ⟦ K es ⟧ ∗ guard 𝓤 (OneValue es) ⟦ One e ⟧
  has_one es e there = qed 𝓛 (‵ (K es) ∷ []) ∵ use1 𝓛 (‵ (K es) ⊛ ‵ (K es)) (all_twice es) $ split ! $ use1 𝓛 (raw (fact 𝓤 (Pairwise es))) (pairwise es) $ heard ! (Pairwise es) (λ all.
      use1 𝓛 (‵ (K es) ⊛ ‵ (One e)) (has es e there) $ split ! $ frame ! $ check ! (λ p q k x y. one_value es p q k x y all) $ done !)

  module _ (p k : ℕ) (x : R.Denot) where
    abbrev ask : E
    ask = event p (Some (Entry (numbered k x)))

    abbrev Gain : ℕ → Fml
    Gain = traded R names (ask ∷ [])

    abbrev Right : Fml
    Right = right R s k (Some x)

    abbrev Known : Fml
    Known = standing R s k x

    abbrev Spent : Fml
    Spent = spent R s k x

    runs : (xs ys : List E) (r : ℕ) → Moved ask xs ys r → ⟦ K xs ⟧ ∗ ⟦ Right ⟧ ⊢ upd 𝓤 (⟦ K ys ⟧ ∗ ⟦ Gain r ⟧)
    runs xs ys r (inl e) = subst (λ (z : List E × ℕ). ⟦ K xs ⟧ ∗ ⟦ Right ⟧ ⊢ upd 𝓤 (⟦ K z.0 ⟧ ∗ ⟦ Gain z.1 ⟧)) (λ i. (sym e.1 i, sym e.0 i))
        (qed 𝓛 (‵ (K xs) ∷ ‵ Right ∷ []) ∵ suffices ! _ (upd_i 𝓤 (⟦ K (xs ++ ask ∷ []) ⟧ ∗ ⟦ Gain 1 ⟧)) $ move ! (1 ∷ []) $ use1 𝓛 (‵ Spent) (right_spends 𝓛 R s k x) $ use1 𝓛 (‵ Spent ⊛ ‵ Known) (spent_stands 𝓛 R s k x) $ split ! $
        -- [the receipt; what it shows; what is kept]
        move ! (2 ∷ 1 ∷ []) $ use2 𝓛 (‵ (K (xs ++ ask ∷ []))) (pushes xs ask) $ frame ! $ done !)
    runs xs ys r (inr e) = subst (λ (z : List E × ℕ). ⟦ K xs ⟧ ∗ ⟦ Right ⟧ ⊢ upd 𝓤 (⟦ K z.0 ⟧ ∗ ⟦ Gain z.1 ⟧)) (λ i. (sym e.1 i, sym e.0 i)) (upd_i 𝓤 (⟦ K xs ⟧ ∗ ⟦ Right ⟧))

    abbrev Moves : List E × List E × ℕ → Pr
    Moves z = all 𝓤 (λ (_ : Moved ask z.0 z.1 z.2). wand 𝓤 ⟦ K z.0 ⟧ (upd 𝓤 (⟦ K z.1 ⟧ ∗ ⟦ Gain z.2 ⟧)))

    pub offers : ⟦ Right ⟧ ⊢ ⟦ offer_owns K (Moved ask) Gain None ⟧
    offers = qed 𝓛 (‵ Right ∷ []) ∵ each ! Moves (λ z. each ! (λ (_ : Moved ask z.0 z.1 z.2). wand 𝓤 ⟦ K z.0 ⟧ (upd 𝓤 (⟦ K z.1 ⟧ ∗ ⟦ Gain z.2 ⟧))) (λ m. assume ! (‵ (K z.0)) $ by ! (runs z.0 z.1 z.2 m)))

    -- an entry whose room is known
    abbrev None_gained : ℕ → Fml
    None_gained r = ftrue

    carries_on : (xs ys : List E) (r : ℕ) → Moved ask xs ys r → ⟦ K xs ⟧ ∗ ⟦ Known ⟧ ⊢ upd 𝓤 (⟦ K ys ⟧ ∗ ⟦ ftrue ⟧)
    carries_on xs ys r (inl e) = subst (λ (z : List E). ⟦ K xs ⟧ ∗ ⟦ Known ⟧ ⊢ upd 𝓤 (⟦ K z ⟧ ∗ ⟦ ftrue ⟧)) (sym e.1)
        (qed 𝓛 (‵ (K xs) ∷ ‵ Known ∷ []) ∵ suffices ! _ (upd_i 𝓤 (⟦ K (xs ++ ask ∷ []) ⟧ ∗ ⟦ ftrue ⟧)) $ use2 𝓛 (‵ (K (xs ++ ask ∷ []))) (pushes xs ask) $ frame ! $ nothing ! $ done !)
    carries_on xs ys r (inr e) = subst (λ (z : List E). ⟦ K xs ⟧ ∗ ⟦ Known ⟧ ⊢ upd 𝓤 (⟦ K z ⟧ ∗ ⟦ ftrue ⟧)) (sym e.1)
        (qed 𝓛 (‵ (K xs) ∷ ‵ Known ∷ []) ∵ suffices ! _ (upd_i 𝓤 (⟦ K xs ⟧ ∗ ⟦ ftrue ⟧)) $ frame ! $ drop ! $ nothing ! $ done !)

    abbrev Carried : List E × List E × ℕ → Pr
    Carried z = all 𝓤 (λ (_ : Moved ask z.0 z.1 z.2). wand 𝓤 ⟦ K z.0 ⟧ (upd 𝓤 (⟦ K z.1 ⟧ ∗ ⟦ ftrue ⟧)))

    pub carries : ⟦ Known ⟧ ⊢ ⟦ offer_owns K (Moved ask) None_gained None ⟧
    carries = qed 𝓛 (‵ Known ∷ []) ∵ each ! Carried (λ z. each ! (λ (_ : Moved ask z.0 z.1 z.2). wand 𝓤 ⟦ K z.0 ⟧ (upd 𝓤 (⟦ K z.1 ⟧ ∗ ⟦ ftrue ⟧))) (λ m. assume ! (‵ (K z.0)) $ by ! (carries_on z.0 z.1 z.2 m)))

  module _ (p : ℕ) where
    abbrev shut : E
    shut = event p (Some Closed)

    closes_on : (xs ys : List E) (r : ℕ) → Moved shut xs ys r → ⟦ K xs ⟧ ∗ ⟦ ftrue ⟧ ⊢ upd 𝓤 (⟦ K ys ⟧ ∗ ⟦ ftrue ⟧)
    closes_on xs ys r (inl e) = subst (λ (z : List E). ⟦ K xs ⟧ ∗ ⟦ ftrue ⟧ ⊢ upd 𝓤 (⟦ K z ⟧ ∗ ⟦ ftrue ⟧)) (sym e.1)
        (qed 𝓛 (‵ (K xs) ∷ ‵ ftrue ∷ []) ∵ suffices ! _ (upd_i 𝓤 (⟦ K (xs ++ shut ∷ []) ⟧ ∗ ⟦ ftrue ⟧)) $ use2 𝓛 (‵ (K (xs ++ shut ∷ []))) (pushes xs shut) $ frame ! $ nothing ! $ done !)
    closes_on xs ys r (inr e) = subst (λ (z : List E). ⟦ K xs ⟧ ∗ ⟦ ftrue ⟧ ⊢ upd 𝓤 (⟦ K z ⟧ ∗ ⟦ ftrue ⟧)) (sym e.1) (upd_i 𝓤 (⟦ K xs ⟧ ∗ ⟦ ftrue ⟧))

    abbrev Shut : List E × List E × ℕ → Pr
    Shut z = all 𝓤 (λ (_ : Moved shut z.0 z.1 z.2). wand 𝓤 ⟦ K z.0 ⟧ (upd 𝓤 (⟦ K z.1 ⟧ ∗ ⟦ ftrue ⟧)))

    pub closes : ⟦ ftrue ⟧ ⊢ ⟦ offer_owns K (Moved shut) (λ (_ : ℕ). ftrue) None ⟧
    closes = qed 𝓛 (‵ ftrue ∷ []) ∵ each ! Shut (λ z. each ! (λ (_ : Moved shut z.0 z.1 z.2). wand 𝓤 ⟦ K z.0 ⟧ (upd 𝓤 (⟦ K z.1 ⟧ ∗ ⟦ ftrue ⟧))) (λ m. assume ! (‵ (K z.0)) $ by ! (closes_on z.0 z.1 z.2 m)))

-- what was stored is stored at each later time
pub later : {S : Type 0} (l m : List (Event S)) (p : ℕ) (s : S) → IsPrefix l m → Has l p s → Has m p s
later l m p s on there = subst (λ (log : List (Event _)). Has log p s) on.1 (Contains-append_left l on.0 (event p (Some s)) there)

module _ {M : Type 1} {𝓤 : Ura M} (𝓛 : Logic 𝓤) (R : RattleType) (names : List ℕ) where
  -- the same of an earlier history
  pub has_earlier : (es fs : List (Happening R.Denot)) (e : Happening R.Denot) → IsPrefix es fs → Contains fs e
      → ent 𝓤 (sem 𝓛 (all_kept R names fs)) (sep 𝓤 (sem 𝓛 (all_kept R names fs)) (guard 𝓤 (OneValue es) (sem 𝓛 (kept_in R names e.value))))
  has_earlier es fs e on there = qed 𝓛 (‵ (all_kept R names fs) ∷ []) ∵ use1 𝓛 (‵ (all_kept R names fs) ⊛ given (OneValue fs) (‵ (kept_in R names e.value))) (has_one 𝓛 R names fs e there) $ split ! $
      move ! (1 ∷ []) $ learn ! (λ one. move ! (1 ∷ 0 ∷ []) $ frame ! $ check ! (λ p q k v w a b. one p q k v w (later es fs p (Entry (numbered k v)) on a) (later es fs q (Entry (numbered k w)) on b)) $ done !)

  -- what is kept beside a later history shows that a number has one value
  pub values_earlier : (es fs : List (Happening R.Denot)) → IsPrefix es fs
      → ent 𝓤 (sem 𝓛 (all_kept R names fs)) (sep 𝓤 (sem 𝓛 (all_kept R names fs)) (fact 𝓤 (OneValue es)))
  values_earlier es fs on = qed 𝓛 (‵ (all_kept R names fs) ∷ []) ∵ use1 𝓛 (‵ (all_kept R names fs) ⊛ raw (fact 𝓤 (OneValue fs))) (values_apart 𝓛 R names fs) $ split ! $
      move ! (1 ∷ []) $ heard ! (OneValue fs) (λ one. frame ! $ by ! (fact_i 𝓤 (OneValue es) (emp 𝓤) (λ p q k v w a b. one p q k v w (later es fs p (Entry (numbered k v)) on a) (later es fs q (Entry (numbered k w)) on b))))

-- what is kept beside a history names no token of one thread
module _ (R : RattleType) (names : List ℕ) where
  kept_quiet : (v : Option (Stored (Numbered R.Denot))) → base.Shift.Keyless (kept_in R names v)
  kept_quiet None = tt
  kept_quiet (Some (Entry e)) = λ z. (tt, ((λ ε. tt), (λ is. tt)))
  kept_quiet (Some Closed) = tt

  pub quiet : (es : List (Happening R.Denot)) → base.Shift.Keyless (all_kept R names es)
  quiet [] = tt
  quiet (e ∷ es) = (kept_quiet e.value, quiet es)
