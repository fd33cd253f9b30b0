-- A `&` to slots is made of a borrow of them: each takes a turn. Assumes `Logic`.
--     Lends-slot, Lends-row      of one slot, and of a row
--     shared_laws, row_shares_laws      what a `&` to them holds can be had twice, and for less
use Rattle.std.proofs.Common.{◌≡◌, ℕ, ◌+◌, List, [], ◌∷◌, sym, subst}
use seplogic.Ra.Ura.{Ura}
use base.Fraction.{full_share}
use base.Share
use base.Stored.{Coded}
use base.Logic.{SProp, ent, sep, wand, emp, guard, upd, upd_i, apply∗, id⊢, wand_i, snd∗}
use base.Fml.{Lft, GName, Share, Incl, Fml, ftrue, ffalse, fsep, fseps, fex, fwand, fupd, fdead, fauth, fobs, fres, fbor, flft, finv, Incl-refl, Incl-trans}
use base.Before.{before}
use contract.BorrowLft.{meet_⊑_right}
use ghost.Rules.{Toks, span}
use types.Logic.{Logic, sem, lfts}
use types.Kit.{Item, mean, ‵, raw, ◌⊛◌, some, later, ◌$◌, ◌∵◌, !, qed, by, move, keep, drop, use0, use1, use2, use3, split, split3, join, fsplit, fsplit3, fjoin, fjoin3, fpick, fpack, pick, assume, suffices, await, updating, now, done}
use types.Tokens.{lft_new, bor_open, obor_alter, name_new, name_agree, res_agree, res_dup, one_token}
use types.Na.{before-Incl}
use denote.RattleType.{RattleType}
use denote.Memory.{part_at, shared_of}
use denote.RawPtr.{Ptr, block_ptr, null_ptr}
use denote.Steps.{nothing, heard}
use denote.Sharing.{ShrLaws, said}
use denote.SharingLaws.{ends_shr_laws, beside_shr_laws, nothing_shr_laws, said_shr_laws}
use denote.Param.Laws.{Laws}
use denote.Struct.Lending.{Lends, Lends-both, Lends-nothing, Lends-said, Lends-false}
use contract.Monad as monad
use Rattle.core.specs.Mem.{type_size}
use Rattle.core.specs.declared.option.Option.{Option}
use Rattle.core.specs.declared.option.Option.TheVariants.{None, Some}
use Rattle.core.proofs.cell.Borrows.{by_one}
use Rattle.std.specs.Coded.{coded_option}
use Rattle.table_slab.specs.Kept.{Phase, idle, out, held, full, Stage, Turn, Lies, place, codes, rests, resting, Value, tie, view, lent, tied, standing, Cell, kept, shared_at, row, shared_row, fit, row_owns, row_shares}
use Rattle.table_slab.proofs.Steps.{kept_dup, lends_out, pins}

module _ (T : RattleType) (L : Laws T) {M : Type 1} {𝓤 : Ura M} (𝓛 : Logic 𝓤) (γ : GName) (b o : ℕ) (κ : Lft) where
  open 𝓛 use {H, A}

  abbrev Pr : Type 2
  Pr = SProp 𝓤

  abbrev ◌⊢◌ : Pr → Pr → Type 1
  P ⊢ Q = ent 𝓤 P Q

  abbrev ◌∗◌ : Pr → Pr → Pr
  P ∗ Q = sep 𝓤 P Q

  abbrev ◌-∗◌ : Pr → Pr → Pr
  P -∗ Q = wand 𝓤 P Q

  abbrev ⟦◌⟧ : Fml → Pr
  ⟦ P ⟧ = sem 𝓛 P

  infix 26 ◌⊢◌
  infixr 35 ◌∗◌
  infixr 30 ◌-∗◌
  abbrev X : Type 0
  X = T.Denot

  abbrev coded : Coded (Option X)
  coded = coded_option T.coded

  abbrev P : Fml
  P = resting T γ b o

  abbrev S : Type 0
  S = Option X × Stage X

  module _ (η : GName) where
    abbrev t : Turn
    t = (κ, η)

    abbrev V : Fml
    V = Value T γ t b o

    abbrev W : Type 0
    W = Stage X

    abbrev Tied : Fml
    Tied = fex W (tied T γ t b o)

    abbrev I : Fml
    I = Cell T γ t b o

    lies : (s : Phase X) (v : Option X) → ⟦ tie T γ t b o s ⟧ ∗ A.auth η (codes T v) ⊢ monad.fact 𝓤 (Lies T v s)
    lies idle v = qed 𝓛 (‵ (fobs η (codes T None)) ∷ ‵ (fauth η (codes T v)) ∷ []) ∵ name_agree ! coded {x = None} {y = v} (λ z. by ! (monad.fact_i 𝓤 (v ≡ None) _ (sym z)))
    lies out v = monad.fact_i 𝓤 (Unit {0}) _ tt
    lies (held x) v = qed 𝓛 (‵ (fobs η (codes T (Some x))) ∷ ‵ (fauth η (codes T v)) ∷ []) ∵ name_agree ! coded {x = Some x} {y = v} (λ z. by ! (monad.fact_i 𝓤 (v ≡ Some x) _ (sym z)))
    lies (full x) v = qed 𝓛 (‵ (fres η (codes T (Some x))) ∷ ‵ (fauth η (codes T v)) ∷ []) ∵ res_agree ! coded {x = Some x} {y = v} (λ z. by ! (monad.fact_i 𝓤 (v ≡ Some x) _ (sym z)))

    way_back : emp 𝓤 ⊢ ⟦ fwand (fsep (fdead κ) (fseps (Tied ∷ V ∷ []))) (fupd P) ⟧
    unfolding fseps
    way_back = qed 𝓛 [] ∵ assume ! (‵ (fsep (fdead κ) (fseps (Tied ∷ V ∷ [])))) $ suffices ! ⟦ P ⟧ (upd_i 𝓤 ⟦ P ⟧) $ fsplit ! $ drop ! $ fsplit3 ! $ fpick ! (λ s. fsplit ! $ move ! (2 ∷ []) $ fpick ! (λ v. fsplit ! $
        -- [the value; auth; what is named; tie; nothing]
        move ! (3 ∷ 1 ∷ []) $ use2 𝓛 (raw (monad.fact 𝓤 (Lies T v s.1))) (lies s.1 v) $ heard ! (Lies T v s.1) (λ so.
        nothing ! $ fpack ! (Lies T v s.1) (λ _. ftrue) so $ move ! (2 ∷ 0 ∷ []) $ fjoin ! $ move ! (1 ∷ 0 ∷ []) $ fjoin ! $ fpack ! S (rests T γ b o) (v, s) $ keep ! (0 ∷ []) $ done !)))

    ties : (s : Phase X) (v : Option X) → Lies T v s → A.obs η (codes T v) ⊢ ⟦ tie T γ t b o s ⟧
    ties idle v so = subst (λ (u : Option X). A.obs η (codes T v) ⊢ A.obs η (codes T u)) so (id⊢ 𝓤 _)
    ties out v so = qed 𝓛 (‵ (fobs η (codes T v)) ∷ []) ∵ drop ! $ done !
    ties (held x) v so = subst (λ (u : Option X). A.obs η (codes T v) ⊢ A.obs η (codes T u)) so (id⊢ 𝓤 _)
    ties (full x) v so = subst (λ (u : Option X). A.obs η (codes T v) ⊢ A.res η (codes T u)) so (𝓛.names.obs-res η (codes T v))

    lends : (μ : Lft) (r : Share) → Incl μ T.lives → Incl μ κ → (s : Phase X)
        → ⟦ tie T γ t b o s ⟧ ∗ A.bor κ V ∗ A.lft μ r ⊢ H.⇛ (⟦ tie T γ t b o s ⟧ ∗ ⟦ lent T γ t b o s ⟧ ∗ A.lft μ r)
    lends μ r inc sp idle = 𝓛.laws.⇛_intro _
    lends μ r inc sp out = qed 𝓛 (‵ ftrue ∷ ‵ (fbor κ V) ∷ ‵ (flft μ r) ∷ []) ∵ updating ! $ now ! $ nothing ! $ keep ! (0 ∷ 1 ∷ 3 ∷ []) $ done !
    lends μ r inc sp (held x) = lends_out 𝓛 T γ t b o (μ, r) [] T.lives (L.shares 𝓛) inc sp x
    lends μ r inc sp (full y) = let Q : Fml = part_at T full_share y b o in let c = codes T (Some y) in let K : Fml = fres η c in let ts : Toks = (μ, r) ∷ [] in
        qed 𝓛 (‵ (fres η c) ∷ ‵ (fbor κ V) ∷ ‵ (flft μ r) ∷ []) ∵ updating ! $ res_dup ! $ move ! (0 ∷ 2 ∷ []) $ join ! $ move ! (0 ∷ 2 ∷ []) $
        use2 𝓛 (later ((‵ K ⊛ ‵ (fbor κ Q)) ⊛ raw (lfts 𝓛 ts))) (by_one 𝓛 κ ts sp (A.res η c ∗ A.bor κ V) (A.res η c ∗ A.bor κ Q) (pins 𝓛 T γ t b o κ y K (λ v. 𝓛.names.res_agree η c (codes T v)))) $ await ! tt $ split ! $ split ! $ drop ! $ move ! (0 ∷ 1 ∷ []) $
        use2 𝓛 (later (‵ (shared_of T y b o κ) ⊛ raw (lfts 𝓛 ts))) (L.shares 𝓛 y κ ts b o inc sp) $ await ! tt $ split ! $
        lft_new ! tt (λ ν. let both : Lft = ν ∷ κ in move ! (1 ∷ []) $ use0 𝓛 (‵ (before both κ)) (before-Incl 𝓛 both κ (meet_⊑_right (ν ∷ []) κ)) $
        use2 𝓛 (‵ (shared_of T y b o both)) ((L.shr_laws y b o).mono M 𝓤 𝓛 both κ) $ move ! (1 ∷ 0 ∷ []) $ fjoin ! $ fpack ! (ℕ × Share) (view T γ t b o y) (ν, full_share) $ now ! $ move ! (2 ∷ []) $ done !)

    cell_back : emp 𝓤 ⊢ ⟦ fwand (fsep (fdead κ) (fseps (I ∷ []))) (fupd Tied) ⟧
    unfolding fseps
    cell_back = qed 𝓛 [] ∵ assume ! (‵ (fsep (fdead κ) (fsep I ftrue))) $ suffices ! ⟦ Tied ⟧ (upd_i 𝓤 ⟦ Tied ⟧) $ fsplit3 ! $ keep ! (1 ∷ []) $ fpick ! (λ s. fsplit ! $ keep ! (0 ∷ []) $ fpack ! W (tied T γ t b o) s $ done !)

    -- one part of the token opens what is tied, and the other shares the value
    guarded : (μ : Lft) (q : Share) → Incl μ T.lives → Incl μ κ → (A.bor κ Tied ∗ A.bor κ V) ∗ A.lft μ q ⊢ H.⇛ (⟦ kept T γ t b o κ ⟧ ∗ A.lft μ q)
    unfolding fseps
    guarded μ q inc sp = let l : Share = Share.left q in let r : Share = Share.right q in let Way : Fml = fwand (fsep (fdead κ) (fseps (I ∷ []))) (fupd Tied) in
        let Shut : Pr = H.⇛ ((A.bor κ I ∗ emp 𝓤) ∗ A.lft μ l ∗ (A.dead κ -∗ A.bor κ Tied)) in let Asks : Pr = ⟦ fseps (I ∷ []) ⟧ ∗ ⟦ Way ⟧ ∗ (A.dead κ -∗ A.dead κ) in
        qed 𝓛 ((‵ (fbor κ Tied) ⊛ ‵ (fbor κ V)) ∷ ‵ (flft μ q) ∷ []) ∵ updating ! $ split ! $ move ! (2 ∷ []) $ use1 𝓛 (‵ (flft μ l) ⊛ ‵ (flft μ r)) (𝓛.lfts.lft_split μ q) $ split ! $ move ! (2 ∷ 0 ∷ []) $
        use2 𝓛 (later (‵ Tied ⊛ raw (Asks -∗ Shut))) (𝓛.more.bor_acc_to κ κ ((μ, l) ∷ []) Tied (I ∷ []) sp) $ await ! tt $ split ! $ fpick ! (λ s. fsplit ! $
        -- [what is named; tie; the way to shut; the other token; the value]
        move ! (1 ∷ 4 ∷ 3 ∷ []) $
        use3 𝓛 (later (‵ (tie T γ t b o s.1) ⊛ ‵ (lent T γ t b o s.1) ⊛ ‵ (flft μ r))) (lends μ r inc sp s.1) $ await ! tt $ split3 ! $ move ! (3 ∷ 0 ∷ []) $ fjoin ! $ move ! (0 ∷ 1 ∷ []) $ fjoin ! $
        fpack ! W (standing T γ t b o) s $ nothing ! $ move ! (1 ∷ 0 ∷ []) $ fjoin ! $ use0 𝓛 (raw (A.dead κ -∗ A.dead κ)) (wand_i 𝓤 (emp 𝓤) (A.dead κ) (A.dead κ) (snd∗ 𝓤 (emp 𝓤) (A.dead κ))) $
        use0 𝓛 (‵ Way) cell_back $ join ! $ move ! (1 ∷ 0 ∷ []) $ join ! $ move ! (0 ∷ 2 ∷ []) $
        use2 𝓛 (later ((‵ (fbor κ I) ⊛ ‵ ftrue) ⊛ ‵ (flft μ l) ⊛ raw (A.dead κ -∗ A.bor κ Tied))) (apply∗ 𝓤 Asks Shut) $ await ! tt $ split3 ! $ split ! $
        use1 𝓛 (later (‵ (finv (fbor κ I)))) (𝓛.invs.inv_new (fbor κ I)) $ await ! tt $ use0 𝓛 (‵ (before κ κ)) (before-Incl 𝓛 κ κ (Incl-refl κ)) $ fjoin ! $
        move ! (2 ∷ 4 ∷ []) $ use2 𝓛 (‵ (flft μ q)) (𝓛.lfts.lft_join μ q) $ now ! $ keep ! (1 ∷ 0 ∷ []) $ done !)

  abbrev Cuts : Item 𝓤
  Cuts = some (λ (η : GName). ‵ (fbor κ (Tied η)) ⊛ ‵ (fbor κ (V η)))

  cuts : (q : Share) → A.bor κ P ∗ A.lft κ q ⊢ H.⇛ (mean 𝓛 Cuts ∗ A.lft κ q)
  unfolding fseps
  cuts q = qed 𝓛 (‵ (fbor κ P) ∷ ‵ (flft κ q) ∷ []) ∵ updating ! $ bor_open ! tt $ move ! (1 ∷ []) $ fpick ! (λ s. fsplit ! $ move ! (1 ∷ []) $ fsplit ! $
      move ! (1 ∷ []) $ fpick ! (λ so. drop ! $ name_new ! tt (codes T s.0) (λ η. use1 𝓛 (‵ (tie T γ (t η) b o s.1.1)) (ties η s.1.1 s.0 so) $
      -- [tie; auth; named; the value; open]
      move ! (2 ∷ 0 ∷ []) $ fjoin ! $ fpack ! (Stage X) (tied T γ (t η) b o) s.1 $ move ! (2 ∷ 1 ∷ []) $ fjoin ! $ fpack ! (Option X) (λ v. fsep (place T b o v) (fauth η (codes T v))) s.0 $
      nothing ! $ move ! (2 ∷ 1 ∷ 0 ∷ []) $ fjoin3 ! $ let Qs : List Fml = Tied η ∷ V η ∷ [] in use0 𝓛 (‵ (fwand (fsep (fdead κ) (fseps Qs)) (fupd P))) (way_back η) $ move ! (2 ∷ 1 ∷ 0 ∷ []) $ obor_alter ! tt Qs $
      use1 𝓛 (‵ (fbor κ (Tied η)) ⊛ ‵ (fbor κ (V η)) ⊛ ‵ ftrue) (id⊢ 𝓤 _) $ split3 ! $ join ! $ use1 𝓛 Cuts (base.Logic.ex_i 𝓤 (λ (x : GName). A.bor κ (Tied x) ∗ A.bor κ (V x)) η) $ now ! $ keep ! (0 ∷ 2 ∷ []) $ done !)))

  pub made : (ts : Toks) → Incl (span ts) T.lives → Incl (span ts) κ → A.bor κ P ∗ lfts 𝓛 ts ⊢ H.⇛ (⟦ shared_at T γ b o κ ⟧ ∗ lfts 𝓛 ts)
  made ts inc sp = let μ : Lft = span ts in qed 𝓛 (‵ (fbor κ P) ∷ raw (lfts 𝓛 ts) ∷ []) ∵ updating ! $ use2 𝓛 (later (Cuts ⊛ raw (lfts 𝓛 ts))) (by_one 𝓛 κ ts sp (A.bor κ P) (mean 𝓛 Cuts) cuts) $ await ! tt $ split ! $ pick ! (λ η.
      move ! (1 ∷ []) $ use1 𝓛 (some (λ (q : Share). ‵ (flft μ q) ⊛ raw (A.lft μ q -∗ lfts 𝓛 ts))) (one_token 𝓛 ts) $ pick ! (λ q. split ! $ move ! (2 ∷ 0 ∷ []) $
      use2 𝓛 (later (‵ (kept T γ (t η) b o κ) ⊛ ‵ (flft μ q))) (guarded η μ q inc sp) $ await ! tt $ split ! $ fpack ! Turn (λ u. kept T γ u b o κ) (t η) $ move ! (1 ∷ 2 ∷ []) $
      use2 𝓛 (raw (lfts 𝓛 ts)) (apply∗ 𝓤 (A.lft μ q) (lfts 𝓛 ts)) $ now ! $ move ! (1 ∷ 0 ∷ []) $ done !))

shared_laws : (T : RattleType) (γ : GName) (b o : ℕ) → ShrLaws (shared_at T γ b o)
shared_laws T γ b o = record {
  contraction = λ M 𝓤 𝓛 κ. qed 𝓛 (‵ (shared_at T γ b o κ) ∷ []) ∵ fpick ! (λ t. use1 𝓛 (‵ (kept T γ t b o κ) ⊛ ‵ (kept T γ t b o κ)) (kept_dup 𝓛 T γ t b o κ) $ split ! $
      fpack ! Turn (λ u. kept T γ u b o κ) t $ move ! (1 ∷ []) $ fpack ! Turn (λ u. kept T γ u b o κ) t $ done !);
  mono = λ M 𝓤 𝓛 κ' κ. qed 𝓛 (‵ (before κ' κ) ∷ ‵ (shared_at T γ b o κ) ∷ []) ∵ move ! (1 ∷ []) $ fpick ! (λ t. fsplit ! $ move ! (2 ∷ 0 ∷ []) $
      use2 𝓛 (‵ (before κ' t.0)) ((ends_shr_laws t.0).mono M 𝓤 𝓛 κ' κ) $ fjoin ! $ fpack ! Turn (λ u. kept T γ u b o κ') t $ done !);
}

module _ (T : RattleType) where
  shared_row_laws : (b o : ℕ) (γs : List GName) → ShrLaws (shared_row T b o γs)
  shared_row_laws b o [] = nothing_shr_laws
  shared_row_laws b o (γ ∷ γs) = beside_shr_laws _ _ (shared_laws T γ b o) (shared_row_laws b (o + type_size T) γs)

  pub row_shares_laws : (p : Ptr) (γs : List GName) → ShrLaws (row_shares T p γs)
  row_shares_laws (block_ptr b o) γs = beside_shr_laws _ _ (said_shr_laws (fit T γs) tt) (shared_row_laws b o γs)
  row_shares_laws null_ptr γs = said_shr_laws ffalse tt

module _ {M : Type 1} {𝓤 : Ura M} (𝓛 : Logic 𝓤) (l : Lft) (T : RattleType) (L : Laws T) (inc : Incl l T.lives) where
  Lends-slot : (b o : ℕ) (γ : GName) → Lends 𝓛 (resting T γ b o) (shared_at T γ b o) l
  Lends-slot b o γ κ ts within sp = made T L 𝓛 γ b o κ ts (Incl-trans within inc) sp

  Lends-slots : (b o : ℕ) (γs : List GName) → Lends 𝓛 (row T b o γs) (shared_row T b o γs) l
  Lends-slots b o [] = Lends-nothing 𝓛 ftrue l
  Lends-slots b o (γ ∷ γs) = Lends-both 𝓛 (resting T γ b o) (row T b (o + type_size T) γs) (shared_at T γ b o) (shared_row T b (o + type_size T) γs) l (Lends-slot b o γ) (Lends-slots b (o + type_size T) γs)

  pub Lends-row : (p : Ptr) (γs : List GName) → Lends 𝓛 (row_owns T p γs) (row_shares T p γs) l
  Lends-row (block_ptr b o) γs = Lends-both 𝓛 (fit T γs) (row T b o γs) (said (fit T γs)) (shared_row T b o γs) l (Lends-said 𝓛 (fit T γs) tt l) (Lends-slots b o γs)
  Lends-row null_ptr γs = Lends-false 𝓛 (said ffalse) l
