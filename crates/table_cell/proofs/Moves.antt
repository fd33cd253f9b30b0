-- The ghost steps of words and blocks. Assumes `Logic`.
--     lasts        what is lent for the home is lent for each lifetime that ends no later
--     renames      a name becomes a view: a new lifetime stands beside the home's
--     lend_out, take_back, comes_home      a block is lent for the home and a new lifetime; who has that lifetime's whole
--       token has the block back at once, and who has the right to it has it once the home has ended
--     keeps        a word that is known to be set keeps what was lent to it
--     learns       a note comes to know the value of a word that is set
--     remembers    a word is set to what a note of it knows
--     settles      a view becomes a name, and gives its part of the token up
--     shows_block  by a `&` to the home it shows its block
--     reads        a load of a shared word shows a view of its block
--     offers       an exchange of a shared word
use Rattle.std.specs.Prelude.{is_some, IsSome}
use Rattle.std.proofs.Common.{◌≡◌, ℕ, Bool, true, false, List, [], ◌∷◌, ◌++◌, Option, Some, None, refl, sym, subst, lit<}
use seplogic.Ra.Ura.{Ura}
use mir.Raw.{raw as bare}
use mir.Syntax.{Ty, named as lifetime}
use mir.Val.{vptr}
use base.Share
use base.Stored.{Gv}
use base.Fraction.{full_share}
use base.Logic.{SProp, ent, sep, ex, emp, guard, upd_i, id⊢}
use base.Fml.{Lft, Share, Fml, ftrue, ffalse, fsep, fex, fobs, fauth, fres, flft, fdead, fbor, Incl-refl, Incl-trans}
use base.Before.{before}
use types.Logic.{Logic, sem}
use types.Kit.{Item, Goal, Seq, learn, settle, ‵, ◌⊛◌, raw, some, given, later, mean, ◌$◌, ◌∵◌, !, qed, by, move, keep, drop, split, split3, group, fsplit, fsplit3, fjoin, fjoin3, fpick, fpack, rewrite, feq_i, check, show, frame, assume, suffices, done, use0, use1, use2, updating, await, now}
use types.Tokens.{res_dup, lft_new, lft_end, bor_new, lent_back, bor_fracture}
use types.Na.{before-Incl, before_lent}
use contract.BorrowLft.{◌⊑◌, meet_⊑_left, meet_⊑_right}
use denote.RattleType.{RattleType}
use denote.Memory.{lone}
use denote.Opens.{hide}
use denote.Ref.{ShrRef}
use denote.RawPtr.{Ptr, block_ptr, null_ptr, lies_at, Testable}
use denote.Steps.{nothing}
use denote.Param.Laws.{Laws}
use denote.Sharing.{ShrLaws}
use denote.Struct.Lending.{lent_at, lent_at_shr_laws, Lends-first, Lends-lies}
use Rattle.core.specs.Sync.RawAtomic.Pointer.{cell, alike, asks_ptr, compares}
use Rattle.core.proofs.raw_atomic.Asked.{borrowed_ptr, borrowed_compares, PtrLies, Compared, alike_null}
use Rattle.std.specs.Coded.{coded_option}
use Rattle.table_cell.specs.Notes.{Agrees, code, free, fixed, learnt}
use Rattle.table_cell.specs.Beside.{in_cell}
use Rattle.table_cell.specs.Words.{is_so, Loan, testable, tested, view, named, freeable, right, blank, fixes, held, kept}

abbrev IsOff : Bool → Type 0
IsOff true = ⊥
IsOff false = Unit {0}

pub not_none : {X : Type 0} {v : Option X} → IsSome v → v ≡ None → ⊥
not_none {X} set e = subst IsOff (subst (λ (u : Option X). is_some u ≡ true) e set) tt

module _ {M : Type 1} {𝓤 : Ura M} (𝓛 : Logic 𝓤) (R : RattleType) (L : Laws R) (k : Ty → Ptr → Fml) (h : ℕ) where
  open 𝓛 use {H, A}

  abbrev Pr : Type 2
  Pr = SProp 𝓤

  abbrev ◌⊢◌ : Pr → Pr → Type 1
  P ⊢ Q = ent 𝓤 P Q

  abbrev ◌∗◌ : Pr → Pr → Pr
  P ∗ Q = sep 𝓤 P Q

  abbrev ⟦◌⟧ : Fml → Pr
  ⟦ P ⟧ = sem 𝓛 P

  infix 26 ◌⊢◌
  infixr 35 ◌∗◌
  abbrev home : Lft
  home = h ∷ []

  abbrev of_block : (p : Ptr) (x : R.Denot) → ShrLaws (lent_at R p x)
  of_block p x = lent_at_shr_laws R L.shr_laws p x

  pub lasts : (κ : Lft) (p : Ptr) (x : R.Denot) → ⟦ before κ home ⟧ ∗ ⟦ named R h p x ⟧ ⊢ ⟦ lent_at R p x κ ⟧
  lasts κ p x = (of_block p x).mono M 𝓤 𝓛 κ home

  pub renames : (p : Ptr) (x : R.Denot) → ⟦ named R h p x ⟧ ⊢ H.⇛ (mean 𝓛 (some (λ (ν : ℕ). ‵ (view R h p (x, ν, full_share)))))
  renames p x = qed 𝓛 (‵ (named R h p x) ∷ []) ∵ updating ! $ lft_new ! tt (λ ν. let both : Lft = ν ∷ home in
      move ! (1 ∷ []) $ use0 𝓛 (‵ (before both home)) (before-Incl 𝓛 both home (meet_⊑_right (ν ∷ []) home)) $
      use2 𝓛 (‵ (lent_at R p x both)) ((of_block p x).mono M 𝓤 𝓛 both home) $ move ! (1 ∷ 0 ∷ []) $ fjoin ! $ now ! $
      show ! (λ (i : ℕ). ⟦ view R h p (x, i, full_share) ⟧) ν $ done !)

  -- a block that its setter can still take back
  abbrev pub mine : Ptr → R.Denot → ℕ → Fml
  mine p x ν = fsep (view R h p (x, ν, full_share)) (right R k h true p x ν)

  abbrev pub Out : Share → Lft → Share → Ptr → R.Denot → Item 𝓤
  Out s μ r p x = some (λ (ν : ℕ). ‵ (mine p x ν) ⊛ ‵ (flft home s) ⊛ ‵ (flft μ r))

  pub lend_out : (s : Share) (μ : Lft) (r : Share) → μ ⊑ R.lives → (p : Ptr) (x : R.Denot)
      → ⟦ freeable R k p x ⟧ ∗ A.lft home s ∗ A.lft μ r ⊢ H.⇛ (mean 𝓛 (Out s μ r p x))
  lend_out s μ r within p x = qed 𝓛 (‵ (freeable R k p x) ∷ ‵ (flft home s) ∷ ‵ (flft μ r) ∷ []) ∵ updating ! $ lft_new ! tt (λ ν. let both : Lft = ν ∷ home in
      move ! (1 ∷ []) $ bor_new ! tt both $ move ! (2 ∷ 3 ∷ 4 ∷ []) $ group ! 3 $ move ! (1 ∷ 0 ∷ []) $
      use2 𝓛 (later (‵ (lent_at R p x both) ⊛ ‵ (flft (ν ∷ []) full_share) ⊛ ‵ (flft home s) ⊛ ‵ (flft μ r)))
      (Lends-first 𝓛 (lies_at R full_share p x) (k (bare (lone R.mir)) p) (lent_at R p x) R.lives (Lends-lies 𝓛 R R.lives p x (L.shares 𝓛 x)) both
      ((ν ∷ [], full_share) ∷ (home, s) ∷ (μ, r) ∷ []) (Incl-trans (Incl-trans (meet_⊑_right (ν ∷ []) (home ++ μ)) (meet_⊑_right home μ)) within) (meet_⊑_left both μ)) $
      await ! tt $ split3 ! $ move ! (1 ∷ 0 ∷ []) $ fjoin ! $ move ! (0 ∷ 2 ∷ []) $ fjoin ! $ now ! $
      show ! (λ (i : ℕ). ⟦ mine p x i ⟧ ∗ A.lft home s ∗ A.lft μ r) ν $ done !)

  pub take_back : (p : Ptr) (x : R.Denot) (ν : ℕ) → ⟦ mine p x ν ⟧ ⊢ H.⇛ ⟦ freeable R k p x ⟧
  take_back p x ν = qed 𝓛 (‵ (mine p x ν) ∷ []) ∵ updating ! $ fsplit ! $ fsplit ! $ lft_end ! tt $
      use1 𝓛 (‵ (fdead (ν ∷ home))) (𝓛.lfts.dead-incl (ν ∷ home) (ν ∷ []) (meet_⊑_left (ν ∷ []) home)) $ keep ! (0 ∷ 2 ∷ []) $ lent_back ! tt $ now ! $ done !

  pub comes_home : (p : Ptr) (x : R.Denot) (ν : ℕ) → ⟦ fdead home ⟧ ∗ ⟦ right R k h true p x ν ⟧ ⊢ H.⇛ ⟦ freeable R k p x ⟧
  comes_home p x ν = qed 𝓛 (‵ (fdead home) ∷ ‵ (right R k h true p x ν) ∷ []) ∵ updating ! $
      use1 𝓛 (‵ (fdead (ν ∷ home))) (𝓛.lfts.dead-incl (ν ∷ home) home (meet_⊑_right (ν ∷ []) home)) $ lent_back ! tt $ now ! $ done !

  pub keeps : (i : ℕ) (y : Bool) (Q : R.Denot → Type 0) (b o : ℕ) (x : R.Denot) (ν : ℕ) → Q x
      → ⟦ fsep (view R h (block_ptr b o) (x, ν, full_share)) (right R k h y (block_ptr b o) x ν) ⟧ ⊢ ⟦ kept R k h i y (Some x) Q (block_ptr b o) ⟧
  keeps i y Q b o x ν so = let p : Ptr = block_ptr b o in qed 𝓛 (‵ (fsep (view R h p (x, ν, full_share)) (right R k h y p x ν)) ∷ []) ∵ fsplit ! $
      nothing ! $ fpack ! (Q x) (λ _. ftrue) so $ move ! (1 ∷ 2 ∷ 0 ∷ []) $ fjoin3 ! $ fpack ! (Loan R) (held R k h i y (Some x) Q p) (x, ν, full_share) $ nothing ! $ fjoin ! $ done !

  pub settles : (p : Ptr) (s : Loan R) → ⟦ view R h p s ⟧ ⊢ H.⇛ ⟦ named R h p s.0 ⟧
  settles p s = let ν : Lft = s.1 ∷ [] in let both : Lft = s.1 ∷ home in
      qed 𝓛 (‵ (view R h p s) ∷ []) ∵ updating ! $ fsplit ! $ bor_new ! tt home $ bor_fracture ! tt (λ q. flft ν q) s.2 $ move ! (1 ∷ []) $ drop ! $
      use0 𝓛 (‵ (before both both)) (before-Incl 𝓛 both both (Incl-refl both)) $ move ! (1 ∷ 0 ∷ []) $ use2 𝓛 (‵ (before home both)) (before_lent 𝓛 home ν both) $
      use2 𝓛 (‵ (named R h p s.0)) ((of_block p s.0).mono M 𝓤 𝓛 home both) $ now ! $ done !

  pub shows_block : (κ : Lft) (b o : ℕ) (s : Loan R)
      → ⟦ before κ home ⟧ ∗ ⟦ view R h (block_ptr b o) s ⟧ ⊢ H.⇛ ⟦ (ShrRef (lifetime 0) κ R).own_val (record { ref_ptr = (b, o); now = s.0 }) (vptr b o ∷ []) ⟧
  shows_block κ b o s = let p : Ptr = block_ptr b o in qed 𝓛 (‵ (before κ home) ∷ ‵ (view R h p s) ∷ []) ∵ updating ! $ move ! (1 ∷ []) $
      use1 𝓛 (later (‵ (named R h p s.0))) (settles p s) $ await ! tt $ move ! (1 ∷ 0 ∷ []) $ use2 𝓛 (‵ (lent_at R p s.0 κ)) (lasts κ p s.0) $
      fsplit ! $ drop ! $ hide ! $ feq_i ! _ (vptr b o ∷ []) _ refl $ fjoin ! $ now ! $ done !

  halved : (p : Ptr) (s : Loan R) → ⟦ view R h p s ⟧ ⊢ ⟦ view R h p (s.0, s.1, Share.left s.2) ⟧ ∗ ⟦ view R h p (s.0, s.1, Share.right s.2) ⟧
  halved p s = let ν : Lft = s.1 ∷ [] in let both : Lft = s.1 ∷ home in let V : Fml = lent_at R p s.0 both in
      qed 𝓛 (‵ (view R h p s) ∷ []) ∵ fsplit ! $ use1 𝓛 (‵ (flft ν (Share.left s.2)) ⊛ ‵ (flft ν (Share.right s.2))) (𝓛.lfts.lft_split ν s.2) $ split ! $ move ! (2 ∷ []) $
      use1 𝓛 (‵ V ⊛ ‵ V) ((of_block p s.0).contraction M 𝓤 𝓛 both) $ split ! $ move ! (3 ∷ 0 ∷ []) $ fjoin ! $ move ! (2 ∷ 1 ∷ []) $ fjoin ! $ move ! (0 ∷ 1 ∷ []) $ done !

  module _ (i : ℕ) where
    -- what a note that knows j learns of a word whose value isn't known, but is x
    abbrev pub told : Option R.Denot → Option R.Denot → R.Denot → Fml
    told None j x = fsep (learnt R i (Some x)) (is_so (Agrees j x))
    told (Some y) j x = ftrue

    pub nothing_known : (j : Option R.Denot) → ⟦ free R i ⟧ ∗ ⟦ learnt R i j ⟧ ⊢ guard 𝓤 (j ≡ None) ⟦ free R i ⟧
    nothing_known None = qed 𝓛 (‵ (free R i) ∷ ‵ ftrue ∷ []) ∵ check ! refl $ keep ! (0 ∷ []) $ done !
    nothing_known (Some x) = qed 𝓛 (‵ (free R i) ∷ ‵ (learnt R i (Some x)) ∷ []) ∵ fsplit ! $ move ! (2 ∷ 1 ∷ []) $
        use2 𝓛 (given (code R (Some x) ≡ code R None) (‵ (fres i (code R (Some x))) ⊛ ‵ (fauth i (code R None)))) (𝓛.names.res_agree i (code R (Some x)) (code R None)) $
        learn ! (λ e. absurd (not_none {v = Some x} refl ((coded_option R.coded).inj (Some x) None e)))

    pub learns : (v j : Option R.Denot) (x : R.Denot) → ⟦ fixes R i v x ⟧ ∗ ⟦ learnt R i j ⟧ ⊢ ⟦ fixes R i v x ⟧ ∗ ⟦ told v j x ⟧
    learns (Some y) j x = qed 𝓛 (‵ ftrue ∷ ‵ (learnt R i j) ∷ []) ∵ keep ! (0 ∷ []) $ nothing ! $ done !
    learns None None x = qed 𝓛 (‵ (fixed R i x) ∷ ‵ ftrue ∷ []) ∵ fsplit ! $ res_dup ! $ move ! (0 ∷ 2 ∷ []) $ fjoin ! $ frame ! $
        keep ! (0 ∷ []) $ nothing ! $ fpack ! (Agrees None x) (λ _. ftrue) tt $ move ! (1 ∷ 0 ∷ []) $ fjoin ! $ done !
    learns None (Some y) x = qed 𝓛 (‵ (fixed R i x) ∷ ‵ (learnt R i (Some y)) ∷ []) ∵ fsplit ! $ move ! (2 ∷ 1 ∷ []) $
        use2 𝓛 (given (code R (Some y) ≡ code R (Some x)) (‵ (fres i (code R (Some y))) ⊛ ‵ (fauth i (code R (Some x))))) (𝓛.names.res_agree i (code R (Some y)) (code R (Some x))) $
        learn ! (λ e. split ! $ drop ! $ move ! (1 ∷ []) $ res_dup ! $ move ! (0 ∷ 2 ∷ []) $ fjoin ! $ frame ! $
        nothing ! $ fpack ! (Agrees (Some y) x) (λ _. ftrue) (subst (λ (u : Option R.Denot). Agrees u x) (sym ((coded_option R.coded).inj (Some y) (Some x) e)) refl) $ move ! (1 ∷ 0 ∷ []) $ fjoin ! $ done !)

  module _ (i : ℕ) (y : Bool) (v : Option R.Denot) (Q : R.Denot → Type 0) where
    abbrev pub Kept : Ptr → Fml
    Kept = kept R k h i y v Q

    tested_twice : (p : Ptr) (u : Option R.Denot) → ⟦ tested u p ⟧ ⊢ ⟦ tested u p ⟧ ∗ ⟦ tested u p ⟧
    tested_twice p None = qed 𝓛 (‵ (testable p) ∷ []) ∵ fpick ! (λ t. fpack ! (Testable p) (λ _. ftrue) t $ nothing ! $ fpack ! (Testable p) (λ _. ftrue) t $ done !)
    tested_twice p (Some x) = qed 𝓛 (‵ ftrue ∷ []) ∵ nothing ! $ done !

    -- the block at p, and that its value is one that the word may show
    abbrev pub Block : Ptr → Item 𝓤
    Block p = some (λ (x : R.Denot). given (Q x) (‵ (freeable R k p x)))

    pub held_block : (p : Ptr) → y ≡ true → ⟦ fdead home ⟧ ∗ ⟦ fex (Loan R) (held R k h i y v Q p) ⟧ ⊢ H.⇛ (mean 𝓛 (Block p))
    held_block p owning = qed 𝓛 (‵ (fdead home) ∷ ‵ (fex (Loan R) (held R k h i y v Q p)) ∷ []) ∵ updating ! $ move ! (1 ∷ []) $ fpick ! (λ s. fsplit3 ! $ drop ! $ move ! (1 ∷ []) $ fpick ! (λ so. drop ! $
        rewrite ! 0 (λ (w : Bool). ‵ (right R k h w p s.0 s.1)) owning refl $ move ! (1 ∷ 0 ∷ []) $ use2 𝓛 (later (‵ (freeable R k p s.0))) (comes_home p s.0 s.1) $ await ! tt $ now ! $
        show ! (λ (x : R.Denot). guard 𝓤 (Q x) ⟦ freeable R k p x ⟧) s.0 $ check ! so $ done !))

    low_block : (b o : ℕ) → v ≡ None → ⟦ Kept (block_ptr b o) ⟧ ⊢ guard 𝓤 (Testable (block_ptr b o)) ⟦ Kept (block_ptr b o) ⟧
    low_block b o unset = let p : Ptr = block_ptr b o in qed 𝓛 (‵ (Kept p) ∷ []) ∵ fsplit ! $ rewrite ! 0 (λ (u : Option R.Denot). ‵ (tested u p)) unset refl $ fpick ! (λ low. check ! low $
        fpack ! (Testable p) (λ _. ftrue) low $ rewrite ! 0 (λ (u : Option R.Denot). ‵ (tested u p)) (sym unset) refl $ fjoin ! $ done !)

    pub remembers : (p : Ptr) (x : R.Denot) (i' : ℕ) (Q' : R.Denot → Type 0) → v ≡ None → ((z : R.Denot) → Q z → x ≡ z → Q' z)
        → ⟦ Kept p ⟧ ∗ ⟦ learnt R i (Some x) ⟧ ⊢ guard 𝓤 (Q x) ⟦ kept R k h i' y (Some x) Q' p ⟧
    remembers null_ptr x i' Q' unset weaker = qed 𝓛 (‵ (Kept null_ptr) ∷ ‵ (learnt R i (Some x)) ∷ []) ∵ fpick ! (λ e. rewrite ! 0 (λ (u : Option R.Denot). ‵ (blank R i u)) e refl $
        use2 𝓛 (given (Some x ≡ None) (‵ (free R i))) (nothing_known i (Some x)) $ learn ! (λ n. absurd (not_none {v = Some x} refl n)))
    remembers (block_ptr b o) x i' Q' unset weaker = let p : Ptr = block_ptr b o in let V : Option R.Denot = Some x in
        qed 𝓛 (‵ (Kept p) ∷ ‵ (learnt R i (Some x)) ∷ []) ∵ fsplit ! $ drop ! $ fpick ! (λ s. fsplit3 ! $ move ! (2 ∷ 3 ∷ []) $ fpick ! (λ so.
        -- [what its name says; the note; the view; the right]
        rewrite ! 0 (λ (u : Option R.Denot). ‵ (fixes R i u s.0)) unset refl $ use2 𝓛 (‵ (fixed R i s.0) ⊛ ‵ (told i None V s.0)) (learns i None V s.0) $ split ! $ drop ! $
        fsplit ! $ drop ! $ fpick ! (λ same. check ! (subst Q (sym same) so) $
        fpack ! (Q' s.0) (λ _. fixes R i' V s.0) (weaker s.0 so same) $ move ! (1 ∷ 2 ∷ 0 ∷ []) $ fjoin3 ! $ fpack ! (Loan R) (held R k h i' y V Q' p) s $ nothing ! $ fjoin ! $ done !)))

    module _ (j : Option R.Denot) where
      abbrev pub seen : Ptr → Loan R → Fml
      seen p s = fsep (view R h p s) (fex (Q s.0) (λ _. told i v j s.0))

      -- what a load takes away; `none` stands at null
      abbrev pub glimpse : Fml → Ptr → Fml
      glimpse none null_ptr = none
      glimpse none (block_ptr b o) = fsep (tested v (block_ptr b o)) (fex (Loan R) (seen (block_ptr b o)))

      abbrev pub unknown : Fml
      unknown = fex (v ≡ None) (λ _. is_so (j ≡ None))

      glimpsed : (none : Fml) (b o : ℕ) → ⟦ Kept (block_ptr b o) ⟧ ∗ ⟦ learnt R i j ⟧ ⊢ ⟦ Kept (block_ptr b o) ⟧ ∗ ⟦ glimpse none (block_ptr b o) ⟧
      glimpsed none b o = let p : Ptr = block_ptr b o in qed 𝓛 (‵ (Kept p) ∷ ‵ (learnt R i j) ∷ []) ∵ fsplit ! $ use1 𝓛 (‵ (tested v p) ⊛ ‵ (tested v p)) (tested_twice p v) $ split ! $ move ! (2 ∷ []) $ fpick ! (λ s.
          let mine : Loan R = (s.0, s.1, Share.left s.2) in let shown : Loan R = (s.0, s.1, Share.right s.2) in fsplit3 ! $
          use1 𝓛 (‵ (view R h p mine) ⊛ ‵ (view R h p shown)) (halved p s) $ split ! $ move ! (3 ∷ []) $ fpick ! (λ so. move ! (0 ∷ 6 ∷ []) $
          -- [what its name says; the note; the word's view; the view shown; the right; tested, twice]
          use2 𝓛 (‵ (fixes R i v s.0) ⊛ ‵ (told i v j s.0)) (learns i v j s.0) $ split ! $ fpack ! (Q s.0) (λ _. fixes R i v s.0) so $ move ! (2 ∷ 4 ∷ 0 ∷ []) $ fjoin3 ! $
          fpack ! (Loan R) (held R k h i y v Q p) mine $ move ! (3 ∷ 0 ∷ []) $ fjoin ! $ frame ! $
          fpack ! (Q s.0) (λ _. told i v j s.0) so $ move ! (1 ∷ 0 ∷ []) $ fjoin ! $ fpack ! (Loan R) (seen p) shown $ move ! (1 ∷ 0 ∷ []) $ fjoin ! $ done !))

      peek : (p : Ptr) → ⟦ Kept p ⟧ ∗ ⟦ learnt R i j ⟧ ⊢ ⟦ Kept p ⟧ ∗ ⟦ glimpse unknown p ⟧
      peek null_ptr = qed 𝓛 (‵ (Kept null_ptr) ∷ ‵ (learnt R i j) ∷ []) ∵ fpick ! (λ e. rewrite ! 0 (λ (u : Option R.Denot). ‵ (blank R i u)) e refl $
          use2 𝓛 (given (j ≡ None) (‵ (free R i))) (nothing_known i j) $ learn ! (λ n. rewrite ! 0 (λ (u : Option R.Denot). ‵ (blank R i u)) (sym e) refl $
          fpack ! (v ≡ None) (λ _. blank R i v) e $ nothing ! $ fpack ! (j ≡ None) (λ _. ftrue) n $ fpack ! (v ≡ None) (λ _. fex (j ≡ None) (λ _. ftrue)) e $ move ! (1 ∷ 0 ∷ []) $ done !))
      peek (block_ptr b o) = glimpsed unknown b o

      module _ (α : Lft) (b o : ℕ) (s : Share) where
        abbrev J : Fml
        J = in_cell Kept b o

        abbrev at_word : Ptr → Fml
        at_word p = fsep (cell b o p) (Kept p)

        abbrev Load : Ptr → Pr
        Load = PtrLies 𝓛 α s J b o Ptr (λ p. p) (λ p. p) (λ _. ftrue) (glimpse unknown)

        loaded : ⟦ J ⟧ ∗ ⟦ learnt R i j ⟧ ⊢ base.Logic.upd 𝓤 (ex 𝓤 Load)
        loaded = qed 𝓛 (‵ J ∷ ‵ (learnt R i j) ∷ []) ∵ suffices ! _ (upd_i 𝓤 (ex 𝓤 Load)) $ fpick ! (λ p. fsplit ! $ show ! Load p $ frame ! $ nothing ! $ frame ! $
            assume ! (‵ (cell b o p)) $ suffices ! _ (upd_i 𝓤 (⟦ J ⟧ ∗ ⟦ glimpse unknown p ⟧)) $ move ! (1 ∷ 2 ∷ []) $
            use2 𝓛 (‵ (Kept p) ⊛ ‵ (glimpse unknown p)) (peek p) $ split ! $ move ! (2 ∷ 0 ∷ []) $ fjoin ! $ fpack ! Ptr at_word p $ done !)

        pub reads : A.inv (fbor α J) ∗ (A.lft α s ∗ ⟦ learnt R i j ⟧) ⊢ asks_ptr 𝓛 (block_ptr b o) (λ p. p) (λ p. fsep (flft α s) (glimpse unknown p))
        reads = borrowed_ptr 𝓛 α s J b o Ptr (λ p. p) (λ p. p) (λ _. ftrue) (glimpse unknown) ⟦ learnt R i j ⟧ loaded

      module _ (α : Lft) (b o : ℕ) (s : Share) (nb no ν : ℕ) (x : R.Denot) (low : Testable (block_ptr nb no)) where
        abbrev new : Ptr
        new = block_ptr nb no

        abbrev Word : Fml
        Word = in_cell Kept b o

        abbrev in_word : Ptr → Fml
        in_word p = fsep (cell b o p) (Kept p)

        abbrev pub won : Ptr → Fml
        won p = fsep (view R h new (x, ν, Share.right full_share)) (fsep (learnt R i (Some x)) (is_so (j ≡ None)))

        abbrev pub lost : Ptr → Fml
        lost p = fsep (mine new x ν) (glimpse ffalse p)

        abbrev Exchange : Ptr × Bool → Pr
        Exchange = Compared 𝓛 α s Word b o null_ptr new won lost

        module _ (owning : y ≡ true) (unset : v ≡ None) (fits : Q x) where
          sets : ⟦ cell b o new ⟧ ∗ ⟦ Kept null_ptr ⟧ ∗ ⟦ mine new x ν ⟧ ∗ ⟦ learnt R i j ⟧ ⊢ base.Logic.upd 𝓤 (⟦ Word ⟧ ∗ ⟦ won null_ptr ⟧)
          sets = let G : Pr = ⟦ Word ⟧ ∗ ⟦ won null_ptr ⟧ in let kept_part : Loan R = (x, ν, Share.left full_share) in let none : Gv = code R None in let some_x : Gv = code R (Some x) in
              qed 𝓛 (‵ (cell b o new) ∷ ‵ (Kept null_ptr) ∷ ‵ (mine new x ν) ∷ ‵ (learnt R i j) ∷ []) ∵ move ! (1 ∷ []) $ fpick ! (λ e. rewrite ! 0 (λ (u : Option R.Denot). ‵ (blank R i u)) e refl $
              move ! (0 ∷ 3 ∷ []) $ use2 𝓛 (given (j ≡ None) (‵ (free R i))) (nothing_known i j) $ learn ! (λ n.
              use1 𝓛 (raw (base.Logic.upd 𝓤 (A.obs i some_x ∗ A.auth i some_x))) (𝓛.names.name_set_upd i none none some_x) $ settle 𝓛 G (‵ (fobs i some_x) ⊛ ‵ (fauth i some_x)) $ suffices ! _ (upd_i 𝓤 G) $ split ! $
              use1 𝓛 (‵ (fres i some_x)) (𝓛.names.obs-res i some_x) $ res_dup ! $ move ! (0 ∷ 2 ∷ []) $ fjoin ! $
              rewrite ! 0 (λ (u : Option R.Denot). ‵ (fixes R i u x)) (sym unset) refl $ fpack ! (Q x) (λ _. fixes R i v x) fits $
              -- [that the value is x; the note; the cell; my block]
              move ! (3 ∷ []) $ fsplit ! $ use1 𝓛 (‵ (view R h new kept_part) ⊛ ‵ (view R h new (x, ν, Share.right full_share))) (halved new (x, ν, full_share)) $ split ! $ move ! (2 ∷ []) $
              rewrite ! 0 (λ (w : Bool). ‵ (right R k h w new x ν)) (sym owning) refl $ move ! (1 ∷ 0 ∷ 3 ∷ []) $ fjoin3 ! $
              fpack ! (Loan R) (held R k h i y v Q new) kept_part $ nothing ! $ fpack ! (Testable new) (λ _. ftrue) low $ rewrite ! 0 (λ (u : Option R.Denot). ‵ (tested u new)) (sym unset) refl $ fjoin ! $
              -- [what stands beside the address; the view; the note; the cell]
              move ! (3 ∷ 0 ∷ []) $ fjoin ! $ fpack ! Ptr in_word new $ frame ! $ nothing ! $ fpack ! (j ≡ None) (λ _. ftrue) n $ move ! (2 ∷ 0 ∷ []) $ fjoin ! $ move ! (1 ∷ 0 ∷ []) $ fjoin ! $ done !))

          compared : (p : Ptr) → ⟦ cell b o p ⟧ ∗ ⟦ Kept p ⟧ ∗ ⟦ mine new x ν ⟧ ∗ ⟦ learnt R i j ⟧ ⊢ ex 𝓤 Exchange
          compared null_ptr = qed 𝓛 (‵ (cell b o null_ptr) ∷ ‵ (Kept null_ptr) ∷ ‵ (mine new x ν) ∷ ‵ (learnt R i j) ∷ []) ∵ show ! Exchange (null_ptr, true) $ frame ! $
              use0 𝓛 (‵ (alike null_ptr null_ptr true)) (alike_null 𝓛 null_ptr (lit< tt)) $ frame ! $ assume ! (‵ (cell b o new)) $ by ! sets
          compared (block_ptr pb po) = let p : Ptr = block_ptr pb po in qed 𝓛 (‵ (cell b o p) ∷ ‵ (Kept p) ∷ ‵ (mine new x ν) ∷ ‵ (learnt R i j) ∷ []) ∵ show ! Exchange (p, false) $ frame ! $
              use1 𝓛 (given (Testable p) (‵ (Kept p))) (low_block pb po unset) $ learn ! (λ t. use0 𝓛 (‵ (alike p null_ptr false)) (alike_null 𝓛 p t) $ frame ! $
              assume ! (‵ (cell b o p)) $ suffices ! _ (upd_i 𝓤 (⟦ Word ⟧ ∗ ⟦ lost p ⟧)) $ move ! (1 ∷ 3 ∷ []) $ use2 𝓛 (‵ (Kept p) ⊛ ‵ (glimpse ffalse p)) (glimpsed ffalse pb po) $ split ! $
              move ! (2 ∷ 0 ∷ []) $ fjoin ! $ fpack ! Ptr in_word p $ frame ! $ move ! (1 ∷ 0 ∷ []) $ fjoin ! $ done !)

          pub offers : A.inv (fbor α Word) ∗ (A.lft α s ∗ (⟦ mine new x ν ⟧ ∗ ⟦ learnt R i j ⟧)) ⊢ compares 𝓛 (block_ptr b o) null_ptr new (λ p. fsep (flft α s) (won p)) (λ p. fsep (flft α s) (lost p))
          offers = borrowed_compares 𝓛 α s Word b o null_ptr new won lost (⟦ mine new x ν ⟧ ∗ ⟦ learnt R i j ⟧) (qed 𝓛 (‵ Word ∷ ‵ (mine new x ν) ∷ ‵ (learnt R i j) ∷ []) ∵
              suffices ! _ (upd_i 𝓤 (ex 𝓤 Exchange)) $ fpick ! (λ p. fsplit ! $ by ! (compared p)))

-- what stands beside a pointer, by cases
module _ (R : RattleType) (k : Ty → Ptr → Fml) (h i : ℕ) (y : Bool) (v : Option R.Denot) (Q : R.Denot → Type 0) {M : Type 1} {𝓤 : Ura M} {𝓛 : Logic 𝓤} {K : Type 0} {Γ : List (Item 𝓤)} {G : Goal 𝓤 𝓛.H} where
  pub where_set : K → (p : Ptr) → IsSome v → ((b o : ℕ) → p ≡ block_ptr b o → Seq K 𝓛 (‵ (fex (Loan R) (held R k h i y v Q (block_ptr b o))) ∷ Γ) G) → Seq K 𝓛 (‵ (kept R k h i y v Q p) ∷ Γ) G
  where_set t null_ptr set one = fpick t (λ e. absurd (not_none set e))
  where_set t (block_ptr b o) set one = fsplit t $ drop t $ one b o refl
