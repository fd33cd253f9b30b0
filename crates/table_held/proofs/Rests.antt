-- A value behind a `&mut` that is said for good: the loan ends with it, and it is lent by `&` from then on. Assumes `Logic`.
--     rests      the loan ends with a value of which P holds
--     settled    what is left of the loan is a `&` to the value
use Rattle.std.proofs.Common.{List, [], ◌∷◌, refl, sym}
use Rattle.std.specs.Prelude.{⊤}
use Rattle.table_held.specs.Rests.{RestsAs}
use base.Fml.{Fml, Lft, Share, ftrue, flft, fsep, fseps, fwand, fupd, fdead, fres, fauth, fbor, Incl, Incl-refl}
use base.Logic.{ent, sep, emp, fst∗, upd_i}
use denote.Follow.{such_by, follows_by}
use denote.Memory.{mem, shared_of}
use denote.Opens.{hide}
use denote.Param.Laws.{Laws}
use denote.RattleType.{RattleType}
use denote.Ref.{MutBor, ShrRef}
use denote.Steps.{nothing}
use mathlib.Core.Option.{none}
use mir.Syntax.{named}
use mir.Val.{Val, vptr}
use seplogic.Ra.Ura.{Ura}
use types.Kit.{‵, ◌⊛◌, later, ◌$◌, ◌∵◌, !, qed, move, keep, drop, split, fsplit, fjoin, fpick, fpack, feq_i, use1, use2, assume, suffices, await, rewrite, updating, now, done}
use types.Logic.{Logic, sem}
use types.SemTy.{Body}
use types.Tokens.{res_dup, res_agree, bor_open, obor_alter}

module _ {M : Type 1} {𝓤 : Ura M} (𝓛 : Logic 𝓤) (R : RattleType) (s : MutBor R.Denot) (w : R.Denot) where
  open 𝓛 use {H, A}

  abbrev Said : Fml
  Said = fres s.ghost_name (R.coded.code w)

  pub rests : (P : R.Denot → Type 0) → P w → ent 𝓤 (sem 𝓛 Said) (sem 𝓛 (RestsAs R s P))
  unfolding such_by follows_by
  rests P p = qed 𝓛 (‵ Said ∷ []) ∵
      fpack ! ((f : (R.Denot → R.Denot) × R.Denot) × ((z : R.Denot) → ⊤) × P f.1) (λ f. follows_by R.Denot R.Denot R.coded.code R.coded.code s.ghost_name none f.0.0 f.0.1) ((λ z. w, w), λ z. tt, p) $ done !

  module _ (L : Laws R) (κ : Lft) (q : Share) (lives : Incl κ R.lives) where
    abbrev Lies : Fml
    Lies = (mem R).own_at w s.ref_ptr.0 s.ref_ptr.1

    abbrev Lent : Fml
    Lent = Body (mem R) s.ref_ptr.0 s.ref_ptr.1 s.ghost_name

    abbrev Auth : Fml
    Auth = fauth s.ghost_name (R.coded.code w)

    abbrev Back : Fml
    Back = fwand (fsep (fdead κ) (fseps (Lies ∷ []))) (fupd Lent)

    abbrev pub Settled : Fml
    Settled = (ShrRef (named 0) κ R).own_val (record { ref_ptr = s.ref_ptr; now = w }) (vptr s.ref_ptr.0 s.ref_ptr.1 ∷ [])

    gives_back : ent 𝓤 (sem 𝓛 Auth) (sem 𝓛 Back)
    unfolding fseps
    gives_back = qed 𝓛 (‵ Auth ∷ []) ∵ assume ! (‵ (fsep (fdead κ) (fsep Lies ftrue))) $ suffices ! (sem 𝓛 Lent) (upd_i 𝓤 (sem 𝓛 Lent)) $
        fsplit ! $ drop ! $ fsplit ! $ keep ! (0 ∷ 2 ∷ []) $ fjoin ! $ fpack ! R.Denot (λ y. fsep ((mem R).own_at y s.ref_ptr.0 s.ref_ptr.1) (fauth s.ghost_name (R.coded.code y))) w $ done !

    shares : ent 𝓤 (sep 𝓤 (A.bor κ Lies) (A.lft κ q)) (H.⇛ (sep 𝓤 (sem 𝓛 (shared_of R w s.ref_ptr.0 s.ref_ptr.1 κ)) (A.lft κ q)))
    shares = L.shares 𝓛 w κ ((κ, q) ∷ []) s.ref_ptr.0 s.ref_ptr.1 lives (Incl-refl κ)

    pub settled : ent 𝓤 (sep 𝓤 (sem 𝓛 Said) (sep 𝓤 (A.bor κ Lent) (A.lft κ q))) (H.⇛ (sep 𝓤 (sem 𝓛 Settled) (sep 𝓤 (sem 𝓛 Said) (A.lft κ q))))
    unfolding fseps
    settled = qed 𝓛 (‵ Said ∷ ‵ (fbor κ Lent) ∷ ‵ (flft κ q) ∷ []) ∵ updating ! $ res_dup ! $ move ! (2 ∷ 3 ∷ []) $ bor_open ! tt $ move ! (1 ∷ []) $ fpick ! (λ h. fsplit ! $
        -- [the value; its name; the open borrow; said; said]
        move ! (3 ∷ 1 ∷ []) $ res_agree ! R.coded (λ e. rewrite ! 2 (λ (z : R.Denot). ‵ ((mem R).own_at z s.ref_ptr.0 s.ref_ptr.1)) (sym e) refl $ rewrite ! 1 (λ (z : R.Denot). ‵ (fauth s.ghost_name (R.coded.code z))) (sym e) refl $
        move ! (1 ∷ []) $ use1 𝓛 (‵ Back) gives_back $
        -- [the way back; said; the value; the open borrow; said]
        nothing ! $ move ! (3 ∷ 0 ∷ []) $ fjoin ! $ move ! (3 ∷ 0 ∷ 1 ∷ []) $ obor_alter ! tt (Lies ∷ []) $
        use1 𝓛 (‵ (fbor κ Lies)) (fst∗ 𝓤 (A.bor κ Lies) (emp 𝓤)) $ use2 𝓛 (later (‵ (shared_of R w s.ref_ptr.0 s.ref_ptr.1 κ) ⊛ ‵ (flft κ q))) shares $ await ! tt $ split ! $ hide ! $
        feq_i ! (List Val) (vptr s.ref_ptr.0 s.ref_ptr.1 ∷ []) (vptr s.ref_ptr.0 s.ref_ptr.1 ∷ []) refl $ fjoin ! $ now ! $ keep ! (0 ∷ 2 ∷ 1 ∷ []) $ done !))
