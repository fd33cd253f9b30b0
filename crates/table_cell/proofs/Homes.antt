-- A `&` to a home says that it ends no later than the home. Assumes `Logic`.
use Rattle.std.proofs.Common.{[], ◌∷◌, ◌++◌}
use seplogic.Ra.Ura.{Ura}
use base.Fraction.{full_share}
use base.Logic.{ent, sep}
use base.Fml.{Lft, Share, Fml, flft, fbor}
use base.Before.{before}
use contract.BorrowLft.{meet_⊑_left}
use types.Logic.{Logic, sem, lfts}
use types.Kit.{‵, raw, ◌⊛◌, ◌$◌, ◌∵◌, !, qed, move, drop, split, use0, use1, use2, updating, now, done}
use types.Tokens.{bor_fracture, bor_open, obor_close}
use types.Na.{before-Incl, before_lent}
use denote.Sharing.{ends, said}
use denote.Struct.Lending.{Lends}
use Rattle.core.proofs.cell.Borrows.{by_one}

module _ {M : Type 1} {𝓤 : Ura M} (𝓛 : Logic 𝓤) where
  open 𝓛 use {H, A}

  pub Lends-home : (h : Lft) (l : Lft) → Lends 𝓛 (flft h full_share) (ends h) l
  Lends-home h l κ ts inc sp = qed 𝓛 (‵ (fbor κ (flft h full_share)) ∷ raw (lfts 𝓛 ts) ∷ []) {P = H.⇛ (sep 𝓤 (sem 𝓛 (before κ h)) (lfts 𝓛 ts))} (updating ! $ bor_fracture ! tt (λ q. flft h q) full_share $
      use0 𝓛 (‵ (before (h ++ κ) h)) (before-Incl 𝓛 (h ++ κ) h (meet_⊑_left h κ)) $ move ! (1 ∷ 0 ∷ []) $ use2 𝓛 (‵ (before κ h)) (before_lent 𝓛 κ h h) $ now ! $ done !)

  -- what can be had twice is had while its borrow lies open, and goes back too
  had_in_passing : (P : Fml) → ent 𝓤 (sem 𝓛 P) (sep 𝓤 (sem 𝓛 P) (sem 𝓛 P)) → (κ : Lft) (q : Share) → ent 𝓤 (sep 𝓤 (A.bor κ P) (A.lft κ q)) (H.⇛ (sep 𝓤 (sem 𝓛 P) (A.lft κ q)))
  had_in_passing P twice κ q = qed 𝓛 (‵ (fbor κ P) ∷ ‵ (flft κ q) ∷ []) ∵ updating ! $ bor_open ! tt $ move ! (1 ∷ []) $ use1 𝓛 (‵ P ⊛ ‵ P) twice $ split ! $
      move ! (2 ∷ 0 ∷ []) $ obor_close ! tt $ drop ! $ move ! (1 ∷ 0 ∷ []) $ now ! $ done !

  pub Lends-twice : (P : Fml) → ent 𝓤 (sem 𝓛 P) (sep 𝓤 (sem 𝓛 P) (sem 𝓛 P)) → (l : Lft) → Lends 𝓛 P (said P) l
  Lends-twice P twice l κ ts inc within = by_one 𝓛 κ ts within (A.bor κ P) (sem 𝓛 P) (had_in_passing P twice κ)
