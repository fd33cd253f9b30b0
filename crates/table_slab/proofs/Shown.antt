-- What is there for good: whoever has it shares it as it is, and a `&` to it shows it. Assumes `Logic`.
--     good_laws      what can be had twice is what a `&` to it holds, at each lifetime
--     written_shown, site_shown      a `&` to what is known shows it
--     one_value, one_site      two of these of one name show one value
use Rattle.std.proofs.Common.{◌≡◌, ℕ, [], ◌∷◌, sym, refl}
use seplogic.Ra.Ura.{Ura}
use base.Logic.{ent, sep, snd∗}
use base.Fml.{Lft, Fml}
use base.Before.{before}
use contract.Monad.{fact}
use types.Logic.{Logic, sem}
use types.Kit.{‵, ◌$◌, ◌∵◌, !, qed, by, drop, fsplit, rewrite, use1, move, done}
use denote.RattleType.{RattleType}
use denote.Memory.{hidden_shr}
use denote.Opens.{unhide}
use denote.Sharing.{ShrLaws, said}
use Rattle.std.specs.declared.option.Option.TheVariants.{Some}
use Rattle.table_cell.specs.Notes.{learnt}
use Rattle.table_slab.specs.Rights.{written}
use Rattle.table_slab.specs.contracts.rights.Written as Written
use Rattle.table_slab.specs.contracts.site.Site as Site
use Rattle.table_slab.proofs.Tokens.{written_agree}
use Rattle.table_slab.proofs.Sites.{learnt_agree}

pub good_laws : (P : Fml) → ((M : Type 1) (𝓤 : Ura M) (𝓛 : Logic 𝓤) → ent 𝓤 (sem 𝓛 P) (sep 𝓤 (sem 𝓛 P) (sem 𝓛 P))) → ShrLaws (said P)
good_laws P twice = record {
  contraction = λ M 𝓤 𝓛 κ. twice M 𝓤 𝓛;
  mono = λ M 𝓤 𝓛 short long. snd∗ 𝓤 (sem 𝓛 (before short long)) (sem 𝓛 P);
}

module _ {M : Type 1} {𝓤 : Ura M} (𝓛 : Logic 𝓤) (R : RattleType) (κ : Lft) (b o : ℕ) where
  pub written_shown : (w : (Written.the_row R).Denot) → ent 𝓤 (sem 𝓛 (hidden_shr (Written.the_row R) κ w b o)) (sem 𝓛 (written R w.of w.value))
  written_shown w = qed 𝓛 (‵ (hidden_shr (Written.the_row R) κ w b o) ∷ []) ∵ unhide ! $ fsplit ! $ drop ! $ done !

  pub site_shown : (s : (Site.the_row R).Denot) → ent 𝓤 (sem 𝓛 (hidden_shr (Site.the_row R) κ s b o)) (sem 𝓛 (learnt R s.cell (Some s.value)))
  site_shown s = qed 𝓛 (‵ (hidden_shr (Site.the_row R) κ s b o) ∷ []) ∵ unhide ! $ fsplit ! $ drop ! $ done !

-- two references, at lifetimes and places of their own
module _ {M : Type 1} {𝓤 : Ura M} (𝓛 : Logic 𝓤) (R : RattleType) (κ μ : Lft) (b o c i : ℕ) where
  pub one_value : (w x : (Written.the_row R).Denot) → w.of ≡ x.of
      → ent 𝓤 (sep 𝓤 (sem 𝓛 (hidden_shr (Written.the_row R) κ w b o)) (sem 𝓛 (hidden_shr (Written.the_row R) μ x c i))) (fact 𝓤 (w.value ≡ x.value))
  one_value w x same = qed 𝓛 (‵ (hidden_shr (Written.the_row R) κ w b o) ∷ ‵ (hidden_shr (Written.the_row R) μ x c i) ∷ []) ∵
      use1 𝓛 (‵ (written R w.of w.value)) (written_shown 𝓛 R κ b o w) $ move ! (1 ∷ []) $ use1 𝓛 (‵ (written R x.of x.value)) (written_shown 𝓛 R μ c i x) $
      rewrite ! 0 (λ (γ : ℕ). ‵ (written R γ x.value)) (sym same) refl $ move ! (1 ∷ 0 ∷ []) $ by ! (written_agree 𝓛 R w.of w.value x.value)

  pub one_site : (s t : (Site.the_row R).Denot)
      → ent 𝓤 (sep 𝓤 (sem 𝓛 (hidden_shr (Site.the_row R) κ s b o)) (sem 𝓛 (hidden_shr (Site.the_row R) μ t c i))) (fact 𝓤 (s.cell ≡ t.cell → s.value ≡ t.value))
  one_site s t = qed 𝓛 (‵ (hidden_shr (Site.the_row R) κ s b o) ∷ ‵ (hidden_shr (Site.the_row R) μ t c i) ∷ []) ∵
      use1 𝓛 (‵ (learnt R s.cell (Some s.value))) (site_shown 𝓛 R κ b o s) $ move ! (1 ∷ []) $ use1 𝓛 (‵ (learnt R t.cell (Some t.value))) (site_shown 𝓛 R μ c i t) $
      move ! (1 ∷ 0 ∷ []) $ by ! (learnt_agree 𝓛 R s.cell t.cell s.value t.value)
