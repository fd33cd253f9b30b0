-- What is known of a word, as a value that has no bytes. Assumes `Logic`.
use Rattle.std.proofs.Common.{◌≡◌, ℕ, ◌⊎◌, inl, inr, [], ◌∷◌, refl, sym, ap}
use Rattle.std.proofs.lemmas.Bool.{cases_eq}
use seplogic.Ra.Ura.{Ura}
use base.Logic.{SProp, ent, sep, emp, via}
use contract.Monad.{fact, fact_i, fact_mono}
use types.Logic.{Logic, sem}
use types.Kit.{‵, ◌$◌, ◌∵◌, !, qed, by, drop, rewrite}
use denote.RattleType.{RattleType}
use denote.Param.Send.{IsSend, IsSync, sendable}
use denote.Struct.Owning
use denote.Struct.Struct
use Rattle.std.specs.declared.option.Option.TheVariants.{Some}
use Rattle.std.specs.Prelude.{Option, unwrap_or}
use Rattle.std.specs.Coded.{coded_option}
use Rattle.table_cell.specs.Notes.{learnt, code}
use Rattle.table_slab.proofs.Tokens.{res_same}
use Rattle.table_slab.specs.contracts.site.Site as Site
use Rattle.table_slab.proofs.Made.{token_val, with_marker}

module _ {M : Type 1} {𝓤 : Ura M} (𝓛 : Logic 𝓤) (R : RattleType) (γ : ℕ) (x : R.Denot) where
  pub learnt_twice : ent 𝓤 (sem 𝓛 (learnt R γ (Some x))) (sep 𝓤 (sem 𝓛 (learnt R γ (Some x))) (sem 𝓛 (learnt R γ (Some x))))
  learnt_twice = 𝓛.names.res_dup γ _

  pub site_made : ent 𝓤 (sem 𝓛 (learnt R γ (Some x))) (sem 𝓛 ((Site.the_row R).own_val (record { marker = record {}; cell = γ; value = x }) (token_val ∷ [])))
  site_made = with_marker 𝓛 R (learnt R γ (Some x))

module _ {M : Type 1} {𝓤 : Ura M} (𝓛 : Logic 𝓤) (R : RattleType) (γ δ : ℕ) (x y : R.Denot) where
  same_code : code R (Some x) ≡ code R (Some y) → x ≡ y
  same_code e = ap (λ (v : Option R.Denot). unwrap_or v x) ((coded_option R.coded).inj (Some x) (Some y) e)

  abbrev Both : SProp 𝓤
  Both = sep 𝓤 (sem 𝓛 (learnt R γ (Some x))) (sem 𝓛 (learnt R δ (Some y)))

  agree_by : (γ ≡ δ) ⊎ (γ ≡ δ → ⊥) → ent 𝓤 Both (fact 𝓤 (γ ≡ δ → x ≡ y))
  agree_by (inl e) = qed 𝓛 (‵ (learnt R γ (Some x)) ∷ ‵ (learnt R δ (Some y)) ∷ []) ∵ rewrite ! 1 (λ (k : ℕ). ‵ (learnt R k (Some y))) (sym e) refl $
      by ! (via 𝓤 _ (res_same 𝓛 γ (code R (Some x)) (code R (Some y))) (fact_mono 𝓤 _ (γ ≡ δ → x ≡ y) (λ c _. same_code c)))
  agree_by (inr ne) = qed 𝓛 (‵ (learnt R γ (Some x)) ∷ ‵ (learnt R δ (Some y)) ∷ []) ∵ drop ! $ drop ! $ by ! (fact_i 𝓤 (γ ≡ δ → x ≡ y) (emp 𝓤) (λ e. absurd (ne e)))

  pub learnt_agree : ent 𝓤 Both (fact 𝓤 (γ ≡ δ → x ≡ y))
  learnt_agree = agree_by (cases_eq γ δ)

pub site_send : (R : RattleType) → IsSend (Site.the_row R)
site_send R = record { owned = λ d vs. ((λ vss. (tt, ((λ uss. (tt, tt)), tt))), tt); leaving = λ k f vs. tt }

pub site_sync : (R : RattleType) → IsSync (Site.the_row R)
site_sync R = let fields : IsSync (denote.Struct.Struct.Struct (denote.Struct.Owning.shape (Site.the_type R))) = search sendable depth 20 in
    record { shared = λ d b o κ. (fields.shared (tt, tt) b o κ, tt) }
