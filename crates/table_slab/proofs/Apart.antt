-- Nobody has the right to a slot twice. Assumes `Logic`.
use Rattle.std.proofs.Common.{◌≡◌, ℕ, ◌⊎◌, inl, inr, [], ◌∷◌, refl, sym}
use Rattle.std.specs.Prelude.{Option}
use Rattle.std.proofs.lemmas.Bool.{cases_eq}
use seplogic.Ra.Ura.{Ura}
use base.Logic.{SProp, ent, sep, emp, via, never, never_e}
use types.Logic.{Logic, sem}
use types.Kit.{‵, raw, ◌$◌, ◌∵◌, !, qed, by, move, use0, rewrite, done}
use contract.Monad.{fact, fact_i}
use denote.RattleType.{RattleType}
use denote.Struct.Struct.{Struct}
use denote.Struct.Owning.{shape}
use Rattle.table_cell.proofs.Ajar.{Marked}
use Rattle.table_slab.specs.Rights.{room}
use Rattle.table_slab.specs.contracts.rights.Room as Room
use Rattle.table_slab.proofs.Tokens.{rooms_differ}

-- a right behind a `&mut`
abbrev pub the_room : RattleType → Marked
the_room R = record { row = Room.the_row R; mark = (Struct (shape (Room.the_type R))).own_val (record {}, tt); owns = λ r. room R r.of r.value; is = λ r vs. refl }

module _ {M : Type 1} {𝓤 : Ura M} (𝓛 : Logic 𝓤) (R : RattleType) (γ δ : ℕ) (v w : Option R.Denot) where
  abbrev Apart : Type 0
  Apart = γ ≡ δ → ⊥

  abbrev Both : SProp 𝓤
  Both = sep 𝓤 (sem 𝓛 (room R γ v)) (sem 𝓛 (room R δ w))

  abbrev Shown : SProp 𝓤
  Shown = sep 𝓤 (sem 𝓛 (room R γ v)) (sep 𝓤 (sem 𝓛 (room R δ w)) (fact 𝓤 Apart))

  apart_by : (γ ≡ δ) ⊎ (γ ≡ δ → ⊥) → ent 𝓤 Both Shown
  apart_by (inl e) = qed 𝓛 (‵ (room R γ v) ∷ ‵ (room R δ w) ∷ []) ∵ rewrite ! 1 (λ (k : ℕ). ‵ (room R k w)) (sym e) refl $ by ! (via 𝓤 (never 𝓤) (rooms_differ 𝓛 R γ v w) (never_e 𝓤 Shown))
  apart_by (inr ne) = qed 𝓛 (‵ (room R γ v) ∷ ‵ (room R δ w) ∷ []) ∵ use0 𝓛 (raw (fact 𝓤 Apart)) (fact_i 𝓤 Apart (emp 𝓤) ne) $ move ! (1 ∷ 2 ∷ 0 ∷ []) $ done !

  pub apart_slots : ent 𝓤 Both Shown
  apart_slots = apart_by (cases_eq γ δ)
