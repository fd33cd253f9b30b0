-- What a note knows is had twice. A note behind a `&mut` lies open while the word is read, and is shut again with what it knows then.
-- Assumes `Logic`.
use Rattle.std.proofs.Common.{ℕ, Option, Some, None, [], ◌∷◌, refl}
use seplogic.Ra.Ura.{Ura}
use base.Fml.{ftrue, fres}
use base.Logic.{ent, sep}
use types.Logic.{Logic, sem}
use types.Kit.{‵, ◌$◌, ◌∵◌, !, qed, done}
use types.Tokens.{res_dup}
use denote.Steps.{nothing}
use denote.RattleType.{RattleType}
use Rattle.table_cell.specs.Notes.{code, learnt}
use Rattle.table_cell.specs.contracts.note.Note as note
use Rattle.table_cell.proofs.Ajar.{Marked}
use Rattle.table_cell.proofs.Tokens.{InMemory}

module _ (R : RattleType) (i : ℕ) {M : Type 1} {𝓤 : Ura M} (𝓛 : Logic 𝓤) where
  pub learnt_twice : (k : Option R.Denot) → ent 𝓤 (sem 𝓛 (learnt R i k)) (sep 𝓤 (sem 𝓛 (learnt R i k)) (sem 𝓛 (learnt R i k)))
  learnt_twice None = qed 𝓛 (‵ ftrue ∷ []) ∵ nothing ! $ done !
  learnt_twice (Some x) = qed 𝓛 (‵ (fres i (code R (Some x))) ∷ []) ∵ res_dup ! $ done !

module _ (R : RattleType) where
  abbrev pub Note : RattleType
  Note = note.the_row R

  -- the note once it knows k: it speaks of the same word
  abbrev pub knowing : Note.Denot → Option R.Denot → Note.Denot
  knowing n k = record { marker = n.marker; of = n.of; known = k }

  abbrev pub the_note : Marked
  the_note = record { row = Note; mark = InMemory; owns = λ n. learnt R n.of n.known; is = λ n vs. refl }
