-- Structs that have a marker and nothing else in memory, as a home, an ended home and a note: what they own there is the
-- same, it is made of nothing, and it tells their one machine value. Assumes `Logic`.
use Rattle.std.proofs.Common.{◌≡◌, List, [], ◌∷◌, ◌++◌, refl, ap, ◌∙◌}
use seplogic.Ra.Ura.{Ura}
use mir.Val.{Val, vstruct, of_list}
use base.Logic.{ent, emp}
use base.Fml.{Fml, fsep}
use types.Logic.{Logic, sem}
use types.Kit.{Item, Goal, Seq, ‵, ◌$◌, ◌∵◌, !, qed, drop, fsplit, fjoin, fpack, feq_i, use0, done}
use denote.RattleType.{RattleType, Valss}
use denote.Laws.{Is, shows}
use denote.RawPtr.{RawPtr}
use denote.Steps.{nothing, peeks}
use denote.Struct.Struct.{Shape, Struct, within}
use Rattle.table_cell.proofs.Values.{Mark, void, alone, marker_data}

abbrev pub token : Val
token = alone void

abbrev only_marker : Shape
only_marker = record { name = []; args = []; types = []; fields = Mark RawPtr ∷ [] }

abbrev MarkerAlone : RattleType
MarkerAlone = Struct only_marker

abbrev pub InMemory : List Val → Fml
InMemory = MarkerAlone.own_val (record {}, tt)

module _ {M : Type 1} {𝓤 : Ura M} (𝓛 : Logic 𝓤) where
  pub marker_of_nothing : ent 𝓤 (emp 𝓤) (sem 𝓛 (InMemory (token ∷ [])))
  marker_of_nothing = qed 𝓛 [] ∵ nothing ! $ use0 𝓛 (‵ ((Mark RawPtr).own_val (record {}) (void ∷ []))) (marker_data 𝓛 RawPtr) $ fjoin ! $
      feq_i ! _ (token ∷ []) _ refl $ fjoin ! $ fpack ! (Valss only_marker.fields) (within only_marker (record {}, tt) (token ∷ [])) (void ∷ [], tt) $ done !

-- what is owned beside the mark is left
module _ {M : Type 1} {𝓤 : Ura M} {𝓛 : Logic 𝓤} where
  pub beside_marker : {K : Type 0} {Γ : List (Item 𝓤)} {G : Goal 𝓤 𝓛.H} {P : Fml} → K → (vs : List Val)
      → (vs ≡ token ∷ [] → Seq K 𝓛 (‵ P ∷ Γ) G) → Seq K 𝓛 (‵ (fsep (InMemory vs) P) ∷ Γ) G
  beside_marker t vs next = fsplit t $ peeks t MarkerAlone (Is MarkerAlone) (shows 𝓛 MarkerAlone) (record {}, tt) vs (λ is. drop t $
      next (is.1.0 ∙ ap (λ (fields : List Val). vstruct (of_list (fields ++ [])) ∷ []) is.1.1.0.1.0))
