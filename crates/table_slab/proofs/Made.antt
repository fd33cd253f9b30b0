-- The rights to slots as values, which have no bytes. Assumes `Logic`.
use Rattle.std.proofs.Common.{◌≡◌, ℕ, Bool, true, false, arith, List, [], ◌∷◌, ◌++◌, refl, ap, ◌∙◌, subst}
use seplogic.Ra.Ura.{Ura}
use mir.Val.{Val, vstruct, vcons, vnil, of_list}
use base.Logic.{ent, sep}
use base.Fml.{Fml, fsep}
use types.Logic.{Logic, sem}
use types.Kit.{Item, Goal, Seq, Step, step, ‵, ◌$◌, ◌∵◌, !, qed, use0, done, drop, move, fsplit, fpick, feq_l, fjoin, fjoin3, feq_i, fpack}
use denote.RawPtr.{Ptr, RawPtr, ptr_val}
use denote.Steps.{nothing}
use denote.RattleType.{RattleType, Valss}
use denote.Laws.{Is}
use denote.Struct.Struct.{Struct, Shape, within}
use Rattle.std.specs.Prelude.{Option, Some, None, IsSome}
use Rattle.table_cell.proofs.Values.{Mark, void, alone, marker_data}
use Rattle.table_slab.specs.Rights.{written, room, rooms}
use Rattle.table_slab.specs.contracts.rights.Written as Written
use Rattle.table_slab.specs.contracts.rights.Room as Room
use Rattle.table_slab.specs.contracts.rights.Rooms as Rooms

abbrev pub token_val : Val
token_val = alone void

abbrev only_marker : RattleType → Shape
only_marker R = record { name = []; args = []; types = []; fields = Mark R ∷ [] }

-- what such a value owns in memory
abbrev pub MarkerOf : RattleType → List Val → Fml
MarkerOf R = (Struct (only_marker R)).own_val (record {}, tt)

pub token_told : (R : RattleType) (vs : List Val) → Is (Struct (only_marker R)) (record {}, tt) vs → vs ≡ token_val ∷ []
token_told R vs is = is.1.0 ∙ ap (λ (fields : List Val). vstruct (of_list (fields ++ [])) ∷ []) is.1.1.0.1.0

module _ {M : Type 1} {𝓤 : Ura M} (𝓛 : Logic 𝓤) (R : RattleType) where
  pub with_marker : (P : Fml) → ent 𝓤 (sem 𝓛 P) (sem 𝓛 (fsep (MarkerOf R (token_val ∷ [])) P))
  with_marker P = qed 𝓛 (‵ P ∷ []) ∵ nothing ! $ use0 𝓛 (‵ ((Mark R).own_val (record {}) (void ∷ []))) (marker_data 𝓛 R) $ fjoin ! $ feq_i ! _ (token_val ∷ []) _ refl $ fjoin ! $
      fpack ! (Valss (Mark R ∷ [])) (within (only_marker R) (record {}, tt) (token_val ∷ [])) (void ∷ [], tt) $ fjoin ! $ done !

  pub written_made : (γ : ℕ) (x : R.Denot) → ent 𝓤 (sem 𝓛 (written R γ x)) (sem 𝓛 ((Written.the_row R).own_val (record { marker = record {}; of = γ; value = x }) (token_val ∷ [])))
  written_made γ x = with_marker (written R γ x)

  pub room_made : (γ : ℕ) (v : Option R.Denot) → ent 𝓤 (sem 𝓛 (room R γ v)) (sem 𝓛 ((Room.the_row R).own_val (record { marker = record {}; of = γ; value = v }) (token_val ∷ [])))
  room_made γ v = with_marker (room R γ v)

  pub rooms_made : (γs : List ℕ) → ent 𝓤 (sem 𝓛 (rooms R γs)) (sem 𝓛 ((Rooms.the_row R).own_val (record { marker = record {}; names = γs }) (token_val ∷ [])))
  rooms_made γs = with_marker (rooms R γs)

abbrev digit : Bool → ℕ
digit true = 1
digit false = 0

pub set_of : {X : Type 0} (v : Option X) → IsSome v → (x : X) × (v ≡ Some x)
set_of (Some x) so = (x, refl)
set_of None so = absurd (let z : 0 ≡ 1 = ap digit so in omega arith)

pub beside_token : (b : mathlib.Core.Bool.Bool) → lib.Dec.T b → lib.Dec.T (mathlib.Core.Bool.◌&&◌ b (mathlib.Core.Bool.◌&&◌ mathlib.Core.Bool.true mathlib.Core.Bool.true))
beside_token mathlib.Core.Bool.true t = tt
beside_token mathlib.Core.Bool.false t = absurd t

-- two fields, one after the other, by value
module _ (P Q : RattleType) where
  abbrev two : Shape
  two = record { name = []; args = []; types = []; fields = P ∷ Q ∷ [] }

  pub pair_in : {M : Type 1} {𝓤 : Ura M} {𝓛 : Logic 𝓤} {K : Type 0} {Γ : List (Item 𝓤)} {G : Goal 𝓤 𝓛.H} → K → (x : P.Denot) (y : Q.Denot) (v w : Val)
      → Step K 𝓛 (‵ ((Struct two).own_val (x, (y, tt)) (vstruct (vcons v (vcons w vnil)) ∷ [])) ∷ Γ) G (‵ (P.own_val x (v ∷ [])) ∷ ‵ (Q.own_val y (w ∷ [])) ∷ Γ) G
  pair_in t x y v w = step (λ rest. nothing t $ move t (1 ∷ 2 ∷ 0 ∷ []) $ fjoin3 t $ feq_i t _ (vstruct (vcons v (vcons w vnil)) ∷ []) _ refl $ fjoin t $
      fpack t (Valss two.fields) (within two (x, (y, tt)) (vstruct (vcons v (vcons w vnil)) ∷ [])) (v ∷ [], (w ∷ [], tt)) $ rest)

-- a struct of one pointer, and nothing else
abbrev one_word : Shape
one_word = record { name = []; args = []; types = []; fields = RawPtr ∷ [] }

abbrev pub Word : RattleType
Word = Struct one_word

abbrev pub word : Ptr → Val
word c = vstruct (vcons (ptr_val c) vnil)

module _ {M : Type 1} {𝓤 : Ura M} {𝓛 : Logic 𝓤} {K : Type 0} {Γ : List (Item 𝓤)} {G : Goal 𝓤 𝓛.H} where
  pub word_had : K → (c : Ptr) (vs : List Val) → (vs ≡ word c ∷ [] → Seq K 𝓛 Γ G) → Seq K 𝓛 (‵ (Word.own_val (c, tt) vs) ∷ Γ) G
  word_had t c vs next = fpick t (λ vss. fsplit t $ feq_l t (λ whole. fsplit t $ feq_l t (λ part. drop t $ next (subst (λ (ws : List Val). vs ≡ vstruct (of_list (ws ++ [])) ∷ []) part whole))))

  pub word_made : K → (c : Ptr) → Step K 𝓛 (‵ (Word.own_val (c, tt) (word c ∷ [])) ∷ Γ) G Γ G
  word_made t c = step (λ next. nothing t $ feq_i t (List Val) (ptr_val c ∷ []) (ptr_val c ∷ []) refl $ fjoin t $ feq_i t (List Val) (word c ∷ []) (word c ∷ []) refl $ fjoin t $
      fpack t (Valss (RawPtr ∷ [])) (within one_word (c, tt) (word c ∷ [])) (ptr_val c ∷ [], tt) $ next)

-- four values side by side
abbrev pub four_val : Val → Val → Val → Val → Val
four_val u v w x = vstruct (vcons u (vcons v (vcons w (vcons x vnil))))

module _ {M : Type 1} {𝓤 : Ura M} (𝓛 : Logic 𝓤) (A B C D : RattleType) where
  abbrev four : Shape
  four = record { name = []; args = []; types = []; fields = A ∷ B ∷ C ∷ D ∷ [] }

  pub four_of : (a : A.Denot) (b : B.Denot) (c : C.Denot) (d : D.Denot) (u v w x : Val)
      → ent 𝓤 (sep 𝓤 (sem 𝓛 (A.own_val a (u ∷ []))) (sep 𝓤 (sem 𝓛 (B.own_val b (v ∷ []))) (sep 𝓤 (sem 𝓛 (C.own_val c (w ∷ []))) (sem 𝓛 (D.own_val d (x ∷ [])))))) (sem 𝓛 ((Struct four).own_val (a, (b, (c, (d, tt)))) (four_val u v w x ∷ [])))
  four_of a b c d u v w x = qed 𝓛 (‵ (A.own_val a (u ∷ [])) ∷ ‵ (B.own_val b (v ∷ [])) ∷ ‵ (C.own_val c (w ∷ [])) ∷ ‵ (D.own_val d (x ∷ [])) ∷ []) ∵
      nothing ! $ move ! (4 ∷ 0 ∷ []) $ fjoin ! $ move ! (3 ∷ 0 ∷ []) $ fjoin ! $ move ! (2 ∷ 0 ∷ []) $ fjoin ! $ move ! (1 ∷ 0 ∷ []) $ fjoin ! $
      feq_i ! (List Val) (four_val u v w x ∷ []) (four_val u v w x ∷ []) refl $ fjoin ! $ fpack ! (Valss four.fields) (within four (a, (b, (c, (d, tt)))) (four_val u v w x ∷ [])) (u ∷ [], (v ∷ [], (w ∷ [], (x ∷ [], tt)))) $ done !
