-- The machine values of the structs here, and what they own, taken apart and put together. Assumes `Logic`.
--     marker_data      what a marker owns: nothing
--     name_out, name_in      a name is what its home lends at a block
--     loose_in, loose_out, loose_at      a loose block is the block and the right to free it
--     word_out, word_in      the fields of a word are a pointer cell and a marker
--     word_made, latest_made      a word, or a latest one, is its fields, and what is kept beside its address
use Rattle.std.proofs.Common.{◌≡◌, ℕ, List, [], ◌∷◌, ◌++◌, refl, ap, ◌∙◌, subst}
use mathlib.Core.Bool.{true, ◌&&◌}
use lib.Dec.{T}
use seplogic.Ra.Ura.{Ura}
use mir.Raw.{raw as bare}
use mir.Syntax.{Ty}
use mir.Val.{Val, vptr, vstruct, vcons, vnil, of_list, has_ty}
use base.Logic.{ent, emp, never, fst∗}
use types.Logic.{Logic, sem}
use types.Kit.{Item, Goal, Seq, Step, step, ‵, ◌$◌, move, drop, fsplit, fsplit3, fjoin, fjoin3, fpick, fpack, rewrite, feq_i, feq_l, use0}
use denote.RattleType.{RattleType, Valss}
use denote.Laws.{Is, Lawful, Typed, shows}
use denote.Memory.{lone}
use denote.RawPtr.{Ptr, block_ptr, null_ptr, ptr_val, in_a_block}
use denote.Shadow.{makes_shadow}
use denote.Steps.{nothing, peeks}
use denote.Param.{layout}
use denote.Struct.Lending.{lent_at}
use denote.Struct.Struct.{Shape, Struct, within}
use denote.Struct.Owning.{shape}
use Rattle.core.specs.declared.alloc.Allocator.{Ghosts}
use Rattle.core.specs.contracts.marker.PhantomData as marker
use Rattle.core.proofs.cell.Inside.{Good, one}
use Rattle.core.proofs.atomic.Steps.{Ptr-Good}
use denote.Param.Laws.{Laws}
use Rattle.table_cell.proofs.loose_block.LooseBlock.TheLaws.{lowers}
use Rattle.std.specs.Sync.Atomic.Pointer.{atomic_ptr_holding}
use Rattle.core.specs.contracts.atomic.ptr.AtomicPtr as atomic
use Rattle.table_cell.specs.Words.{WordView, Shows, freeable, kept}
use Rattle.table_cell.specs.Latest.{LatestView, last}
use Rattle.table_cell.specs.declared.home.Homed.{Ghosts as HomedGhosts}
use Rattle.table_cell.specs.contracts.loose_block.LooseBlock as loose
use Rattle.table_cell.specs.contracts.name.Name as name
use Rattle.table_cell.specs.contracts.word.Word as word
use Rattle.table_cell.specs.contracts.word.Word.TheInside as inside
use Rattle.table_cell.specs.contracts.latest.Latest as latest
use Rattle.table_cell.specs.contracts.latest.Latest.TheInside as inside_latest
use base.Fml.{Fml, ftrue, fsep}

-- a marker, a struct of one field, and a struct of a field and a marker
abbrev pub void : Val
void = vstruct vnil

abbrev pub alone : Val → Val
alone v = vstruct (vcons v vnil)

abbrev pub pair_of : Val → Val → Val
pair_of first second = vstruct (vcons first (vcons second vnil))

abbrev pub marked : Val → Val
marked v = pair_of v void

pub marked_typed : (b : mathlib.Core.Bool.Bool) → T b → T (b && (true && true))
marked_typed mathlib.Core.Bool.true t = tt
marked_typed mathlib.Core.Bool.false t = absurd t

abbrev pub Mark : RattleType → RattleType
Mark Y = (marker.the_field Y).row

module _ {M : Type 1} {𝓤 : Ura M} (𝓛 : Logic 𝓤) (Y : RattleType) where
  pub marker_data : ent 𝓤 (emp 𝓤) (sem 𝓛 ((Mark Y).own_val (record {}) (void ∷ [])))
  marker_data = makes_shadow 𝓛 ((Mark Y).own_val (record {}) (void ∷ [])) (λ vss. (tt, tt)) (tt, (refl, tt))

module _ (R : RattleType) where
  abbrev pub Name : RattleType
  Name = name.the_row R

  abbrev NameData : Ptr → List Val → Fml
  NameData p vs = (Struct (shape (name.the_type R))).own_val (p, tt) vs

  module _ {M : Type 1} {𝓤 : Ura M} {𝓛 : Logic 𝓤} {K : Type 0} {Γ : List (Item 𝓤)} {G : Goal 𝓤 𝓛.H} where
    pub name_out : K → (n : Name.Denot) (vs : List Val)
        → ((b o : ℕ) → n.at ≡ block_ptr b o → vs ≡ alone (vptr b o) ∷ []
        → Seq K 𝓛 (‵ (lent_at R (block_ptr b o) n.value (n.home ∷ [])) ∷ Γ) G)
        → Seq K 𝓛 (‵ (Name.own_val n vs) ∷ Γ) G
    name_out t n vs k =
        fsplit t $ fpick t (λ vss. fsplit t $ feq_l t (λ ev. fsplit t $ feq_l t (λ ep. drop t $
        in_a_block t n.at (λ p. lent_at R p n.value (n.home ∷ [])) (fst∗ 𝓤 (never 𝓤) (sem 𝓛 (denote.Memory.shared_of R n.value (denote.RawPtr.block_of null_ptr) (denote.RawPtr.count_of null_ptr) (n.home ∷ [])))) (λ b o e. k b o e
        (subst (λ (p : Ptr). vs ≡ alone (ptr_val p) ∷ []) e (subst (λ (ps : List Val). vs ≡ vstruct (of_list (ps ++ [])) ∷ []) ep ev))))))

    pub name_in : K → (b o h : ℕ) (x : R.Denot)
        → Step K 𝓛 (‵ (Name.own_val (record { at = block_ptr b o; home = h; value = x }) (alone (vptr b o) ∷ [])) ∷ Γ) G
        (‵ (lent_at R (block_ptr b o) x (h ∷ [])) ∷ Γ) G
    name_in t b o h x = step (λ s. let D : Fml = NameData (block_ptr b o) (alone (vptr b o) ∷ []) in
        use0 𝓛 (‵ D) (makes_shadow 𝓛 D (λ vss. (tt, (tt, tt))) ((vptr b o ∷ [], tt), (refl, (refl, tt)))) $ fjoin t $ s)

module _ (R Y : RattleType) (g : Ghosts Y.Denot) where
  abbrev pub Loose : RattleType
  Loose = loose.the_row R Y g

  pub loose_good : (p : Ptr) → Good (layout Loose) (marked (ptr_val p))
  loose_good p = (marked_typed _ (Ptr-Good p).0, ((Ptr-Good p).1, (tt, tt)))

  module _ {M : Type 1} {𝓤 : Ura M} {𝓛 : Logic 𝓤} {K : Type 0} {Γ : List (Item 𝓤)} {G : Goal 𝓤 𝓛.H} where
    pub loose_in : K → (p : Ptr) (a : Y.Denot) (x : R.Denot)
        → Step K 𝓛 (‵ (Loose.own_val (record { at = p; allocator = record {}; value = x; from = a }) (marked (ptr_val p) ∷ [])) ∷ Γ) G (‵ (freeable R (g.dealloc_token a) p x) ∷ Γ) G
    loose_in t p a x = step (λ rest. let Data = (Struct (shape (loose.the_type R Y g))).own_val (p, (record {}, tt)) (marked (ptr_val p) ∷ []) in
        use0 𝓛 (‵ Data) (makes_shadow 𝓛 Data (λ vss. (tt, (tt, ((λ uss. (tt, tt)), tt)))) ((ptr_val p ∷ [], (void ∷ [], tt)), (refl, (refl, ((tt, (refl, tt)), tt))))) $ fjoin t $ rest)

    module _ (L : Laws R) (LY : Laws Y) (d : Loose.Denot) (vs : List Val) where
      pub loose_out : K → (vs ≡ marked (ptr_val d.at) ∷ [] → Seq K 𝓛 (‵ (freeable R (g.dealloc_token d.from) d.at d.value) ∷ Γ) G) → Seq K 𝓛 (‵ (Loose.own_val d vs) ∷ Γ) G
      loose_out t next = peeks t Loose (Is Loose) (shows 𝓛 Loose) d vs (λ is. fsplit t $ drop t $ next ((lowers R Y g L LY).val_is d vs is))

      -- the same, where the block lies
      pub loose_at : K → ((b o : ℕ) → vs ≡ marked (vptr b o) ∷ [] → Seq K 𝓛 (‵ (freeable R (g.dealloc_token d.from) (block_ptr b o) d.value) ∷ Γ) G) → Seq K 𝓛 (‵ (Loose.own_val d vs) ∷ Γ) G
      loose_at t next = loose_out t (λ is. in_a_block t d.at (λ p. freeable R (g.dealloc_token d.from) p d.value) (fst∗ 𝓤 (never 𝓤) (sem 𝓛 (g.dealloc_token d.from (bare (lone R.mir)) null_ptr)))
          (λ b o lies. next b o (is ∙ ap (λ (p : Ptr). marked (ptr_val p) ∷ []) lies)))

-- two fields, one after the other, by value
module _ (P Q : RattleType) where
  abbrev two : Shape
  two = record { name = []; args = []; types = []; fields = P ∷ Q ∷ [] }

  pub pair_in : {M : Type 1} {𝓤 : Ura M} {𝓛 : Logic 𝓤} {K : Type 0} {Γ : List (Item 𝓤)} {G : Goal 𝓤 𝓛.H} → K → (x : P.Denot) (y : Q.Denot) (v w : Val)
      → Step K 𝓛 (‵ ((Struct two).own_val (x, (y, tt)) (pair_of v w ∷ [])) ∷ Γ) G (‵ (P.own_val x (v ∷ [])) ∷ ‵ (Q.own_val y (w ∷ [])) ∷ Γ) G
  pair_in t x y v w = step (λ rest. nothing t $ move t (1 ∷ 2 ∷ 0 ∷ []) $ fjoin3 t $ feq_i t _ (pair_of v w ∷ []) _ refl $ fjoin t $
      fpack t (Valss two.fields) (within two (x, (y, tt)) (pair_of v w ∷ [])) (v ∷ [], (w ∷ [], tt)) $ rest)

-- of which the second is a mark
module _ (P Y : RattleType) where
  abbrev pub WithMark : RattleType
  WithMark = Struct (two P (Mark Y))

  module _ {M : Type 1} {𝓤 : Ura M} {𝓛 : Logic 𝓤} {K : Type 0} {Γ : List (Item 𝓤)} {G : Goal 𝓤 𝓛.H} (x : P.Denot) where
    pub word_in : K → (v : Val)
        → Step K 𝓛 (‵ (WithMark.own_val (x, (record {}, tt)) (marked v ∷ [])) ∷ Γ) G (‵ (P.own_val x (v ∷ [])) ∷ Γ) G
    word_in t v = step (λ rest. use0 𝓛 (‵ ((Mark Y).own_val (record {}) (void ∷ []))) (marker_data 𝓛 Y) $ move t (1 ∷ 0 ∷ []) $ pair_in P (Mark Y) t x (record {}) v void $ rest)

    pub word_out : K → P.mir ≡ layout P ∷ [] → Lawful 𝓛 P → (us : List Val)
        → ((v : Val) → Good (layout P) v → us ≡ marked v ∷ [] → Seq K 𝓛 (‵ (P.own_val x (v ∷ [])) ∷ Γ) G)
        → Seq K 𝓛 (‵ (WithMark.own_val (x, (record {}, tt)) us) ∷ Γ) G
    word_out t eP LP us k = fpick t (λ vss. fsplit t $ feq_l t (λ e. fsplit3 t $ peeks t P (Is P) (shows 𝓛 P) x vss.0 (λ i. move t (1 ∷ []) $
        peeks t (Mark Y) (Is (Mark Y)) (shows 𝓛 (Mark Y)) (record {}) vss.1.0 (λ j.
        let w = one (layout P) vss.0 (subst (λ (ρs : List Ty). Typed ρs vss.0) eP (LP.typed x vss.0 i)) in
        drop t $ rewrite t 0 (λ (ws : List Val). ‵ (P.own_val x ws)) w.1 refl $ move t (1 ∷ []) $ drop t $
        k w.0 w.2 (subst (λ (ms : List Val). us ≡ vstruct (of_list ((w.0 ∷ []) ++ (ms ++ []))) ∷ []) j.1.0
        (subst (λ (ws : List Val). us ≡ vstruct (of_list (ws ++ (vss.1.0 ++ []))) ∷ []) w.1 e))))))

module _ (R Y : RattleType) (f : HomedGhosts R.Denot) (g : Ghosts Y.Denot) where
  abbrev pub Word : RattleType
  Word = word.the_row R Y f g

  abbrev Cell : RattleType
  Cell = atomic.the_row R

  pub word_good : (v : Val) → Good (layout Cell) v → Good (layout Word) (marked v)
  word_good v good = (marked_typed (has_ty (layout Cell) v) good.0, (good.1, (tt, tt)))

  pub word_made : {M : Type 1} {𝓤 : Ura M} {𝓛 : Logic 𝓤} {K : Type 0} {Γ : List (Item 𝓤)} {G : Goal 𝓤 𝓛.H} → K → (w : WordView Y.Denot R.Denot) (p : Ptr) (v : Val) → Good (layout Cell) v
      → Step K 𝓛 (‵ (Word.own_val w (marked v ∷ [])) ∷ Γ) G
      (‵ ((WithMark Cell Y).own_val (atomic_ptr_holding p, (record {}, tt)) (marked v ∷ [])) ∷ ‵ (kept R (g.dealloc_token w.from) w.home w.id w.owning w.value (Shows f.fits w) p) ∷ Γ) G
  word_made t w p v good = step (λ rest. let Fields : Ptr → Fml = λ s. (inside.the_row R Y f g).own_val (record { inner = atomic_ptr_holding s; marker = record {} }) (marked v ∷ []) in
      fjoin t $ fpack t Ptr (λ s. fsep (Fields s) (kept R (g.dealloc_token w.from) w.home w.id w.owning w.value (Shows f.fits w) s)) p $
      nothing t $ fpack t (Typed Word.mir (marked v ∷ [])) (λ _. ftrue) (word_good v good, tt) $ fjoin t $ rest)

  abbrev pub Latest : RattleType
  Latest = latest.the_row R Y f g

  pub latest_good : (v : Val) → Good (layout Cell) v → Good (layout Latest) (marked v)
  latest_good v good = (marked_typed (has_ty (layout Cell) v) good.0, (good.1, (tt, tt)))

  pub latest_made : {M : Type 1} {𝓤 : Ura M} {𝓛 : Logic 𝓤} {K : Type 0} {Γ : List (Item 𝓤)} {G : Goal 𝓤 𝓛.H} → K → (l : LatestView) (p : Ptr) (v : Val) → Good (layout Cell) v
      → Step K 𝓛 (‵ (Latest.own_val l (marked v ∷ [])) ∷ Γ) G
      (‵ ((WithMark Cell Y).own_val (atomic_ptr_holding p, (record {}, tt)) (marked v ∷ [])) ∷ ‵ (last R l.home l.id (λ x. f.fits x l.home) p) ∷ Γ) G
  latest_made t l p v good = step (λ rest. let Fields : Ptr → Fml = λ s. (inside_latest.the_row R Y f g).own_val (record { inner = atomic_ptr_holding s; marker = record {} }) (marked v ∷ []) in
      fjoin t $ fpack t Ptr (λ s. fsep (Fields s) (last R l.home l.id (λ x. f.fits x l.home) s)) p $
      nothing t $ fpack t (Typed Latest.mir (marked v ∷ [])) (λ _. ftrue) (latest_good v good, tt) $ fjoin t $ rest)
