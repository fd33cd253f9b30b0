-- Blocks of slots: room is asked of an allocator and cut into a row, and a row goes back to it as the block that it was. Assumes `Logic`.
--     token_owns      a proof's step: what a value without bytes owns, beside its mark
--     token_made      a proof's step: such a value is put into a local, which was empty
--     word_told       what a struct of one pointer says of itself gives its machine value
--     goes_into       a proof's step: a `match` on a tag that is written out goes into the arm of that tag
--     used, Unsaid, used_go      of a function that gives up all its parameters: what it has of them at its end, nothing;  and that this is lawful where the contract says nothing of what is left of them
--     Used, used_up      the triple in which its walk ends, and how: with the result and the tokens
--     Parts, parts, parts_val      what a block is cut into, as one value
--     Fresh, cut      the room of a block, with the right to free it, becomes its parts, under new names
--     joined          a proof's step: a row, with the right to free it, is the room of a block again
--     bytes           how many bytes the slots take, as the code works it out
--     asks, returned      proof's steps: an allocator is asked for a block;  a block goes back to it
use Rattle.std.proofs.Common.{◌≡◌, ℕ, ◌*◌, ◌<◌, ◌^◌, List, [], ◌∷◌, ◌++◌, refl, sym, ap, subst, ◌∙◌, length, arith, w64}
use mathlib.Core.Bool.{true, false}
use lib.Dec.{T}
use seplogic.Ra.Ura.{Ura}
use base.Fraction.{full_share}
use mir.Syntax.{Width, Arms, Opd as Operand, Body, Place, switch, place, copy, assign, aggregate, seq, call, op2, mul, unsigned, size_of, ty_array}
use mir.Val.{Val, vint, vptr, vunit, vstruct, of_list}
use base.Logic.{SProp, ent, sep, emp, id⊢, via, emp∗, mono∗, never}
use base.Fml.{Lft, Share, Fml, fsep, fat, froom, flft}
use prog.Memory.{Memory, align, capped}
use prog.Capped.{capped_fits}
use prog.Routine.{Routine}
use prog.Wp.{Heap, Env, Calls, Loops, Wp, WpArms, after_seq, spot_of}
use sound.WpLaws.{FmC}
use types.Logic.{Logic, sem}
use types.Kit.{Item, Goal, Post, any_q, post, ⋆, Seq, Step, step, mean, runs, lands, settles, ‵, raw, ◌⊛◌, some, given, later, ◌$◌, ◌∵◌, !, qed, by, move, use0, use1, use2, split, fsplit, fjoin, pick, learn, flt_i, flt_l, rewrite, regoal, group, check, show, await, updating, now, done}
use types.Run.{Opd, Opds, Rv, stop, from, init, bin, size_word, no_more, and_then, assigns, first, switches_on}
use types.ByLocal.{at, set, cell, is, get}
use types.Part.{agg}
use contract.Monad.{Fun}
use contract.BorrowLft.{◌⊑◌}
use contract.Lifetimes.{Lfts}
use denote.Exit.{Last, left}
use denote.Param.Mute.{blank}
use denote.RattleType.{RattleType, Denots, Valss}
use denote.Shadow.{shadow}
use denote.Signature.{Slot, type_at, types_at}
use denote.RawPtr.{Ptr, block_ptr, in_a_block}
use denote.Struct.Tuple.{Tuple}
use denote.Triple.Call.{calls_at, calls_at_last}
use denote.Triple.Clauses.{Clauses, Ended, Lasts, at_exit}
use denote.Triple.Entry.{Res, alive}
use denote.Triple.End.{Kepts, Fins}
use denote.Triple.Statement.{Contract, Triple}
use denote.Triple.Walked.{Stays, AllGo, stay_dropped, fits_of, has_of, walk_of}
use Rattle.std.proofs.raw_atomic.Walks.{leaves}
use Rattle.core.specs.Mem.{type_size}
use Rattle.core.proofs.mem.Param.{El, R, elτ}
use Rattle.core.proofs.alloc.Calls.{Al, token, seen, answer_val, Answered, takes_key, gives_key, Takes, Gives, at_takes, at_gives, Takes-goes, Takes-gives, Gives-goes, Gives-Gives, Goes-blank, answers}
use Rattle.core.proofs.slots.Leases.{uncapped, block_ty, block_size, block_align, P}
use Rattle.std_alloc.proofs.RawLayout.{as_raw, as_written}
use Rattle.std_alloc.proofs.RcSteps.{Good}
use Rattle.table_cell.proofs.Tokens.{InMemory, marker_of_nothing}
use Rattle.table_cell.proofs.Values.{void}
use Rattle.table_slab.specs.Kept.{row_owns, deed_owns}
use Rattle.table_slab.specs.contracts.rights.Rooms as Rooms
use Rattle.table_slab.specs.contracts.row.Deed as Deed
use Rattle.table_slab.specs.contracts.row.Row as Row
use Rattle.table_slab.specs.contracts.row.Start as Start
use Rattle.table_slab.proofs.Made.{token_val, Word, word, word_made, rooms_made, four_val, four_of}
use Rattle.table_slab.proofs.Rows.{Opened, opened, closed}

-- ---- values without bytes
module _ {M : Type 1} {𝓤 : Ura M} {𝓛 : Logic 𝓤} {K : Type 0} {Γ : List (Item 𝓤)} {G : Goal 𝓤 𝓛.H} where
  pub token_owns : K → {F : Fml} → Step K 𝓛 (‵ (fsep (InMemory (token_val ∷ [])) F) ∷ Γ) G (‵ F ∷ Γ) G
  token_owns t = step (λ next. use0 𝓛 (‵ (InMemory (token_val ∷ []))) (marker_of_nothing 𝓛) $ fjoin t $ next)

-- local k before something is put there, what may be put there, and after
module _ {M : Type 1} {𝓤 : Ura M} (H : Heap 𝓤) (Ev : Env 𝓤 H) (k : ℕ) where
  abbrev pub empty : Item 𝓤
  empty = ‵ (froom (spot_of 𝓤 H Ev k).0 (spot_of 𝓤 H Ev k).1 0)

  abbrev pub holds : Val → Item 𝓤
  holds v = ‵ (fat full_share (spot_of 𝓤 H Ev k).0 (spot_of 𝓤 H Ev k).1 0 v)

  abbrev pub Takes_in : Val → Type 0
  Takes_in v = Good (spot_of 𝓤 H Ev k).0 v

module _ {M : Type 1} {𝓤 : Ura M} {𝓛 : Logic 𝓤} {K : Type 0} {Γ : List (Item 𝓤)} {C : Calls 𝓤 𝓛.H} {Λ : Loops 𝓤 𝓛.H} {Ev : Env 𝓤 𝓛.H} {Q : Post 𝓤 𝓛.H} where
  open 𝓛 use {H}

  -- the mark goes into local i, and the struct around it into local j
  pub token_made : K → {i j : ℕ} {rest : Body} → at 𝓛 i Γ ≡ empty H Ev i → Takes_in H Ev i void → at 𝓛 i (set 𝓛 i (holds H Ev i void) Γ) ≡ holds H Ev i void
      → at 𝓛 j (set 𝓛 i (holds H Ev i void) Γ) ≡ empty H Ev j → Takes_in H Ev j token_val
      → Step K 𝓛 (set 𝓛 j (holds H Ev j token_val) (set 𝓛 i (holds H Ev i void) Γ)) (runs C Λ Ev rest Q) Γ (runs C Λ Ev (seq (assign (place i []) (aggregate [])) (seq (assign (place j []) (aggregate (copy (place i []) ∷ []))) rest)) Q)
  token_made t {i} {j} free fits there free' fits' = step (λ next. assigns t (agg t (no_more t)) (from t (stop t)) (init t (cell i Γ) free fits) $
      assigns t (agg t (and_then t (get t there) (no_more t))) (from t (stop t)) (init t (cell j (set 𝓛 i (holds H Ev i void) Γ)) free' fits') $ next)

  pub goes_into : K → {tag : Operand} {arms : Arms} {w : Width} {rest : Body} (k : ℕ) (taken : Body) → Opd K 𝓛 Γ Ev tag (vint w k) → let Left : Post 𝓤 H = any_q (after_seq 𝓤 H (Wp 𝓤 H C Λ Ev rest (post 𝓤 H Q)) (post 𝓤 H Q)) in
      Wp 𝓤 H C Λ Ev taken (post 𝓤 H Left) ≡ WpArms 𝓤 H C Λ Ev arms k (post 𝓤 H Left) → Step K 𝓛 Γ (runs C Λ Ev taken Left) Γ (runs C Λ Ev (seq (switch tag arms) rest) Q)
  goes_into t {rest = rest} k taken read is = step (λ next. first t $ switches_on t read $ by t (subst (λ (P : SProp 𝓤). ent 𝓤 (⋆ 𝓛 Γ) P) is next.prf))

-- ---- what a value's type says of it
pub word_told : (p : Ptr) (vs : List Val) → shadow (Word.own_val (p, tt) vs) → vs ≡ word p ∷ []
word_told p vs is = is.1.0 ∙ ap (λ (pointer : List Val). vstruct (of_list (pointer ++ [])) ∷ []) is.1.1.0

-- ---- a function that gives up all its parameters
abbrev pub used : {n : ℕ} (ss : List (Slot n)) (ks : Kepts ss) → Stays ss ks
used [] ks = tt
used (s ∷ ss) ks = (stay_dropped s ks.0, used ss ks.1)

-- the contract says nothing of what is left of them
abbrev pub Unsaid : {n : ℕ} (ss : List (Slot n)) (ks : Kepts ss) → Type 0
Unsaid [] ks = Unit {0}
Unsaid {n} (s ∷ ss) ks = ((κs : Lfts n) (x : (s.row κs).Denot) (w : Last ((s.row κs).exit ks.0) x) → T (blank (left ((s.row κs).exit ks.0) x w))) × Unsaid ss ks.1

module _ {M : Type 1} {𝓤 : Ura M} (𝓛 : Logic 𝓤) {n : ℕ} where
  pub used_go : (ss : List (Slot n)) (ks : Kepts ss) → Unsaid ss ks → AllGo 𝓛 n ss ks (used ss ks)
  used_go [] ks unsaid = tt
  used_go (s ∷ ss) ks unsaid = (Goes-blank 𝓛 n s ks.0 unsaid.0, used_go ss ks.1 unsaid.1)

  module _ (κs : Lfts n) where
    all_fit : (ss : List (Slot n)) (ks : Kepts ss) (a : Denots (types_at ss κs)) (ws : Fins κs ss ks a) → fits_of κs ss ks (used ss ks) a ws
    all_fit [] ks a ws = tt
    all_fit (s ∷ ss) ks a ws = (tt, all_fit ss ks.1 a.1 ws.1)

    none_left : (ss : List (Slot n)) (ks : Kepts ss) (a : Denots (types_at ss κs)) (ws : Fins κs ss ks a) (vss : Valss (types_at ss κs)) → ent 𝓤 (emp 𝓤) (sem 𝓛 (has_of κs ss ks (used ss ks) a ws vss))
    none_left [] ks a ws vss = id⊢ 𝓤 (emp 𝓤)
    none_left (s ∷ ss) ks a ws vss = via 𝓤 (sep 𝓤 (emp 𝓤) (emp 𝓤)) (emp∗ 𝓤 (emp 𝓤)) (mono∗ 𝓤 (id⊢ 𝓤 (emp 𝓤)) (none_left ss ks.1 a.1 ws.1 vss.1))

module _ {M : Type 1} {𝓤 : Ura M} (𝓛 : Logic 𝓤) (S : Ended) (c : Clauses 𝓤 S) where
  abbrev pub Used : Contract 𝓤
  Used = walk_of 𝓛 S (used S.signature.params S.kept) c

  -- it ends with the result and the tokens
  pub used_up : (y : Used.Ghost) (v : Val) (r : Res S.signature y.0.0) (ws : Lasts S y.0.0 y.0.3) → ent 𝓤 (emp 𝓤) ((c y.0.0 y.0.3).ensures y.1 r (at_exit S y.0.0 y.0.3 ws))
      → ent 𝓤 (sep 𝓤 (sem 𝓛 ((type_at S.signature.result y.0.0).own_val r (v ∷ []))) (alive 𝓛 S.signature y.0.0 y.0.1)) (Used.post y v)
  used_up y v r ws says = let ss = S.signature.params in let κs = y.0.0 in
      qed 𝓛 (‵ ((type_at S.signature.result κs).own_val r (v ∷ [])) ∷ raw (alive 𝓛 S.signature κs y.0.1) ∷ []) ∵ use0 𝓛 (raw ((c κs y.0.3).ensures y.1 r (at_exit S κs y.0.3 ws))) says $ move ! (1 ∷ []) $
      use0 𝓛 (‵ (has_of κs ss S.kept (used ss S.kept) y.0.3 ws y.0.4)) (none_left 𝓛 κs ss S.kept y.0.3 ws y.0.4) $ move ! (3 ∷ []) $ by ! (leaves 𝓛 S (used ss S.kept) c y v r ws (all_fit 𝓛 κs ss S.kept y.0.3 ws))

-- ---- from a block to its parts, and back
module _ (E : El) (Z : Al) where
  abbrev pub Parts : RattleType
  Parts = Tuple (Start.the_row (R E) ∷ Row.the_row (R E) ∷ Rooms.the_row (R E) ∷ Deed.the_row (R E) (P E Z) Z.g ∷ [])

  abbrev pub parts : Ptr → List ℕ → ℕ → Z.row.Denot → Parts.Denot
  parts p γs n a = (record { at = p }, record { marker = record {}; at = p; names = γs }, record { marker = record {}; names = γs }, record { marker = record {}; at = p; count = n; alloc = a })

abbrev pub parts_val : Ptr → Val
parts_val p = four_val (word p) token_val token_val token_val

module _ (E : El) (Z : Al) {M : Type 1} {𝓤 : Ura M} (𝓛 : Logic 𝓤) (b o n : ℕ) (a : Z.row.Denot) where
  open 𝓛 use {H}

  abbrev pub Fresh : List ℕ → Item 𝓤
  Fresh γs = given (length γs ≡ n) (‵ ((Parts E Z).own_val (parts E Z (block_ptr b o) γs n a) (parts_val (block_ptr b o) ∷ [])))

  pub cut : n * type_size (R E) < 2 ^ 63 → ent 𝓤 (sep 𝓤 (H.room (block_ty E n) b o) (sem 𝓛 (token Z a (block_ty E n) (block_ptr b o)))) (H.⇛ (mean 𝓛 (some Fresh)))
  cut small = let p = block_ptr b o in qed 𝓛 (‵ (froom (block_ty E n) b o) ∷ ‵ (token Z a (block_ty E n) p) ∷ []) ∵ updating ! $ as_written ! (ty_array (elτ E) n) b o $
      use1 𝓛 (later (some (Opened E.row E.laws 𝓛 b n o))) (opened E.row E.laws 𝓛 b n o) $ await ! tt $ pick ! (λ γs. learn ! (λ counted. split ! $ let new = parts E Z p γs n a in
      flt_i ! (length γs * type_size (R E)) (2 ^ 63) (subst (λ (k : ℕ). k * type_size (R E) < 2 ^ 63) (sym counted) small) $ fjoin ! $ token_owns ! $
      -- [the row; the rights; the right to free it]
      move ! (2 ∷ []) $ token_owns ! $ move ! (2 ∷ []) $ use1 𝓛 (‵ ((Rooms.the_row (R E)).own_val new.2 (token_val ∷ []))) (rooms_made 𝓛 (R E) γs) $ move ! (2 ∷ []) $ word_made ! p $
      -- [the start; the row; the rights; the deed]
      group ! 4 $ use1 𝓛 (‵ ((Parts E Z).own_val new (parts_val p ∷ []))) (four_of 𝓛 (Start.the_row (R E)) (Row.the_row (R E)) (Rooms.the_row (R E)) (Deed.the_row (R E) (P E Z) Z.g) new.0 new.1 new.2 new.3 (word p) token_val token_val token_val) $
      now ! $ show ! (λ δs. mean 𝓛 (Fresh δs)) γs $ check ! counted $ done !))

module _ (E : El) (Z : Al) {M : Type 1} {𝓤 : Ura M} {𝓛 : Logic 𝓤} {K : Type 0} {Γ : List (Item 𝓤)} {G : Goal 𝓤 𝓛.H} where
  -- where the row and the right to free it are those of n slots at p
  pub joined : K → (p : Ptr) (n : ℕ) (a : Z.row.Denot) (γs : List ℕ) (row_at : Ptr) (freed : Z.row.Denot × Ptr × ℕ) → row_at ≡ p → length γs ≡ n → freed ≡ (a, p, n)
      → ((b o : ℕ) → p ≡ block_ptr b o → n * type_size (R E) < 2 ^ 63 → Seq K 𝓛 (‵ (froom (block_ty E n) b o) ∷ ‵ (token Z a (block_ty E n) (block_ptr b o)) ∷ Γ) G)
      → Seq K 𝓛 (‵ (row_owns (R E) row_at γs) ∷ ‵ (deed_owns (R E) (token Z freed.0) freed.1 freed.2) ∷ Γ) G
  joined t p n a γs row_at freed here counted same next =
      rewrite t 1 (λ (d : Z.row.Denot × Ptr × ℕ). ‵ (deed_owns (R E) (token Z d.0) d.1 d.2)) same refl $ rewrite t 0 (λ (k : Ptr). ‵ (row_owns (R E) k γs)) here refl $
      in_a_block t p (λ k. row_owns (R E) k γs) (id⊢ 𝓤 (never 𝓤)) (λ b o is_block. rewrite t 1 (λ (k : Ptr). ‵ (token Z a (block_ty E n) k)) is_block refl $ fsplit t $ flt_l t (λ small.
      use1 𝓛 (‵ (froom (ty_array (elτ E) (length γs)) b o)) (closed E.row E.laws 𝓛 b γs o) $ as_raw t (ty_array (elτ E) (length γs)) b o $ rewrite t 0 (λ (k : ℕ). ‵ (froom (block_ty E k) b o)) counted refl $
      next b o is_block (subst (λ (k : ℕ). k * type_size (R E) < 2 ^ 63) counted small)))

-- ---- the allocator is called
module _ (E : El) {M : Type 1} {𝓤 : Ura M} {𝓛 : Logic 𝓤} {K : Type 0} {Γ : List (Item 𝓤)} {Ev : Env 𝓤 𝓛.H} where
  pub bytes : K → {slots : Operand} (n : ℕ) → n * type_size (R E) < 2 ^ 64 → Opd K 𝓛 Γ Ev slots (vint w64 n) → Rv K 𝓛 Γ Ev (op2 (mul unsigned) slots (size_of (elτ E))) (vint w64 (n * type_size (R E)))
  bytes t n fits count = let whole = uncapped n (type_size (R E)) fits in is t (bin t count (size_word t) (record { fits = subst (λ (k : ℕ). k < 2 ^ 64) (sym whole) fits })) (ap (vint w64) whole)

module _ (E : El) where
  abbrev size : ℕ → ℕ
  size n = n * type_size (R E)

  abbrev alignment : ℕ
  alignment = capped (align (elτ E))

module _ (E : El) (Z : Al) {M : Type 1} {𝓤 : Ura M} (𝓛 : Logic 𝓤) (at_mem : Memory → SProp 𝓤) (run : Routine → Fun 𝓤) (κ : Lft) (q : Share) (handle : ℕ × ℕ) (a : Z.row.Denot) (n : ℕ) where
  abbrev asking : (Takes Z 𝓛 at_mem run).Ghost
  asking = at_takes Z 𝓛 at_mem run κ q handle a (size E n) (alignment E) (block_ty E n)

  abbrev giving : ℕ → ℕ → (Gives Z 𝓛 at_mem run).Ghost
  giving b o = at_gives Z 𝓛 at_mem run κ q handle a b o (size E n) (alignment E) (block_ty E n)

module _ (E : El) (Z : Al) {M : Type 1} {𝓤 : Ura M} {𝓛 : Logic 𝓤} {K : Type 0} {Γ : List (Item 𝓤)} {C : Calls 𝓤 𝓛.H} {Λ : Loops 𝓤 𝓛.H} {Ev : Env 𝓤 𝓛.H} {Q : Post 𝓤 𝓛.H} {xs : List Operand} {to : Place}
    (at_mem : Memory → SProp 𝓤) (run : Routine → Fun 𝓤) (κ : Lft) (q : Share) (handle : ℕ × ℕ) (a : Z.row.Denot) (n : ℕ) where
  -- the parts of a new block, or a refusal
  pub asks : K → {rest : Body} → FmC 𝓤 𝓛.H 𝓛.laws C → Triple 𝓤 (C (takes_key Z)) (Takes Z 𝓛 at_mem run) → κ ⊑ Z.row.lives → size E n < 2 ^ 63
      → Opds K 𝓛 (raw ((Takes Z 𝓛 at_mem run).pre (asking E Z 𝓛 at_mem run κ q handle a n)) ∷ Γ) Ev xs (vptr handle.0 handle.1 ∷ vint w64 (size E n) ∷ vint w64 (alignment E) ∷ [])
      → ((b o : ℕ) (γs : List ℕ) → length γs ≡ n → Seq K 𝓛 (‵ ((Parts E Z).own_val (parts E Z (block_ptr b o) γs n a) (parts_val (block_ptr b o) ∷ [])) ∷ ‵ (flft κ q) ∷ Γ) (lands C Λ Ev to (answer_val true b o) rest Q))
      → Seq K 𝓛 (‵ (flft κ q) ∷ Γ) (lands C Λ Ev to (answer_val false 0 0) rest Q)
      → Seq K 𝓛 (‵ (seen Z κ handle a) ∷ ‵ (flft κ q) ∷ Γ) (runs C Λ Ev (seq (call (takes_key Z) xs to) rest) Q)
  asks t {rest} fm met lasting small operands given_one refused = let fits : size E n < 2 ^ 64 = omega arith in
      use2 𝓛 (raw ((Takes Z 𝓛 at_mem run).pre (asking E Z 𝓛 at_mem run κ q handle a n))) (Takes-goes Z 𝓛 at_mem run κ q handle a lasting (size E n) (alignment E) (block_ty E n) (block_size E n fits) (block_align E n) fits (capped_fits (align (elτ E)))) $
      calls_at t fm (Takes Z 𝓛 at_mem run) met (asking E Z 𝓛 at_mem run κ q handle a n) operands (λ v.
      use1 𝓛 (later (raw (Answered Z 𝓛 at_mem run a (block_ty E n) v) ⊛ ‵ (flft κ q))) (Takes-gives Z 𝓛 at_mem run κ q handle a (size E n) (alignment E) (block_ty E n) v) $ await t tt $ split t $
      answers Z t at_mem run a (block_ty E n) v (λ b o is. use2 𝓛 (later (some (Fresh E Z 𝓛 b o n a))) (cut E Z 𝓛 b o n a small) $ await t tt $ pick t (λ γs. learn t (λ counted. regoal t (λ (u : Val). lands C Λ Ev to u rest Q) is refl $ given_one b o γs counted))) (λ is. regoal t (λ (u : Val). lands C Λ Ev to u rest Q) is refl $ refused))

  pub returned : K → FmC 𝓤 𝓛.H 𝓛.laws C → Triple 𝓤 (C (gives_key Z)) (Gives Z 𝓛 at_mem run) → κ ⊑ Z.row.lives → size E n < 2 ^ 63 → (b o : ℕ)
      → Opds K 𝓛 (raw ((Gives Z 𝓛 at_mem run).pre (giving E Z 𝓛 at_mem run κ q handle a n b o)) ∷ Γ) Ev xs (vptr handle.0 handle.1 ∷ vptr b o ∷ vint w64 (size E n) ∷ vint w64 (alignment E) ∷ [])
      → Step K 𝓛 (‵ (flft κ q) ∷ Γ) (settles Ev to vunit Q) (‵ (froom (block_ty E n) b o) ∷ ‵ (token Z a (block_ty E n) (block_ptr b o)) ∷ ‵ (seen Z κ handle a) ∷ ‵ (flft κ q) ∷ Γ) (runs C Λ Ev (call (gives_key Z) xs to) Q)
  returned t fm met lasting small b o operands = let fits : size E n < 2 ^ 64 = omega arith in step (λ next. group t 4 $
      use1 𝓛 (raw ((Gives Z 𝓛 at_mem run).pre (giving E Z 𝓛 at_mem run κ q handle a n b o))) (Gives-goes Z 𝓛 at_mem run κ q handle a lasting b o (size E n) (alignment E) (block_ty E n) (block_size E n fits) (block_align E n) fits (capped_fits (align (elτ E)))) $
      calls_at_last t fm (Gives Z 𝓛 at_mem run) met (giving E Z 𝓛 at_mem run κ q handle a n b o) operands (λ v.
      use1 𝓛 (later (given (v ≡ vunit) (‵ (flft κ q)))) (Gives-Gives Z 𝓛 at_mem run κ q handle a b o (size E n) (alignment E) (block_ty E n) v) $ await t tt $ learn t (λ is. regoal t (λ (u : Val). settles Ev to u Q) is refl $ next)))
