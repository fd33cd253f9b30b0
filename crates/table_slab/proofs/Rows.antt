-- Slots side by side: one is taken out of the row, put back, or seen, and room for an array is a row of empty slots. Assumes `Logic`.
--     slot_seen      a `&` to the row has one to each slot
--     there          what lies in a slot whose value is known for good
--     slot_out       one slot, and the way back, under whatever name it has then
--     opened         room becomes a row of empty slots under new names, with the right to each
--     closed         a row becomes room; what lies in it is forgotten
use Rattle.std.proofs.Common.{◌∙◌, ◌≡◌, ℕ, zero, suc, ◌+◌, ◌*◌, ◌<◌, List, [], ◌∷◌, sym, refl, ap, arith, length, get_or}
use native.Mathlib.Nat.{zero-mul, suc-mul}
use lib.ListN.{set}
use seplogic.Ra.Ura.{Ura}
use base.Fraction.{full_share}
use base.Stored.{gnil, gcons}
use base.Logic.{SProp, ent, sep, wand, all, all_e, ex, guard, via, apply∗}
use base.Fml.{Lft, GName, ftrue, fsep, fat, froom, fobs, fown}
use mir.Syntax.{Ty, ty_array}
use types.Logic.{Logic, sem}
use types.Owned.{own_new, basic}
use types.Kit.{Item, mean, ‵, raw, ◌⊛◌, some, given, later, ◌$◌, ◌∵◌, !, qed, by, move, keep, drop, use0, use1, use2, split, fsplit, fjoin, fpick, fpack, pick, learn, check, show, frame, each, assume, await, updating, now, rewrite, done}
use types.Tokens.{name_new}
use denote.RattleType.{RattleType}
use denote.Laws.{Is, shows}
use denote.Memory.{part_at}
use denote.Param.{param, layout}
use denote.Param.Laws.{Laws, param_laws}
use denote.Steps.{nothing, peeks}
use borrow.Table.OneValue.{part_out}
use Rattle.core.specs.Mem.{type_size}
use Rattle.core.specs.declared.option.Option.{Option}
use Rattle.core.specs.declared.option.Option.TheVariants.{None, Some}
use Rattle.core.proofs.cell.Inside.{Good}
use Rattle.table_slab.specs.Rights.{once, mark, room, rooms}
use Rattle.table_slab.proofs.Tokens.{first, kind}
use Rattle.table_slab.specs.Kept.{Phase, idle, out, held, full, sign, Stage, Lies, place, rests, resting, shared_at, row, shared_row}

-- what lies in a slot whose value is known for good
pub there : (R : RattleType) (x : R.Denot) (v : Option R.Denot) (p : Phase R.Denot) → gcons (R.coded.code x) gnil ≡ sign R p → Lies R v p → v ≡ Some x
there R x v idle e so = absurd (let z : 2 ≡ 0 = ap kind e in omega arith)
there R x v out e so = absurd (let z : 2 ≡ 1 = ap kind e in omega arith)
there R x v (held z) e so = so ∙ ap (λ (u : R.Denot). Some u) (sym (R.coded.inj x z (ap first e)))
there R x v (full z) e so = so ∙ ap (λ (u : R.Denot). Some u) (sym (R.coded.inj x z (ap first e)))

module _ (R : RattleType) {M : Type 1} {𝓤 : Ura M} (𝓛 : Logic 𝓤) (b : ℕ) where
  open 𝓛 use {H}

  abbrev s : ℕ
  s = type_size R

  pub slot_seen : (κ : Lft) (γs : List GName) (i o at : ℕ) → i < length γs → at ≡ i * s + o → ent 𝓤 (sem 𝓛 (shared_row R b o γs κ)) (sem 𝓛 (shared_at R (get_or γs i 0) b at κ))
  slot_seen κ [] i o at lt e = absurd (omega arith)
  slot_seen κ (γ ∷ γs) zero o at lt e = let same : o ≡ at = omega (arith, zero-mul s) in qed 𝓛 (‵ (shared_row R b o (γ ∷ γs) κ) ∷ []) ∵ fsplit ! $ keep ! (0 ∷ []) $
      rewrite ! 0 (λ (k : ℕ). ‵ (shared_at R γ b k κ)) same refl $ done !
  slot_seen κ (γ ∷ γs) (suc i) o at lt e = qed 𝓛 (‵ (shared_row R b o (γ ∷ γs) κ) ∷ []) ∵ fsplit ! $ keep ! (1 ∷ []) $ by ! (slot_seen κ γs i (o + s) at (omega arith) (omega (arith, suc-mul i s)))

  abbrev pub Back : List GName → ℕ → ℕ → ℕ → SProp 𝓤
  Back γs i o at = all 𝓤 (λ (δ : GName). wand 𝓤 (sem 𝓛 (resting R δ b at)) (sem 𝓛 (row R b o (set γs i δ))))

  pub slot_out : (γs : List GName) (i o at : ℕ) → i < length γs → at ≡ i * s + o → ent 𝓤 (sem 𝓛 (row R b o γs)) (sep 𝓤 (sem 𝓛 (resting R (get_or γs i 0) b at)) (Back γs i o at))
  slot_out [] i o at lt e = absurd (omega arith)
  slot_out (γ ∷ γs) zero o at lt e = let same : o ≡ at = omega (arith, zero-mul s) in qed 𝓛 (‵ (row R b o (γ ∷ γs)) ∷ []) ∵ fsplit ! $ rewrite ! 0 (λ (k : ℕ). ‵ (resting R γ b k)) same refl $ frame ! $
      each ! (λ (δ : GName). wand 𝓤 (sem 𝓛 (resting R δ b at)) (sem 𝓛 (row R b o (δ ∷ γs)))) (λ δ. assume ! (‵ (resting R δ b at)) $ rewrite ! 0 (λ (k : ℕ). ‵ (resting R δ b k)) (sym same) refl $ fjoin ! $ done !)
  slot_out (γ ∷ γs) (suc i) o at lt e = qed 𝓛 (‵ (row R b o (γ ∷ γs)) ∷ []) ∵ fsplit ! $ move ! (1 ∷ []) $
      use1 𝓛 (‵ (resting R (get_or γs i 0) b at) ⊛ raw (Back γs i (o + s) at)) (slot_out γs i (o + s) at (omega arith) (omega (arith, suc-mul i s))) $ split ! $ frame ! $
      each ! (λ (δ : GName). wand 𝓤 (sem 𝓛 (resting R δ b at)) (sem 𝓛 (row R b o (γ ∷ set γs i δ)))) (λ δ. assume ! (‵ (resting R δ b at)) $ move ! (1 ∷ []) $
      use1 𝓛 (raw (wand 𝓤 (sem 𝓛 (resting R δ b at)) (sem 𝓛 (row R b (o + s) (set γs i δ))))) (all_e 𝓤 (λ (k : GName). wand 𝓤 (sem 𝓛 (resting R k b at)) (sem 𝓛 (row R b (o + s) (set γs i k)))) δ) $ move ! (1 ∷ 0 ∷ []) $
      use2 𝓛 (‵ (row R b (o + s) (set γs i δ))) (apply∗ 𝓤 (sem 𝓛 (resting R δ b at)) (sem 𝓛 (row R b (o + s) (set γs i δ)))) $ move ! (1 ∷ 0 ∷ []) $ fjoin ! $ done !)

  -- an empty place under a new name, and the right to it
  pub slot_new : (o : ℕ) → ent 𝓤 (sem 𝓛 (place R b o None)) (H.⇛ (mean 𝓛 (some (λ (γ : GName). ‵ (resting R γ b o) ⊛ ‵ (room R γ None)))))
  slot_new o = qed 𝓛 (‵ (place R b o None) ∷ []) ∵ updating ! $ use0 𝓛 (later (some (λ (ε : GName). ‵ (fown once ε tt)))) (via 𝓤 _ (own_new 𝓛 once tt) (basic 𝓛 (ex 𝓤 (λ (ε : GName). sem 𝓛 (fown once ε tt))))) $ await ! tt $ pick ! (λ ε.
      name_new ! tt (mark R ε None) (λ γ. let stage : Stage R.Denot = (ε, idle) in
      -- [obs; auth; the element; the place]
      move ! (0 ∷ 2 ∷ []) $ fjoin ! $ fpack ! GName (λ (δ : GName). fsep (fobs γ (mark R δ None)) (fown once δ tt)) ε $ move ! (1 ∷ []) $ nothing ! $ move ! (1 ∷ 0 ∷ []) $ fjoin ! $
      nothing ! $ fpack ! (Lies R None idle) (λ _. ftrue) refl $ move ! (1 ∷ 0 ∷ []) $ fjoin ! $ move ! (2 ∷ 0 ∷ []) $ fjoin ! $ fpack ! (Option R.Denot × Stage R.Denot) (rests R γ b o) (None, stage) $
      now ! $ show ! (λ (δ : GName). mean 𝓛 (‵ (resting R δ b o) ⊛ ‵ (room R δ None))) γ $ frame ! $ done !))

module _ (T : RattleType) (L : Laws T) {M : Type 1} {𝓤 : Ura M} (𝓛 : Logic 𝓤) (b : ℕ) where
  open 𝓛 use {H}

  abbrev R : RattleType
  R = param 0 T

  abbrev τ : Ty
  τ = layout T

  pub value_out : (x : T.Denot) (o : ℕ) → ent 𝓤 (sem 𝓛 (part_at R full_share x b o)) (mean 𝓛 (some (λ v. given (Good τ v) (‵ (fat full_share τ b o v) ⊛ ‵ (T.own_val x (v ∷ []))))))
  value_out x o = qed 𝓛 (‵ (part_at R full_share x b o) ∷ []) ∵
      use1 𝓛 (some (λ v. ‵ (fat full_share τ b o v) ⊛ ‵ (T.own_val x (v ∷ [])))) (part_out 𝓛 R refl full_share x b o) $ pick ! (λ v. split ! $ move ! (1 ∷ []) $
      peeks ! R (Is R) (shows 𝓛 R) x (v ∷ []) (λ p. show ! (λ w. guard 𝓤 (Good τ w) (sep 𝓤 (H.at full_share τ b o w) (sem 𝓛 (T.own_val x (w ∷ []))))) v $
      check ! (((param_laws 0 T L).lawful 𝓛).typed x (v ∷ []) p).0 $ move ! (1 ∷ 0 ∷ []) $ done !))

  pub place_room : (o : ℕ) (v : Option T.Denot) → ent 𝓤 (sem 𝓛 (place R b o v)) (sem 𝓛 (froom τ b o))
  place_room o None = 𝓛.laws.raw-room τ b o
  place_room o (Some x) = qed 𝓛 (‵ (part_at R full_share x b o) ∷ []) ∵ use1 𝓛 (some (λ v. given (Good τ v) (‵ (fat full_share τ b o v) ⊛ ‵ (T.own_val x (v ∷ []))))) (value_out x o) $
      pick ! (λ v. learn ! (λ good. split ! $ keep ! (0 ∷ []) $ by ! (𝓛.laws.at_room τ b o v)))

  abbrev pub Opened : ℕ → ℕ → List GName → Item 𝓤
  Opened n o γs = given (length γs ≡ n) (‵ (row R b o γs) ⊛ ‵ (rooms R γs))

  pub opened : (n o : ℕ) → ent 𝓤 (H.room (ty_array τ n) b o) (H.⇛ (mean 𝓛 (some (Opened n o))))
  opened zero o = qed 𝓛 (‵ (froom (ty_array τ 0) b o) ∷ []) ∵ updating ! $ now ! $ show ! (λ (γs : List GName). mean 𝓛 (Opened 0 o γs)) [] $ check ! refl $ drop ! $ nothing ! $ nothing ! $ done !
  opened (suc n) o = qed 𝓛 (‵ (froom (ty_array τ (suc n)) b o) ∷ []) ∵ updating ! $
      use1 𝓛 (‵ (froom τ b o) ⊛ ‵ (froom (ty_array τ n) b (o + type_size R))) (𝓛.laws.room_uncons τ n b o) $ split ! $
      use1 𝓛 (‵ (place R b o None)) (𝓛.laws.room-raw τ b o) $ use1 𝓛 (later (some (λ (γ : GName). ‵ (resting R γ b o) ⊛ ‵ (room R γ None)))) (slot_new R 𝓛 b o) $ await ! tt $ pick ! (λ γ. split ! $
      move ! (2 ∷ []) $ use1 𝓛 (later (some (Opened n (o + type_size R)))) (opened n (o + type_size R)) $ await ! tt $ pick ! (λ γs. learn ! (λ counts. split ! $
      -- [the row; the rights; the slot; its right]
      move ! (2 ∷ 0 ∷ []) $ fjoin ! $ move ! (2 ∷ 1 ∷ []) $ fjoin ! $ now ! $ show ! (λ (δs : List GName). mean 𝓛 (Opened (suc n) o δs)) (γ ∷ γs) $ check ! (ap suc counts) $ move ! (1 ∷ 0 ∷ []) $ done !)))

  pub closed : (γs : List GName) (o : ℕ) → ent 𝓤 (sem 𝓛 (row R b o γs)) (H.room (ty_array τ (length γs)) b o)
  closed [] o = 𝓛.laws.room_nil τ b o
  closed (γ ∷ γs) o = qed 𝓛 (‵ (resting R γ b o) ∷ ‵ (row R b (o + type_size R) γs) ∷ []) ∵ fpick ! (λ st. fsplit ! $ keep ! (0 ∷ 2 ∷ []) $ use1 𝓛 (‵ (froom τ b o)) (place_room o st.0) $ move ! (1 ∷ []) $
      use1 𝓛 (‵ (froom (ty_array τ (length γs)) b (o + type_size R))) (closed γs (o + type_size R)) $ move ! (1 ∷ 0 ∷ []) $ by ! (𝓛.laws.room_cons τ (length γs) b o))
