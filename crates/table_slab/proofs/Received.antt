-- Receipts as values without bytes, and what a `&` to one shows. Assumes `Logic`.
--     receipt_made     a right that was given up is a receipt
--     Lends-shown      of a borrow of what shows Q too, Q is lent
--     receipt_shown    a `&` to a receipt shows what stands at its number
--     the_receipt, apart_numbers      a receipt behind a `&mut`;  two receipts of one slab are of different numbers
--     receipts_made, the_receipts      the same of the receipts of a list of numbers
--     receipts_joined, with_receipt    others, or one more, are put behind them
--     receipts_distinct      no two of them are of one number
--     shown_behind     what a mark behind a `&mut` shows
use Rattle.std.proofs.Common.{◌≡◌, ℕ, ◌==◌, ◌⊎◌, inl, inr, List, [], ◌∷◌, ◌++◌, refl, sym, subst, arith}
use Rattle.std.specs.Prelude.{count_by}
use Rattle.std.proofs.lemmas.Bool.{cases_eq, cases_Bool, eqb-true, ne_eqb}
use Rattle.std.proofs.lemmas.List.Sums.{sum_by-cons}
use seplogic.Ra.Ura.{Ura}
use base.Logic.{SProp, ent, sep, emp, via, never, never_e}
use base.Fml.{Lft, Share, Fml, fbor, flft}
use base.Shift.{Keyless}
use types.Logic.{Logic, sem}
use types.Kit.{‵, raw, ◌⊛◌, later, ◌$◌, ◌∵◌, !, qed, by, move, drop, split, split3, fsplit, fjoin, use0, use1, use2, rewrite, updating, await, now, done}
use types.Tokens.{bor_open, obor_close}
use contract.Monad.{fact, fact_i}
use denote.RattleType.{RattleType}
use denote.Memory.{hidden_shr}
use denote.Ref.{MutBor, mut_vals}
use denote.Opens.{unhide}
use denote.Steps.{nothing, heard}
use denote.Param.Send.{IsSend, IsSync, sendable}
use denote.Sharing.{said}
use denote.Struct.Lending.{Lends}
use denote.Struct.Struct.{Struct}
use denote.Struct.Owning.{shape}
use Rattle.core.proofs.cell.Borrows.{by_one}
use Rattle.table_cell.proofs.Ajar.{Marked, lent, ajar, opens_up, shuts}
use Rattle.table_slab.specs.Held.{AreDistinct}
use Rattle.table_slab.specs.Shelved.{standing}
use Rattle.table_slab.specs.Slabs.{SlabView}
use Rattle.table_slab.specs.Spent.{spent, spents}
use Rattle.table_slab.specs.contracts.rights.Receipt as Receipt
use Rattle.table_slab.specs.contracts.rights.Receipts as Receipts
use Rattle.table_slab.proofs.Made.{token_val, with_marker}
use Rattle.table_slab.proofs.Spent.{spents_differ, spents_join}

-- a receipt behind a `&mut`
abbrev pub the_receipt : RattleType → Marked
the_receipt R = record { row = Receipt.the_row R; mark = (Struct (shape (Receipt.the_type R))).own_val (record {}, tt); owns = λ r. spent R r.slab r.number r.value; is = λ r vs. refl }

module _ {M : Type 1} {𝓤 : Ura M} (𝓛 : Logic 𝓤) (R : RattleType) where
  pub receipt_made : (s : SlabView) (number : ℕ) (x : R.Denot)
      → ent 𝓤 (sem 𝓛 (spent R s number x)) (sem 𝓛 ((Receipt.the_row R).own_val (record { marker = record {}; slab = s; number = number; value = x }) (token_val ∷ [])))
  receipt_made s number x = with_marker 𝓛 R (spent R s number x)

  pub receipt_shown : (κ : Lft) (b o : ℕ) (r : (Receipt.the_row R).Denot) → ent 𝓤 (sem 𝓛 (hidden_shr (Receipt.the_row R) κ r b o)) (sem 𝓛 (standing R r.slab r.number r.value))
  receipt_shown κ b o r = qed 𝓛 (‵ (hidden_shr (Receipt.the_row R) κ r b o) ∷ []) ∵ unhide ! $ fsplit ! $ drop ! $ done !

  module _ (s : SlabView) (m n : ℕ) (x y : R.Denot) where
    abbrev pub Apart : Type 0
    Apart = m ≡ n → ⊥

    abbrev Both : SProp 𝓤
    Both = sep 𝓤 (sem 𝓛 (spent R s m x)) (sem 𝓛 (spent R s n y))

    abbrev Shown : SProp 𝓤
    Shown = sep 𝓤 (sem 𝓛 (spent R s m x)) (sep 𝓤 (sem 𝓛 (spent R s n y)) (fact 𝓤 Apart))

    apart_by : (m ≡ n) ⊎ (m ≡ n → ⊥) → ent 𝓤 Both Shown
    apart_by (inl e) = qed 𝓛 (‵ (spent R s m x) ∷ ‵ (spent R s n y) ∷ []) ∵ rewrite ! 1 (λ (k : ℕ). ‵ (spent R s k y)) (sym e) refl $ by ! (via 𝓤 (never 𝓤) (spents_differ 𝓛 R s m x y) (never_e 𝓤 Shown))
    apart_by (inr ne) = qed 𝓛 (‵ (spent R s m x) ∷ ‵ (spent R s n y) ∷ []) ∵ use0 𝓛 (raw (fact 𝓤 Apart)) (fact_i 𝓤 Apart (emp 𝓤) ne) $ move ! (1 ∷ 2 ∷ 0 ∷ []) $ done !

    pub apart_numbers : ent 𝓤 Both Shown
    apart_numbers = apart_by (cases_eq m n)

-- how many of these are of this number
abbrev times : {X : Type 0} → ℕ → List (ℕ × X) → ℕ
times n es = count_by (λ (e : ℕ × _). n == e.0) es

module _ {X : Type 0} (e : ℕ × X) (es : List (ℕ × X)) where
  never_more : (n : ℕ) → (n ≡ e.0 → ⊥) → times n es ≡ 0 → times n (e ∷ es) ≡ 0
  never_more n other none = rw (sum_by-cons, ne_eqb n e.0 other) (omega (arith, none))

  distinct_more : times e.0 es ≡ 0 → AreDistinct es → AreDistinct (e ∷ es)
  distinct_more none few n = elim (cases_Bool (n == e.0)) [
    | inl it ↦ (let zero_times = subst (λ (k : ℕ). times k es ≡ 0) (sym (eqb-true n e.0 it)) none in rw (sum_by-cons, it) (omega (arith, zero_times)))
    | inr other ↦ (let at_most = few n in rw (sum_by-cons, other) (omega (arith, at_most)))
  ]

-- the receipts of a list of numbers, behind a `&mut`
abbrev pub the_receipts : RattleType → Marked
the_receipts R = record { row = Receipts.the_row R; mark = (Struct (shape (Receipts.the_type R))).own_val (record {}, tt); owns = λ r. spents R r.slab r.entries; is = λ r vs. refl }

module _ {M : Type 1} {𝓤 : Ura M} (𝓛 : Logic 𝓤) (R : RattleType) (s : SlabView) where
  abbrev Has : List (ℕ × R.Denot) → SProp 𝓤
  Has es = sem 𝓛 (spents R s es)

  abbrev Made : List (ℕ × R.Denot) → SProp 𝓤
  Made es = sem 𝓛 ((Receipts.the_row R).own_val (record { marker = record {}; slab = s; entries = es }) (token_val ∷ []))

  pub receipts_made : (es : List (ℕ × R.Denot)) → ent 𝓤 (Has es) (Made es)
  receipts_made es = with_marker 𝓛 R (spents R s es)

  pub receipts_joined : (es fs : List (ℕ × R.Denot)) → ent 𝓤 (sep 𝓤 (Has es) (Has fs)) (Made (es ++ fs))
  receipts_joined es fs = via 𝓤 (Has (es ++ fs)) (spents_join 𝓛 R s es fs) (receipts_made (es ++ fs))

  pub with_receipt : (es : List (ℕ × R.Denot)) (n : ℕ) (x : R.Denot) → ent 𝓤 (sep 𝓤 (Has es) (sem 𝓛 (spent R s n x))) (Made (es ++ (n, x) ∷ []))
  with_receipt es n x = qed 𝓛 (‵ (spents R s es) ∷ ‵ (spent R s n x) ∷ []) ∵ nothing ! $ move ! (2 ∷ 0 ∷ []) $ fjoin ! $ move ! (1 ∷ 0 ∷ []) $ by ! (receipts_joined es ((n, x) ∷ []))

  -- what is kept beside a right that was given up is of other numbers
  never_beside : (n : ℕ) (x : R.Denot) (es : List (ℕ × R.Denot))
      → ent 𝓤 (sep 𝓤 (sem 𝓛 (spent R s n x)) (Has es)) (sep 𝓤 (sem 𝓛 (spent R s n x)) (sep 𝓤 (Has es) (fact 𝓤 (times n es ≡ 0))))
  never_beside n x [] = qed 𝓛 (‵ (spent R s n x) ∷ ‵ (spents R s []) ∷ []) ∵ use0 𝓛 (raw (fact 𝓤 (0 ≡ 0))) (fact_i 𝓤 (0 ≡ 0) (emp 𝓤) refl) $ move ! (1 ∷ 2 ∷ 0 ∷ []) $ done !
  never_beside n x (e ∷ es) = let N = ‵ (spent R s n x) in let E = ‵ (spent R s e.0 e.1) in let Others : Type 0 = times n es ≡ 0 in let Apart : Type 0 = n ≡ e.0 → ⊥ in
      let Never : Type 0 = times n (e ∷ es) ≡ 0 in qed 𝓛 (N ∷ ‵ (spents R s (e ∷ es)) ∷ []) ∵ move ! (1 ∷ []) $ fsplit ! $
      move ! (2 ∷ 1 ∷ []) $ use2 𝓛 (N ⊛ ‵ (spents R s es) ⊛ raw (fact 𝓤 Others)) (never_beside n x es) $ split3 ! $
      -- [the one; the others; none of these is of its number; the first]
      move ! (2 ∷ []) $ heard ! Others (λ none. move ! (0 ∷ 2 ∷ []) $ use2 𝓛 (N ⊛ E ⊛ raw (fact 𝓤 Apart)) (apart_numbers 𝓛 R s n e.0 x e.1) $ split3 ! $
      move ! (2 ∷ []) $ heard ! Apart (λ apart. use0 𝓛 (raw (fact 𝓤 Never)) (fact_i 𝓤 Never (emp 𝓤) (never_more e es n apart none)) $ move ! (2 ∷ 3 ∷ []) $ fjoin ! $ move ! (2 ∷ 0 ∷ 1 ∷ []) $ done !))

  pub receipts_distinct : (es : List (ℕ × R.Denot)) → ent 𝓤 (Has es) (sep 𝓤 (Has es) (fact 𝓤 (AreDistinct es)))
  receipts_distinct [] = qed 𝓛 (‵ (spents R s []) ∷ []) ∵ let None : Type 0 = AreDistinct {T = R.Denot} [] in
      use0 𝓛 (raw (fact 𝓤 None)) (fact_i 𝓤 None (emp 𝓤) (λ n. omega arith)) $ move ! (1 ∷ 0 ∷ []) $ done !
  receipts_distinct (e ∷ es) = let E = ‵ (spent R s e.0 e.1) in let Few : Type 0 = AreDistinct es in let Never : Type 0 = times e.0 es ≡ 0 in let All : Type 0 = AreDistinct (e ∷ es) in
      qed 𝓛 (‵ (spents R s (e ∷ es)) ∷ []) ∵ fsplit ! $ move ! (1 ∷ []) $ use1 𝓛 (‵ (spents R s es) ⊛ raw (fact 𝓤 Few)) (receipts_distinct es) $ split ! $ move ! (1 ∷ []) $ heard ! Few (λ few.
      move ! (1 ∷ 0 ∷ []) $ use2 𝓛 (E ⊛ ‵ (spents R s es) ⊛ raw (fact 𝓤 Never)) (never_beside e.0 e.1 es) $ split3 ! $ move ! (2 ∷ []) $ heard ! Never (λ none.
      fjoin ! $ use0 𝓛 (raw (fact 𝓤 All)) (fact_i 𝓤 All (emp 𝓤) (distinct_more e es none few)) $ move ! (1 ∷ 0 ∷ []) $ done !))

-- what a mark behind a `&mut` shows, where what it owns shows it
module _ {M : Type 1} {𝓤 : Ura M} (𝓛 : Logic 𝓤) (X : Marked) (κ : Lft) (q : Share) (m : MutBor X.row.Denot) (φ : Type 0)
    (shows : ent 𝓤 (sem 𝓛 (X.owns m.now)) (sep 𝓤 (sem 𝓛 (X.owns m.now)) (fact 𝓤 φ))) where
  open 𝓛 use {H, A}

  abbrev Behind : Fml
  Behind = lent X κ q m m.now (mut_vals m)

  pub shown_behind : ent 𝓤 (sep 𝓤 (sem 𝓛 Behind) (A.lft κ q)) (H.⇛ (sep 𝓤 (fact 𝓤 φ) (sep 𝓤 (sem 𝓛 Behind) (A.lft κ q))))
  shown_behind = let O = ‵ (X.owns m.now) in qed 𝓛 (‵ Behind ∷ ‵ (flft κ q) ∷ []) ∵ updating ! $
      use2 𝓛 (later (O ⊛ ‵ (ajar X κ q m))) (opens_up X κ q m 𝓛 (mut_vals m)) $ await ! tt $ split ! $ use1 𝓛 (O ⊛ raw (fact 𝓤 φ)) shows $ split ! $
      -- [what it owns; what that shows; what is ajar]
      move ! (0 ∷ 2 ∷ []) $ use2 𝓛 (later (‵ Behind ⊛ ‵ (flft κ q))) (shuts X κ q m 𝓛 (mut_vals m) m.now refl) $ await ! tt $ now ! $ move ! (1 ∷ []) $ done !

module _ {M : Type 1} {𝓤 : Ura M} (𝓛 : Logic 𝓤) (P Q : Fml) (shows : ent 𝓤 (sem 𝓛 P) (sep 𝓤 (sem 𝓛 P) (sem 𝓛 Q))) where
  open 𝓛 use {H, A}

  shown_in_passing : (κ : Lft) (q : Share) → ent 𝓤 (sep 𝓤 (A.bor κ P) (A.lft κ q)) (H.⇛ (sep 𝓤 (sem 𝓛 Q) (A.lft κ q)))
  shown_in_passing κ q = qed 𝓛 (‵ (fbor κ P) ∷ ‵ (flft κ q) ∷ []) ∵ updating ! $ bor_open ! tt $ move ! (1 ∷ []) $ use1 𝓛 (‵ P ⊛ ‵ Q) shows $ split ! $
      -- [what is borrowed; what it shows; the open borrow]
      move ! (2 ∷ 0 ∷ []) $ obor_close ! tt $ drop ! $ move ! (1 ∷ 0 ∷ []) $ now ! $ done !

  pub Lends-shown : (l : Lft) → Lends 𝓛 P (said Q) l
  Lends-shown l κ ts inc within = by_one 𝓛 κ ts within (A.bor κ P) (sem 𝓛 Q) (shown_in_passing κ)

spent_keyless : (R : RattleType) (s : SlabView) (n : ℕ) (x : R.Denot) → Keyless (spent R s n x)
spent_keyless R s n x = λ z. (tt, ((λ ε. (tt, tt)), λ is. tt))

spents_keyless : (R : RattleType) (s : SlabView) (es : List (ℕ × R.Denot)) → Keyless (spents R s es)
spents_keyless R s [] = tt
spents_keyless R s (e ∷ es) = (spent_keyless R s e.0 e.1, spents_keyless R s es)

pub receipt_send : (R : RattleType) → IsSend (Receipt.the_row R)
receipt_send R = record { owned = λ d vs. ((λ vss. (tt, ((λ uss. (tt, tt)), tt))), spent_keyless R d.slab d.number d.value); leaving = λ k f vs. tt }

pub receipts_send : (R : RattleType) → IsSend (Receipts.the_row R)
receipts_send R = record { owned = λ d vs. ((λ vss. (tt, ((λ uss. (tt, tt)), tt))), spents_keyless R d.slab d.entries); leaving = λ k f vs. tt }

pub receipt_sync : (R : RattleType) → IsSync (Receipt.the_row R)
receipt_sync R = let fields : IsSync (Struct (shape (Receipt.the_type R))) = search sendable depth 20 in
    record { shared = λ d b o κ. (fields.shared (tt, tt) b o κ, λ z. (tt, ((λ ε. tt), λ i. tt))) }
