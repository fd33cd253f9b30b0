-- The two calls by which an allocator under a rule reaches the memory below: what each is handed, and what it leaves.
-- Their lifetimes, with shares and bounds, are those of the caller: all pass through. Assumes `Logic`.
use Rattle.std.proofs.Common.{◌≡◌, ℕ, ◌<◌, ◌^◌, Bool, [], ◌∷◌, refl, ap, w64, Bor}
use seplogic.Ra.Ura.{Ura}
use mir.Syntax.{Dict, named}
use mir.Val.{Val, vbool, vint, vptr}
use base.Logic.{SProp, ent, ex, sep, guard, emp, id⊢}
use base.Fml.{Fml, ftrue, fsep}
use prog.Memory.{Memory}
use prog.Routine.{Routine}
use types.Logic.{Logic, sem}
use types.Kit.{‵, raw, ◌⊛◌, some, later, ◌$◌, ◌∵◌, !, qed, move, drop, use0, use1, split, join, fsplit, fjoin, pick, feq_i, feq_l, flt_i, check, show, await, rewrite, updating, now as at_once, done}
use contract.BorrowLft.{◌⊑◌}
use contract.Lifetimes.{Lfts, Shares, AllOutlive}
use contract.Monad.{Fun, fact, fact_i}
use denote.Builtin.{bool}
use denote.Memory.{hidden_shr}
use denote.Param.{param}
use denote.RattleType.{RattleType}
use denote.Ref.{ShrRef, shr_vals}
use denote.Steps.{heard, nothing, only}
use denote.Triple.Entry.{alive}
use denote.Triple.Spec.{triple_of}
use denote.Triple.Statement.{Contract}
use Rattle.core.specs.declared.alloc.Allocator.{Ghosts}
use Rattle.testkit.specs.Rules.{memory_of}
use Rattle.testkit.specs.contracts.refusing.Refusing as ruled
use Rattle.testkit.specs.contracts.refusing.Refusing.memory as reached
use Rattle.testkit.specs.contracts.refusing.Refusing.refuses as asked

module _ (B : RattleType) (g : Ghosts B.Denot) (d dd : Dict) {M : Type 1} {𝓤 : Ura M} (𝓛 : Logic 𝓤) (at_mem : Memory → SProp 𝓤) (run : Routine → Fun 𝓤) where
  abbrev pub Reach : Contract 𝓤
  Reach = triple_of 𝓛 (reached.signature B) (reached.spec B g d dd 𝓛 at_mem run)

  abbrev pub Ask : Contract 𝓤
  Ask = triple_of 𝓛 (asked.signature B) (asked.spec B g d dd 𝓛 at_mem run)

  module _ (κs : Lfts 2) (qs : Shares 2) (bounds : AllOutlive 2 (reached.signature B).outlives κs) (heap : Bor (ruled.the_row (param 0 B)).Denot) where
    abbrev pub Tokens : SProp 𝓤
    Tokens = alive 𝓛 (reached.signature B) κs qs

    abbrev pub Heap : Fml
    Heap = (ShrRef (named 0) κs.0 (ruled.the_row (param 0 B))).own_val heap (shr_vals heap)

    abbrev pub below : ℕ × ℕ → Bor B.Denot
    below p = record { ref_ptr = p; now = memory_of heap.now }

    abbrev pub Below : ℕ × ℕ → Fml
    Below p = (ShrRef (named 0) κs.0 (param 0 B)).own_val (below p) (shr_vals (below p))

    abbrev pub to_reach : Reach.Ghost
    to_reach = ((κs, qs, bounds, (heap, tt), (shr_vals heap, tt)), tt)

    abbrev pub to_ask : ℕ → Ask.Ghost
    to_ask size = ((κs, qs, bounds, (heap, (size, tt)), (shr_vals heap, (vint w64 size ∷ [], tt))), tt)

    -- the memory below is lent for as long as the allocator is
    pub reach_begins : κs.1.0 ⊑ B.lives → ent 𝓤 (sep 𝓤 Tokens (sem 𝓛 Heap)) (Reach.pre to_reach)
    reach_begins within = qed 𝓛 (raw Tokens ∷ ‵ Heap ∷ []) ∵
        nothing ! $ use0 𝓛 (raw (fact 𝓤 (κs.1.0 ⊑ B.lives))) (fact_i 𝓤 (κs.1.0 ⊑ B.lives) (emp 𝓤) within) $ join ! $
        nothing ! $ move ! (3 ∷ 0 ∷ []) $ fjoin ! $ move ! (2 ∷ 0 ∷ []) $ join ! $ join ! $ done !

    pub reach_ends : (v : Val) → ent 𝓤 (Reach.post to_reach v) (𝓛.H.⇛ (ex 𝓤 (λ (p : ℕ × ℕ). guard 𝓤 (v ≡ vptr p.0 p.1) (sep 𝓤 Tokens (sem 𝓛 (Below p))))))
    reach_ends v = qed 𝓛 (raw (Reach.post to_reach v) ∷ []) ∵ updating ! $
        use1 𝓛 (later (some (λ (m : Bor B.Denot). (raw Tokens ⊛ ‵ ((ShrRef (named 0) κs.0 (param 0 B)).own_val m (v ∷ [])))
        ⊛ some (λ (end : Unit {0} × Unit {0}). ‵ (fsep ftrue ftrue) ⊛ raw (fact 𝓤 (m.now ≡ memory_of heap.now)))))) (id⊢ 𝓤 _) $ await ! tt $ pick ! (λ m.
        split ! $ move ! (1 ∷ []) $ pick ! (λ end. split ! $ drop ! $ heard ! (m.now ≡ memory_of heap.now) (λ is.
        split ! $ move ! (1 ∷ []) $ fsplit ! $ feq_l ! (λ held. at_once ! $
        show ! (λ (p : ℕ × ℕ). guard 𝓤 (v ≡ vptr p.0 p.1) (sep 𝓤 Tokens (sem 𝓛 (Below p)))) m.ref_ptr $ check ! (ap only held) $
        rewrite ! 0 (λ (h : B.Denot). ‵ (hidden_shr (param 0 B) κs.0 h m.ref_ptr.0 m.ref_ptr.1)) is refl $
        feq_i ! _ (shr_vals (below m.ref_ptr)) _ refl $ fjoin ! $ move ! (1 ∷ 0 ∷ []) $ done !))))

    -- whether a request is refused: nothing is said of it
    pub ask_begins : κs.1.0 ⊑ B.lives → (size : ℕ) → size < 2 ^ 64 → ent 𝓤 (sep 𝓤 Tokens (sem 𝓛 Heap)) (Ask.pre (to_ask size))
    ask_begins within size fits = qed 𝓛 (raw Tokens ∷ ‵ Heap ∷ []) ∵
        nothing ! $ use0 𝓛 (raw (fact 𝓤 (κs.1.0 ⊑ B.lives))) (fact_i 𝓤 (κs.1.0 ⊑ B.lives) (emp 𝓤) within) $ join ! $
        nothing ! $ flt_i ! size (2 ^ 64) fits $ feq_i ! _ (vint w64 size ∷ []) _ refl $ fjoin ! $ fjoin ! $
        move ! (3 ∷ 0 ∷ []) $ fjoin ! $ move ! (2 ∷ 0 ∷ []) $ join ! $ join ! $ done !

    pub ask_ends : (size : ℕ) (v : Val) → ent 𝓤 (Ask.post (to_ask size) v) (𝓛.H.⇛ (ex 𝓤 (λ (refused : Bool). guard 𝓤 (v ≡ vbool refused) Tokens)))
    ask_ends size v = qed 𝓛 (raw (Ask.post (to_ask size) v) ∷ []) ∵ updating ! $
        use1 𝓛 (later (some (λ (b : Bool). (raw Tokens ⊛ ‵ (bool.own_val b (v ∷ []))) ⊛ some (λ (end : Unit {0} × (Unit {0} × Unit {0})). ‵ (fsep ftrue (fsep ftrue ftrue)) ⊛ ‵ ftrue))))
        (id⊢ 𝓤 _) $ await ! tt $ pick ! (λ b. split ! $ split ! $ move ! (1 ∷ 2 ∷ []) $ feq_l ! (λ held. drop ! $ at_once ! $
        show ! (λ (refused : Bool). guard 𝓤 (v ≡ vbool refused) Tokens) b $ check ! (ap only held) $ done !))
