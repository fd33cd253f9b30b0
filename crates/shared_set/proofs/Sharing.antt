-- Values that are moved into a set are entries of it.
use Rattle.std.proofs.Common.{◌≡◌, ◌∙◌, ℕ, ◌++◌, Bool, List, [], ◌∷◌, sym, subst, inl, inr}
use Rattle.std.specs.List.Sorted.{IsPermutation}
use Rattle.std.proofs.lemmas.List.{append_assoc, append-nil}
use Rattle.std.proofs.lemmas.List.Elements.{Contains-push_cases}
use Rattle.std.proofs.lemmas.List.Sorted.{IsPermutation-refl, IsPermutation-trans, Contains-permutation}
use Rattle.table_numbered.specs.Words.{numbered}
use Rattle.table_numbered.specs.History.{History, IsEntry}
use Rattle.table_numbered.specs.declared.event.Numbered.{Numbered}
use Rattle.shared_set.specs.declared.share.Shared.{Shared}
use Rattle.shared_set.specs.declared.share.Partly.{Partly}
use Rattle.shared_set.specs.Known.{Keeps}
use Rattle.shared_set.specs.Inserting.{IsPlaced}
use Rattle.shared_set.specs.Sharing.{HasValue, HasEach, Moves, KnowsEach, HasPart}
use Rattle.shared_set.proofs.Placing.{placed_entry}

module _ {V : Type 0} where
  value_kept : (old new : History (Numbered V)) (v : V) → Keeps old new → HasValue old v → HasValue new v
  value_kept old new v kept it = (it.0, kept (numbered it.0 v) it.1)

  -- what was moved stays moved
  moves_later : (values left : List V) (old new : History (Numbered V)) → Keeps old new → Moves values old left → Moves values new left
  moves_later values left old new kept it = record { moved = it.moved; all = it.all; entries = λ v among. value_kept old new v kept (it.entries v among) }

  -- the first of the values that are left is returned
  pub moves_back : (values rest : List V) (v back : V) (old new : History (Numbered V)) → back ≡ v → Keeps old new → Moves values old (v ∷ rest) → Moves values new (back ∷ rest)
  moves_back values rest v back old new is kept it = subst (λ (x : V). Moves values new (x ∷ rest)) (sym is) (moves_later values (v ∷ rest) old new kept it)

  -- the first of the values that are left is placed
  pub moves_on : (same : V → V → Bool) (k : ℕ) (values rest : List V) (v : V) (old new : History (Numbered V)) → Keeps old new → IsPlaced same k v old new → Moves values old (v ∷ rest) → Moves values new rest
  moves_on same k values rest v old new kept placed it = record {
    moved = it.moved ++ v ∷ [];
    all = it.all ∙ sym (append_assoc it.moved (v ∷ []) rest);
    entries = λ w among. elim (Contains-push_cases it.moved v w among) [
      | inl before ↦ value_kept old new w kept (it.entries w before)
      | inr is ↦ subst (HasValue new) is (k, placed_entry same k v old new placed)
    ];
  }

  module _ {L A : Type 0} where
    -- where no value is left, each is known
    pub knows_each : (values : List V) (s : Shared V L A) → s.known.of ≡ s.set.of → s.set.known ≡ s.known.history → Moves values s.known.history [] → KnowsEach values s
    knows_each values s of begun it = record { of = of; entries = subst (HasEach s.known.history) (sym (it.all ∙ append-nil it.moved)) it.entries; handles = begun }

    knows_moved : (values left : List V) (s : Shared V L A) → s.known.of ≡ s.set.of → s.set.known ≡ s.known.history → (it : Moves values s.known.history left) → KnowsEach it.moved s
    knows_moved values left s of begun it = record { of = of; entries = it.entries; handles = begun }

    -- the same of values in another order
    pub knows_in_order : (xs ys : List V) (s : Shared V L A) → IsPermutation xs ys → KnowsEach ys s → KnowsEach xs s
    knows_in_order xs ys s is it = record { of = it.of; entries = λ v among. it.entries v (Contains-permutation xs ys v is among); handles = it.handles }

    module _ {U : Type 0} where
      pub has_part : (values : List V) (p : Partly V L A U) → p.shared.known.of ≡ p.shared.set.of → p.shared.set.known ≡ p.shared.known.history → Moves values p.shared.known.history (p.refused ∷ p.rest) → HasPart values p
      has_part values p of begun it = record {
        moved = it.moved;
        all = subst (IsPermutation values) it.all (IsPermutation-refl values);
        knows = knows_moved values (p.refused ∷ p.rest) p.shared of begun it;
      }

      pub part_in_order : (xs ys : List V) (p : Partly V L A U) → IsPermutation xs ys → HasPart ys p → HasPart xs p
      part_in_order xs ys p is it = record { moved = it.moved; all = IsPermutation-trans xs ys (it.moved ++ p.refused ∷ p.rest) is it.all; knows = it.knows }
