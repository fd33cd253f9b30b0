-- Numbers and values are used once.
use Rattle.std.proofs.Common.{ℕ, suc, zero, ◌≡◌, inl, inr, List, [], ◌∷◌, true, false, refl, Option, Some, None, sym, ap, eqb, ◌∙◌}
use Rattle.std.specs.List.{slice_get}
use Rattle.table_core.specs.Replies.{Finished}
use Rattle.table_core.specs.Calls.{Call, starts, is_used, is_value, is_used_value}
use Rattle.table_core.specs.Machine.{World, empty, Act}
use Rattle.table_core.specs.Steps.{IsNewValue, left}
use Rattle.table_core.specs.declared.event.Event.{Event}
use Rattle.table_core.proofs.Lists.{get-set, get-push}
use Rattle.std.proofs.lemmas.Bool.{eq-eqb}
use Rattle.table_core.proofs.Turns.{Turn, rests, opens, takes}
use Rattle.table_core.proofs.Facts.{Numbered, Valued}
use Rattle.std.proofs.lemmas.Bool.{or_parts}

pub unused_at : (n : ℕ) (cs : List Call) (i : ℕ) (c : Call) → is_used n cs ≡ false → slice_get cs i ≡ Some c → c.number ≡ n → ⊥
unused_at n [] i c u h e = cc
unused_at n (x ∷ cs) zero c u h e = let k : x ≡ c = cc in let q : eqb x.number n ≡ true = eq-eqb x.number n (ap (λ (z : Call). z.number) k ∙ e) in let o : (eqb x.number n ≡ false) × (is_used n cs ≡ false) = or_parts _ _ u in let z : eqb x.number n ≡ false = o.0 in cc
unused_at n (x ∷ cs) (suc i) c u h e = unused_at n cs i c (or_parts _ _ u).1 h e

pub keeps_numbered : {w v : World} {x : Event} {a : Option Act} {r : Option Finished} → Turn w x a v r → Numbered w → Numbered v
keeps_numbered rests o = o
keeps_numbered {w = w} (opens n v p h ra b u f) o = record {
  apart = λ i j c d g k e. elim (get-push w.calls (starts n v p h) c i g) [
    | inl y ↦ elim (get-push w.calls (starts n v p h) d j k) [ inl z ↦ y.0 ∙ sym z.0 | inr z ↦ absurd (unused_at n w.calls j d u z (sym e ∙ ap (λ (z : Call). z.number) y.1)) ]
    | inr y ↦ elim (get-push w.calls (starts n v p h) d j k) [ inl z ↦ absurd (unused_at n w.calls i c u y (e ∙ ap (λ (z : Call). z.number) z.1)) | inr z ↦ o.apart i j c d y z e ]
  ];
}
keeps_numbered {w = w} (takes i c p a s list t o g e row nu) k = record {
  apart = λ j m d f x y q. elim (get-set w.calls i j c (left c s list) d g x) [
    | inl l ↦ elim (get-set w.calls i m c (left c s list) f g y) [ inl b ↦ l.0 ∙ sym b.0 | inr b ↦ l.0 ∙ k.apart i m c f g b.1 (sym (ap (λ (z : Call). z.number) l.1) ∙ q) ]
    | inr l ↦ elim (get-set w.calls i m c (left c s list) f g y) [ inl b ↦ k.apart j i d c l.1 g (q ∙ ap (λ (z : Call). z.number) b.1) ∙ sym b.0 | inr b ↦ k.apart j m d f l.1 b.1 q ]
  ];
}

pub numbered_empty : (first : ℕ) → Numbered (empty first)
numbered_empty first = record { apart = λ i j c d g k e. absurd (cc) }

pub unused_value_at : (v : ℕ) (cs : List Call) (i : ℕ) (c : Call) → is_used_value v cs ≡ false → slice_get cs i ≡ Some c → c.value ≡ Some v → ⊥
unused_value_at v [] i c u h e = cc
unused_value_at v (x ∷ cs) zero c u h e = let k : x ≡ c = cc in let q : x.value ≡ Some v = ap (λ (z : Call). z.value) k ∙ e in let o : (is_value v x.value ≡ false) × (is_used_value v cs ≡ false) = or_parts _ _ u in let z : is_value v (Some v) ≡ false = rw q at o.0 in let y : eqb v v ≡ true = eq-eqb v v refl in cc
unused_value_at v (x ∷ cs) (suc i) c u h e = unused_value_at v cs i c (or_parts _ _ u).1 h e

pub new_value_at : (v u : Option ℕ) (n : ℕ) (cs : List Call) (i : ℕ) (c : Call) → IsNewValue cs v → slice_get cs i ≡ Some c → v ≡ Some n → c.value ≡ Some n → ⊥
new_value_at None u n cs i c f h e k = cc
new_value_at (Some v) u n cs i c f h e k = unused_value_at v cs i c f h (k ∙ sym e)

pub keeps_valued : {w v : World} {x : Event} {a : Option Act} {r : Option Finished} → Turn w x a v r → Valued w → Valued v
keeps_valued rests o = o
keeps_valued {w = w} (opens n v p h ra b u f) o = record {
  apart = λ i j c d m g k e q. elim (get-push w.calls (starts n v p h) c i g) [
    | inl y ↦ elim (get-push w.calls (starts n v p h) d j k) [ inl z ↦ y.0 ∙ sym z.0 | inr z ↦ absurd (new_value_at v v m w.calls j d f z (sym (ap (λ (z : Call). z.value) y.1) ∙ e) q) ]
    | inr y ↦ elim (get-push w.calls (starts n v p h) d j k) [ inl z ↦ absurd (new_value_at v v m w.calls i c f y (sym (ap (λ (z : Call). z.value) z.1) ∙ q) e) | inr z ↦ o.apart i j c d m y z e q ]
  ];
}
keeps_valued {w = w} (takes i c p a s list t o g e row nu) k = record {
  apart = λ j m d f v x y q r. elim (get-set w.calls i j c (left c s list) d g x) [
    | inl l ↦ elim (get-set w.calls i m c (left c s list) f g y) [ inl b ↦ l.0 ∙ sym b.0 | inr b ↦ l.0 ∙ k.apart i m c f v g b.1 (sym (ap (λ (z : Call). z.value) l.1) ∙ q) r ]
    | inr l ↦ elim (get-set w.calls i m c (left c s list) f g y) [ inl b ↦ k.apart j i d c v l.1 g q (sym (ap (λ (z : Call). z.value) b.1) ∙ r) ∙ sym b.0 | inr b ↦ k.apart j m d f v l.1 b.1 q r ]
  ];
}

pub valued_empty : (first : ℕ) → Valued (empty first)
valued_empty first = record { apart = λ i j c d v g k e q. absurd (cc) }
