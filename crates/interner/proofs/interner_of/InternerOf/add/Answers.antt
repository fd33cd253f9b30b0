use Rattle.std.proofs.Common.{rules, ap}
use Rattle.std.specs.Int.NonZero.{non_zero_u32_get}
use Rattle.std.proofs.lemmas.List.{map_push}
use Rattle.interner.proofs.Held.{never_found, kept_refused, kept_placed}
use Rattle.interner.proofs.interner_of.InternerOf.add.Goals as goal

pub unreachable-requires : goal.unreachable-requires
unreachable-requires g c = never_found (λ v. v.0) (λ n. g.S.AsStr.text n.text.value) (λ n. non_zero_u32_get n.number) g.H.TextHash.hash_of
    _ _ _ _ c.place_alone.new.self _ _ _
    c.self.invariant (λ a b answer s. search rules) (λ a h s. search rules) c.requires.hash
    (ap g.S.AsStr.text c.of.ensures) (rw c.self.view_is c.requires.next) (rw c.self.view_is c.requires.new)
    c.in-Ok-default-Some.field-0-0 c.in-Ok-default-Some.field-0-1-0 (rw c.in-Ok-default-Some.field-0-1-is at c.in-Ok-default-Some.ensures.as_list)

pub invariant_of-self-in-Err : goal.invariant_of-self-in-Err
invariant_of-self-in-Err g c = rw c.reserve.ensures.items (kept_refused (λ v. v.0) (λ n. g.S.AsStr.text n.text.value) (λ n. non_zero_u32_get n.number) g.H.TextHash.hash_of
    _ _ _ _ c.place_alone.new.self _ _ _
    c.self.invariant (λ a b answer s. search rules) (λ a h s. search rules) c.requires.hash
    (ap g.S.AsStr.text c.of.ensures) (rw c.self.view_is c.requires.next) (rw c.self.view_is c.requires.new)
    c.in-Err.field-0 c.in-Err.ensures.as_list c.in-Err.ensures.lawful)

pub invariant_of-self-2 : goal.invariant_of-self-2
invariant_of-self-2 g c = rw (c.in-Ok.ensures.items, c.reserve.ensures.items, map_push) (kept_placed (λ v. v.0) (λ n. g.S.AsStr.text n.text.value) (λ n. non_zero_u32_get n.number) g.H.TextHash.hash_of
    _ _ _ _ c.place_alone.new.self _ _ _
    c.self.invariant (λ a b answer s. search rules) (λ a h s. search rules) c.requires.hash
    (ap g.S.AsStr.text c.of.ensures) (rw c.self.view_is c.requires.next) (rw c.self.view_is c.requires.new)
    c.in-Ok-default-None.field-0-0 (rw c.self.view_is c.requires.few)
    (rw c.in-Ok-default-None.field-0-1-is at c.in-Ok-default-None.ensures.as_list)
    (rw c.in-Ok-default-None.field-0-1-is at c.in-Ok-default-None.ensures.lawful))
