use Rattle.std.proofs.Common.{◌≡◌, ◌∙◌, ap, sym}
use Rattle.table_held.proofs.Walks.{owned-give_entries, length-owned, none_later}
use Rattle.table_held.proofs.raw.into_iter.HeldRawTableIntoIterator.into_iter.Goals as goal

pub of_generations-requires : goal.of_generations-requires
of_generations-requires g c =
    let counted = length-owned _ c.self.inside.earlier.items c.self.inside.current.contents _ c.self.invariant.0 in
    let left : c.len_alone-left.result ≡ c.self.inside.current.size = c.len_alone-left.ensures.size ∙ sym (ap (λ t. t.size) c.self.view_is) in
    let none = none_later c.self.inside.earlier.items c.new.result.items c.new.ensures.items in
    record {
      current = c.self.invariant.1.1 ∙ sym c.close.ensures;
      others = rw (none, c.close.ensures) c.self.invariant.1.0;
      counted = rw none (left ∙ counted);
    }

pub returns : goal.returns
returns g c =
    let left : c.len_alone-left.result ≡ c.self.inside.current.size = c.len_alone-left.ensures.size ∙ sym (ap (λ t. t.size) c.self.view_is) in
    let given = owned-give_entries _ c.self.inside.earlier.items c.self.inside.current.contents _ (rw left at c.len_alone-left.type_inv) c.self.invariant.0 in
    let none = none_later c.self.inside.earlier.items c.new.result.items c.new.ensures.items in
    record { into_iter_gives = rw (← c.self.view_is, c.of_generations.ensures, none) given }
