use Rattle.std.proofs.Common.{◌∷◌, refl}
use Rattle.std.specs.Vec.Iter.{into_iter_items}
use Rattle.std.proofs.lemmas.List.Elements.{All-head, All-tail}
use Rattle.table_cell.specs.Rows.{AreMarked, WordLies}
use Rattle.table_cell.proofs.row.Buckets.next_bucket.Goals as goal

pub invariant_of-self-2 : goal.invariant_of-self-2
invariant_of-self-2 g c =
    let marked : AreMarked (c.in_ok-mark.mark ∷ into_iter_items c.next.new.self) (c.in_ok-word.word ∷ into_iter_items c.next-2.new.self) = rw (c.in_ok-mark.ensures.items, c.in_ok-word.ensures.items) at c.self.invariant.marked in
    record {
      marked = marked.1;
      lies = All-tail (WordLies c.self.inside.origin.home c.self.inside.alloc) _ _ (rw c.in_ok-word.ensures.items at c.self.invariant.lies);
    }

pub returns : goal.returns
returns g c =
    let lies = All-head (WordLies c.self.inside.origin.home c.self.inside.alloc) _ _ (rw c.in_ok-word.ensures.items at c.self.invariant.lies) in
    rw (← c.self.view_is, c.in_ok-mark.ensures.items, c.in_ok-word.ensures.items) (refl, refl, lies.0, lies.1, (refl, refl))
