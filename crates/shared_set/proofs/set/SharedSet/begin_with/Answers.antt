use Rattle.std.proofs.Common.{◌∙◌, ap, sym, subst}
use Rattle.shared_set.specs.Known.{SharedView, KnownView, IsCursor}
use Rattle.shared_set.proofs.Keeping.{one_set}
use Rattle.shared_set.proofs.set.SharedSet.begin_with.Goals as goal

pub invariant_of-self : goal.invariant_of-self
invariant_of-self g c = let was = c.self.invariant in record {
  chain = was.chain;
  with = was.with;
  known = subst (λ (s : SharedView). IsCursor g.L.Law.same g.L.Law.hash_of s c.known.inside.cursor)
      (ap (λ (k : KnownView g.row.V.Denot). k.of) c.known.view_is ∙ (c.requires.of ∙ sym (one_set c.self.view_is))) c.known.invariant;
}
