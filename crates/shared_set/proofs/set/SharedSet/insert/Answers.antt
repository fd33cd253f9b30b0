use Rattle.std.proofs.Common.{refl, subst, ◌∙◌}
use Rattle.shared_set.specs.Known.{SharedView}
use Rattle.shared_set.specs.Inserting.{HasReceipt}
use Rattle.shared_set.proofs.Keeping.{keeps_trans}
use Rattle.shared_set.proofs.Placing.{inserts_after}
use Rattle.shared_set.proofs.set.SharedSet.insert.Goals as goal

pub returns : goal.returns
returns g c = let known = c.args.self.now.known in let old = c.handle-handle.result.history in let new = c.insert-inserted.new.self.history in let apart = c.apart.ensures in record {
  told = (
    new,
    keeps_trans known old new c.handle-handle.ensures.keeps c.insert-inserted.ensures.known.1,
    (
      record { entries = apart.entries; values = apart.values; numbers = apart.numbers },
      inserts_after g.L.Law.same g.L.Law.hash_of c.insert-inserted.result c.args.value c.args.value known old new refl c.handle-handle.ensures.keeps c.insert-inserted.ensures.told,
    ),
  );
  receipt = subst (λ (x : SharedView). HasReceipt x c.insert-inserted.result) (c.insert-inserted.ensures.known.0 ∙ c.handle-handle.ensures.of) c.insert-inserted.ensures.receipt;
}
