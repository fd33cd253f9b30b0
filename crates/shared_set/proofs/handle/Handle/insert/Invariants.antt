use Rattle.std.specs.Prelude.{◌≡◌, ◌⊎◌}
use Rattle.table_numbered.specs.Words.{of_value}
use Rattle.table_numbered.specs.History.{IsEntry, NonePasses}
use Rattle.shared_set.specs.Known.{KnowsMore}
use Rattle.shared_set.specs.Inserting.{HasNoBucket}
use Rattle.shared_set.proofs.handle.Handle.insert.Given as goal

abbrev pub invariant-loop-tried : goal.invariant-loop-tried
invariant-loop-tried g l = record {
  known : KnowsMore l.fn.self l.self;
  value : l.value ≡ l.fn.value;
  full : (l._tried ≡ 0) ⊎ (NonePasses (of_value (g.L.Law.same l.fn.value)) (IsEntry l.self.history)
      × HasNoBucket g.L.Law.same g.L.Law.hash_of l.fn.value l.self.history);
}
