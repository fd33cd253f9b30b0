use Rattle.std.proofs.Common.{◌≡◌, ap, ◌∙◌, arith}
use Rattle.table_numbered.specs.Generations.{GenerationView}
use Rattle.shared_set.specs.Known.{KnownView}
use Rattle.shared_set.specs.Walks.{walk_view}
use Rattle.shared_set.proofs.Walking.{never_twice, gives_all, gives_entries}
use Rattle.shared_set.proofs.handle.Handle.iter.Goals as goal

pub returns-clause-apart : goal.returns-clause-apart
returns-clause-apart g c = never_twice (walk_view c.self.inside.set.now.of c.again-2.result.log c.again.result.entries.log c.self.inside.stage.now.of.of.size c.buckets.result)

pub returns-clause-entries : goal.returns-clause-entries
returns-clause-entries g c = gives_entries (walk_view c.self.inside.set.now.of c.again-2.result.log c.again.result.entries.log c.self.inside.stage.now.of.of.size c.buckets.result)

pub returns-clause-all : goal.returns-clause-all
returns-clause-all g c =
    let size : c.buckets.result ≡ c.self.inside.stage.now.of.of.size = c.buckets.ensures.size ∙ ap (λ (v : GenerationView g.row.V.Denot). v.of.size) c.generation.ensures in
    gives_all c.advance.new.self (walk_view c.self.inside.set.now.of c.again-2.result.log c.again.result.entries.log c.self.inside.stage.now.of.of.size c.buckets.result) (record {
      of = ap (λ (v : KnownView g.row.V.Denot). v.of) c.self.view_is;
      begun = ap (λ x. x.log) c.again-2.ensures ∙ ap (λ (v : KnownView g.row.V.Denot). v.history) c.self.view_is;
      history = ap (λ x. x.entries.log) c.again.ensures ∙ ap (λ (v : KnownView g.row.V.Denot). v.history) c.self.view_is;
      next = omega (arith, size);
    })
