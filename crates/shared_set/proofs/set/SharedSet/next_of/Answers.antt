use Rattle.std.proofs.Common.{◌*◌, ◌∙◌, ap, sym, subst}
use mathlib.Core.List.{IsPrefix}
use base.Growing.{prefix_trans}
use Rattle.table_numbered.specs.declared.event.Numbered.{Numbered}
use Rattle.table_numbered.specs.History.{History, HasSize, IsFull}
use Rattle.table_numbered.specs.Generations.{GenerationView, IsOf}
use Rattle.shared_set.proofs.Keeping.{of_more}
use Rattle.shared_set.proofs.set.SharedSet.next_of.Goals as goal

pub learn-requires : goal.learn-requires
learn-requires g c = c.start.ensures.of.0 ∙ (ap (λ (v : GenerationView g.row.V.Denot). v.of.book) c.generation-generation.ensures ∙ sym c.requires.of.0)

pub grown-requires : goal.grown-requires
grown-requires g c = let k = c.args.entries in let n = c.learn.new.self in let e = c.learn.ensures in
    record {
      of = of_more g.L.Law.same g.L.Law.hash_of c.generation-generation.result.now.of k.book n.book k.names n.names k.log n.log e.0 e.1 e.2 e.4
          (subst (λ (v : GenerationView g.row.V.Denot). IsOf g.L.Law.same g.L.Law.hash_of v.of k.book k.names k.log) (sym c.generation-generation.ensures) c.requires.of);
    }

pub returns-in-Ok : goal.returns-in-Ok
returns-in-Ok g c = let new = c.grown.new.seen in let o = c.grown.ensures.of in let e = c.in-Ok.ensures in let is = c.generation-generation.ensures in record {
  book = o.0 ∙ ap (λ (v : GenerationView g.row.V.Denot). v.of.book) is;
  slab = e.slab ∙ ap (λ (v : GenerationView g.row.V.Denot). v.of.slab) is;
  size = e.size ∙ ap (λ (v : GenerationView g.row.V.Denot). 2 * v.of.size) is;
  begun = subst (λ (v : GenerationView g.row.V.Denot). HasSize v.of.size new.log) is o.2;
  full = subst (λ (v : GenerationView g.row.V.Denot). IsFull v.of.size new.log) is e.full;
  reached = o.3;
  since = subst (λ (v : GenerationView g.row.V.Denot). IsPrefix v.start new.log) is
      (subst (λ (l : History (Numbered g.row.V.Denot)). IsPrefix l new.log) c.start.ensures.log
      (prefix_trans c.start.result.log c.learn.new.self.log new.log c.learn.ensures.3 c.grown.ensures.longer));
  begins = e.back;
}
