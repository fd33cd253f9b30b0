use Rattle.std.proofs.Common.{◌≡◌, ℕ, ◌-◌, ◌<◌, ap, sym, subst, ◌∙◌, arith}
use Rattle.std.specs.Prelude.{MatchOption, IfSome}
use base.Growing.{prefix_trans}
use Rattle.table_numbered.specs.Words.{numbered}
use Rattle.table_numbered.specs.History.{Stands, IsFree}
use Rattle.table_numbered.specs.Walking.{IsOnlyAt}
use Rattle.table_numbered.specs.Generations.{GenerationView, IsOf}
use Rattle.shared_set.specs.Known.{SharedView}
use Rattle.shared_set.specs.Walks.{WalkView, walk_view, Visits}
use Rattle.shared_set.proofs.Keeping.{one_set, at_shown, at_more}
use Rattle.shared_set.proofs.Walking.{visited}
use Rattle.shared_set.proofs.iter.Iter.visit.Goals as goal

pub overflow_sub-self : goal.overflow_sub-self
overflow_sub-self g c = subst (λ (v : WalkView g.row.V.Denot). 0 < v.left) (sym c.self.view_is) c.requires.left

pub visit-requires-clause-slab : goal.visit-requires-clause-slab
visit-requires-clause-slab g c = let i = c.self.invariant in let k = c.self.inside.cursor in let s = c.self.inside.stage.now in
    ap (λ (x : SharedView). x.slab) (one_set c.set.view_is)
    ∙ (sym (at_shown g.L.Law.same g.L.Law.hash_of c.self.inside.set.now.of k.slot k.stages.book k.stages.names k.stages.log k.entries.book k.entries.names k.entries.log s i.shown i.at).0
    ∙ ap (λ (v : GenerationView g.row.V.Denot). v.of.slab) (sym c.generation-generation.ensures))

pub visit-requires-clause-of : goal.visit-requires-clause-of
visit-requires-clause-of g c = let i = c.self.invariant in let k = c.self.inside.cursor in let s = c.self.inside.stage.now in
    subst (λ (v : GenerationView g.row.V.Denot). IsOf g.L.Law.same g.L.Law.hash_of v.of k.entries.book k.entries.names k.entries.log) (sym c.generation-generation.ensures)
    (at_shown g.L.Law.same g.L.Law.hash_of c.self.inside.set.now.of k.slot k.stages.book k.stages.names k.stages.log k.entries.book k.entries.names k.entries.log s i.shown i.at).1

pub visit-requires-clause-inside : goal.visit-requires-clause-inside
visit-requires-clause-inside g c = let i = c.self.invariant in let s = c.self.inside.stage.now in let left : ℕ = c.self.inside.left in
    let some : 0 < left = subst (λ (v : WalkView g.row.V.Denot). 0 < v.left) (sym c.self.view_is) c.requires.left in
    let at : c.args.index ≡ s.of.of.size - left = c.requires.next ∙ sym (ap (λ (v : WalkView g.row.V.Denot). v.next) c.self.view_is) in
    let here : c.args.index < s.of.of.size = omega (arith, at, some, i.within) in
    subst (λ (v : GenerationView g.row.V.Denot). c.args.index < v.of.size) (sym c.generation-generation.ensures) here

pub invariant_of-self : goal.invariant_of-self
invariant_of-self g c = let i = c.self.invariant in let k = c.self.inside.cursor in let s = c.self.inside.stage.now in let n = c.visit.new.seen in record {
  at = at_more g.L.Law.same g.L.Law.hash_of c.self.inside.set.now.of k.slot k.stages.book k.stages.names k.stages.log k.entries.book k.entries.names k.entries.log n.book n.names n.log s i.shown
      (subst (λ (v : GenerationView g.row.V.Denot). IsOf g.L.Law.same g.L.Law.hash_of v.of n.book n.names n.log) c.generation-generation.ensures c.visit.ensures.of) i.at;
  shown = i.shown;
  begun = prefix_trans c.self.inside.begun.log k.entries.log n.log i.begun c.visit.ensures.longer;
  within = omega (arith, i.within);
}

pub returns : goal.returns
returns g c = let i = c.self.invariant in let k = c.self.inside.cursor in let s = c.self.inside.stage.now in let n = c.visit.new.seen in let left : ℕ = c.self.inside.left in
    let some : 0 < left = subst (λ (v : WalkView g.row.V.Denot). 0 < v.left) (sym c.self.view_is) c.requires.left in
    let at : c.args.index ≡ s.of.of.size - left = c.requires.next ∙ sym (ap (λ (v : WalkView g.row.V.Denot). v.next) c.self.view_is) in
    record {
      visits = subst (λ (v : WalkView g.row.V.Denot). Visits v c.visit.result (walk_view c.self.inside.set.now.of c.self.inside.begun.log n.log s.of.of.size (left - 1))) c.self.view_is
          (visited c.self.inside.set.now.of c.self.inside.begun.log k.entries.log n.log s.of.of.size left g.L.Law.same g.L.Law.hash_of i.begun c.visit.ensures.longer c.visit.ensures.of.3 some i.within c.visit.result
          (subst (λ (p : ℕ). MatchOption c.visit.result (IsFree n.log p) (λ e. Stands n.log p (numbered e.0 e.1.now))) at c.visit.ensures.shown)
          (subst (λ (p : ℕ). IfSome c.visit.result (λ e. IsOnlyAt n.log p e.0)) at c.visit.ensures.only));
    }
