use Rattle.std.proofs.Common.{sym, ◌<◌, length, subst, List, refl}
use Rattle.table_core.specs.Calls.{Call}
use Rattle.table_core.proofs.CodeCalls.{call_within, indexed_list}
use Rattle.table_core.proofs.calls.Calls.take_list.Goals as goal

pub invariant_of-self : goal.invariant_of-self
invariant_of-self g c =
    let lt : c.args.at < length c.self.inside.all.items = subst (λ (cs : List Call). c.args.at < length cs) (sym c.self.view_is) c.requires in
    let g = call_within c.self.inside.all.items c.args.at lt in
    rw (c.take_list_at.ensures.left g.0 g.1)
    (indexed_list c.self.inside.all.items c.self.inside.positions c.self.inside.values c.self.inside.sharing c.self.inside.owning c.args.at g.0 _ c.self.invariant g.1 refl refl refl)
