use Rattle.std.proofs.Common.{sym, subst}
use Rattle.shared_set.specs.Known.{Keeps}
use Rattle.shared_set.specs.Stages.{StageView, GrowsInto, stage_view}
use Rattle.shared_set.proofs.Keeping.{keeps_over}
use Rattle.shared_set.proofs.stage.Stage.carry_over.Goals as goal

pub returns-clause-keeps : goal.returns-clause-keeps
returns-clause-keeps g c = let r = c.requires in let l = c.learn.ensures in
    let t : StageView g.row.V.Denot = stage_view c.self.inside.generation c.self.inside.before.book c.self.inside.before.log in
    subst (Keeps c.args.entries.now.log) (sym c.start.ensures.log)
    (keeps_over g.L.Law.same g.L.Law.hash_of r.0 t c.args.entries.now.log c.learn.new.self.log (subst (GrowsInto g.L.Law.same g.L.Law.hash_of r.0) (sym c.self.view_is) r.1) l.2 l.3 l.4)
