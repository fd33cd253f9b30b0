use Rattle.std.proofs.Common.{ℕ, sym, subst, arith}
use Rattle.shared_set.specs.Known.{IsCursor}
use Rattle.shared_set.specs.declared.cursor.Cursor.{Cursor}
use Rattle.shared_set.proofs.Courses.{below}
use Rattle.shared_set.proofs.Keeping.{at_longer}
use Rattle.shared_set.proofs.set.SharedSet.brought_on.Goals as goal

pub newest_told-slot-requires-clause-first : goal.newest_told-slot-requires-clause-first
newest_told-slot-requires-clause-first g c =
    let at : IsCursor g.L.Law.same g.L.Law.hash_of c.args.self.now.of c.again-cursor.result = subst (λ (k : Cursor g.row.V.Denot g.row.L.Denot g.row.A.Denot). IsCursor g.L.Law.same g.L.Law.hash_of c.args.self.now.of k) (sym c.again-cursor.ensures) c.requires.at in
    below g.L.Law.same g.L.Law.hash_of c.again-cursor.result.slot 0 at.stage c.again-cursor.result.stages.log at.seen.reached (omega arith) at.shown

pub go_to-requires-clause-at : goal.go_to-requires-clause-at
go_to-requires-clause-at g c = let k = c.again-cursor.result in let new = c.newest_told-slot.new.seen in
    let at : IsCursor g.L.Law.same g.L.Law.hash_of c.args.self.now.of k = subst (λ (x : Cursor g.row.V.Denot g.row.L.Denot g.row.A.Denot). IsCursor g.L.Law.same g.L.Law.hash_of c.args.self.now.of x) (sym c.again-cursor.ensures) c.requires.at in
    at_longer g.L.Law.same g.L.Law.hash_of c.args.self.now.of k.slot k.stages.book k.stages.names k.stages.log k.entries.book k.entries.names k.entries.log new.book new.names new.log c.newest_told-slot.ensures.seen c.newest_told-slot.ensures.longer at
