use Rattle.std.proofs.Common.{sym}
use Rattle.table_chain.proofs.Chained as chained
use Rattle.shared_set.specs.Stages.{Begins, GrowsInto}
use Rattle.shared_set.proofs.Keeping.{keeps_trans, keeps_longer, seen_on, at_longer, at_more_of, one_generation}
use Rattle.shared_set.proofs.Moving.{same_slot}
use Rattle.shared_set.proofs.set.SharedSet.join.Goals as goal

pub go_to-requires-clause-at : goal.go_to-requires-clause-at
go_to-requires-clause-at g c = let k = c.args.cursor.now in let new = c.learn.new.self in let e = c.learn.ensures in
    at_longer g.L.Law.same g.L.Law.hash_of c.args.self.now.of k.slot k.stages.book k.stages.names k.stages.log k.entries.book k.entries.names k.entries.log new.book new.names new.log
    (seen_on g.L.Law.same g.L.Law.hash_of c.args.self.now.of k.stages.book new.book k.stages.names new.names k.stages.log new.log e.0 e.1 e.2 e.4 c.requires.mine.seen) e.2 c.requires.mine

pub go_to-requires-clause-shown : goal.go_to-requires-clause-shown
go_to-requires-clause-shown g c = let at = c.requires.theirs in
    (at.stage, chained.stands_on (Begins g.L.Law.same g.L.Law.hash_of) (GrowsInto g.L.Law.same g.L.Law.hash_of) c.args.theirs.stages.log c.learn.new.self.log c.args.theirs.slot at.stage c.learn.ensures.3 at.shown)

pub go_to-requires-2-clause-at : goal.go_to-requires-2-clause-at
go_to-requires-2-clause-at g c = let k = c.args.theirs in let new = c.learn-2.new.self in let e = c.learn-2.ensures in
    at_longer g.L.Law.same g.L.Law.hash_of c.args.self.now.of k.slot k.stages.book k.stages.names k.stages.log k.entries.book k.entries.names k.entries.log new.book new.names new.log
    (seen_on g.L.Law.same g.L.Law.hash_of c.args.self.now.of k.stages.book new.book k.stages.names new.names k.stages.log new.log e.0 e.1 e.2 e.4 c.requires.theirs.seen) e.2 c.requires.theirs

pub go_to-requires-2-clause-shown : goal.go_to-requires-2-clause-shown
go_to-requires-2-clause-shown g c = let at = c.go_to.ensures.at in
    (at.stage, chained.stands_on (Begins g.L.Law.same g.L.Law.hash_of) (GrowsInto g.L.Law.same g.L.Law.hash_of) c.go_to.new.cursor.stages.log c.learn-2.new.self.log c.go_to.new.cursor.slot at.stage c.learn-2.ensures.3 at.shown)

pub learn-requires-4 : goal.learn-requires-4
learn-requires-4 g c = let k = c.go_to.new.cursor in let t = c.go_to-2.new.cursor in let new = c.learn-3.new.self in let e = c.learn-3.ensures in
    let seen = seen_on g.L.Law.same g.L.Law.hash_of c.args.self.now.of k.stages.book new.book k.stages.names new.names k.stages.log new.log e.0 e.1 e.2 e.4 c.go_to.ensures.at.seen in
    one_generation g.L.Law.same g.L.Law.hash_of c.args.self.now.of t.slot new.book new.names new.log t.entries.book t.entries.names t.entries.log k.slot k.entries.book k.entries.names k.entries.log
    (sym (same_slot c.args.cursor.now.slot c.args.theirs.slot k.slot t.slot c.go_to.ensures.there c.go_to-2.ensures.there))
    (at_longer g.L.Law.same g.L.Law.hash_of c.args.self.now.of t.slot t.stages.book t.stages.names t.stages.log t.entries.book t.entries.names t.entries.log new.book new.names new.log seen e.3 c.go_to-2.ensures.at)
    (at_longer g.L.Law.same g.L.Law.hash_of c.args.self.now.of k.slot k.stages.book k.stages.names k.stages.log k.entries.book k.entries.names k.entries.log new.book new.names new.log seen e.2 c.go_to.ensures.at)

pub returns-clause-at : goal.returns-clause-at
returns-clause-at g c = let k = c.go_to.new.cursor in let new = c.learn-3.new.self in let e = c.learn-3.ensures in let n = c.learn-4.new.self in let m = c.learn-4.ensures in
    let seen = seen_on g.L.Law.same g.L.Law.hash_of c.args.self.now.of k.stages.book new.book k.stages.names new.names k.stages.log new.log e.0 e.1 e.2 e.4 c.go_to.ensures.at.seen in
    at_more_of g.L.Law.same g.L.Law.hash_of c.args.self.now.of k.slot new.book new.names new.log k.entries.book k.entries.names k.entries.log n.book n.names n.log m.0 m.1 m.2 m.4
    (at_longer g.L.Law.same g.L.Law.hash_of c.args.self.now.of k.slot k.stages.book k.stages.names k.stages.log k.entries.book k.entries.names k.entries.log new.book new.names new.log seen e.2 c.go_to.ensures.at)

pub returns-clause-mine : goal.returns-clause-mine
returns-clause-mine g c = keeps_trans c.args.cursor.now.entries.log c.go_to.new.cursor.entries.log c.learn-4.new.self.log c.go_to.ensures.keeps (keeps_longer c.go_to.new.cursor.entries.log c.learn-4.new.self.log c.learn-4.ensures.2)

pub returns-clause-theirs : goal.returns-clause-theirs
returns-clause-theirs g c = keeps_trans c.args.theirs.entries.log c.go_to-2.new.cursor.entries.log c.learn-4.new.self.log c.go_to-2.ensures.keeps (keeps_longer c.go_to-2.new.cursor.entries.log c.learn-4.new.self.log c.learn-4.ensures.3)
