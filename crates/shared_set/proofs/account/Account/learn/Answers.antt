use Rattle.std.proofs.Common.{ap, sym, subst, ◌∙◌}
use Rattle.shared_set.specs.declared.cursor.Cursor.{Cursor}
use Rattle.shared_set.specs.Accounts.{AccountView}
use Rattle.shared_set.specs.Known.{KnownView, Keeps}
use Rattle.shared_set.proofs.Accounting.{learned}
use Rattle.shared_set.proofs.account.Account.learn.Goals as goal

pub invariant_of-self : goal.invariant_of-self
invariant_of-self g c = let was = c.self.inside in
    learned g.L.Law.same g.L.Law.hash_of c.by.inside.set.now.of was.cursor c.join.new.cursor was.receipts.slab was.receipts.entries was.count c.self.invariant
    (ap (λ (a : AccountView g.row.V.Denot). a.of) c.self.view_is ∙ sym c.requires ∙ ap (λ (k : KnownView g.row.V.Denot). k.of) (sym c.by.view_is)) c.join.ensures.at c.join.ensures.mine

pub returns-clause-known : goal.returns-clause-known
returns-clause-known g c = subst (λ (a : AccountView g.row.V.Denot). Keeps a.history c.join.new.cursor.entries.log) c.self.view_is c.join.ensures.mine

pub returns-clause-theirs : goal.returns-clause-theirs
returns-clause-theirs g c = let new = c.join.new.cursor in
    subst (λ (k : KnownView g.row.V.Denot). Keeps k.history new.entries.log) c.by.view_is
    (subst (λ (k : Cursor g.row.V.Denot g.row.L.Denot g.row.A.Denot). Keeps k.entries.log new.entries.log) c.again.ensures c.join.ensures.theirs)
