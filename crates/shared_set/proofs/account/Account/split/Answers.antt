use Rattle.std.proofs.Common.{subst, sym}
use Rattle.shared_set.specs.declared.cursor.Cursor.{Cursor}
use Rattle.shared_set.specs.Accounts.{IsAccount}
use Rattle.shared_set.proofs.Accounting.{first_part, other_part}
use Rattle.shared_set.proofs.account.Account.split.Goals as goal

pub invariant_of-result : goal.invariant_of-result
invariant_of-result g c = let a = c.self.inside in let parts = c.split-first in
    subst (λ (k : Cursor g.row.V.Denot g.row.L.Denot g.row.A.Denot). IsAccount g.L.Law.same g.L.Law.hash_of k parts.result.0.slab parts.result.0.entries c.args.count) (sym c.again.ensures)
    (first_part g.L.Law.same g.L.Law.hash_of a.cursor a.receipts.slab parts.result.0.slab parts.result.0.entries parts.result.1.entries a.receipts.entries a.count c.args.count c.self.invariant parts.ensures.entries parts.ensures.slab.0 parts.ensures.count)

pub invariant_of-result-2 : goal.invariant_of-result-2
invariant_of-result-2 g c = let a = c.self.inside in let parts = c.split-first in
    other_part g.L.Law.same g.L.Law.hash_of a.cursor a.receipts.slab parts.result.1.slab parts.result.0.entries parts.result.1.entries a.receipts.entries a.count c.args.count c.self.invariant parts.ensures.entries parts.ensures.slab.1 parts.ensures.count
