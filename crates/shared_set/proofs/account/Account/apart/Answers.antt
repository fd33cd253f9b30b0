use Rattle.std.proofs.Common.{subst}
use Rattle.shared_set.specs.Accounts.{AccountView, DifferByNumber}
use Rattle.shared_set.proofs.Accounting.{differ_by_number}
use Rattle.shared_set.proofs.account.Account.apart.Goals as goal

pub returns-clause-apart : goal.returns-clause-apart
returns-clause-apart g c = subst (λ (a : AccountView g.row.V.Denot). DifferByNumber a.placed) c.self.view_is (differ_by_number c.self.inside.receipts.entries c.apart.ensures.apart)
