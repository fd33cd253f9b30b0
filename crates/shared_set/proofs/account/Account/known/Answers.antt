use Rattle.std.proofs.Common.{subst, sym}
use Rattle.std.specs.Prelude.{Contains}
use Rattle.table_numbered.specs.History.{IsEntry}
use Rattle.shared_set.specs.Accounts.{AccountView}
use Rattle.shared_set.proofs.account.Account.known.Goals as goal

pub returns-clause-entries : goal.returns-clause-entries
returns-clause-entries g c e among =
    subst (λ (a : AccountView g.row.V.Denot). IsEntry a.history e) c.self.view_is (c.self.invariant.known e (subst (λ (a : AccountView g.row.V.Denot). Contains a.placed e) (sym c.self.view_is) among))
