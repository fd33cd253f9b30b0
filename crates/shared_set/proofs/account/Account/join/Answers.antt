use Rattle.std.proofs.Common.{◌≡◌, ◌++◌, ap, sym, subst, ◌∙◌, arith}
use Rattle.table_slab.specs.Held.{AreDistinct}
use Rattle.table_slab.specs.declared.rights.Receipts.{Receipts}
use Rattle.shared_set.specs.Known.{SharedView, Keeps}
use Rattle.shared_set.specs.Accounts.{AccountView}
use Rattle.shared_set.proofs.Accounting.{few_together, together}
use Rattle.shared_set.proofs.account.Account.join.Goals as goal

pub overflow_add-self : goal.overflow_add-self
overflow_add-self g c = let was = c.self.inside in let other = c.other.inside in let all = c.join-self-inside.result.entries in
    let is : all ≡ was.receipts.entries ++ other.receipts.entries = c.join-self-inside.ensures.entries ∙ ap (λ (rs : Receipts g.row.V.Denot). rs.entries ++ other.receipts.entries) c.replace-receipts.ensures.value in
    let few = few_together g.L.Law.same g.L.Law.hash_of c.args.set.now.of was.cursor other.cursor c.join.new.cursor was.receipts.entries other.receipts.entries all c.join.ensures.at c.join.ensures.mine c.join.ensures.theirs
    c.self.invariant.known c.other.invariant.known is c.apart.ensures.apart in
    omega (arith, few, c.self.invariant.counted, c.other.invariant.counted)

pub invariant_of-self : goal.invariant_of-self
invariant_of-self g c = let was = c.self.inside in let other = c.other.inside in let all = c.apart.new.self.entries in
    let is : all ≡ was.receipts.entries ++ other.receipts.entries = ap (λ (rs : Receipts g.row.V.Denot). rs.entries) c.apart.ensures.same ∙ c.join-self-inside.ensures.entries
    ∙ ap (λ (rs : Receipts g.row.V.Denot). rs.entries ++ other.receipts.entries) c.replace-receipts.ensures.value in
    let of : c.apart.new.self.slab ≡ c.args.set.now.of.slab = ap (λ (rs : Receipts g.row.V.Denot). rs.slab) c.apart.ensures.same ∙ c.join-self-inside.ensures.slab ∙ ap (λ (rs : Receipts g.row.V.Denot). rs.slab) c.replace-receipts.ensures.value
    ∙ c.self.invariant.of ∙ ap (λ (a : AccountView g.row.V.Denot). a.of.slab) c.self.view_is ∙ ap (λ (s : SharedView). s.slab) c.requires.mine in
    together g.L.Law.same g.L.Law.hash_of c.args.set.now.of was.cursor other.cursor c.join.new.cursor was.receipts.entries other.receipts.entries all c.join.ensures.at c.join.ensures.mine c.join.ensures.theirs
    c.self.invariant.known c.other.invariant.known is (subst (λ (rs : Receipts g.row.V.Denot). AreDistinct rs.entries) (sym c.apart.ensures.same) c.apart.ensures.apart)
    c.apart.new.self.slab was.count other.count of c.self.invariant.counted c.other.invariant.counted

pub returns-clause-known : goal.returns-clause-known
returns-clause-known g c = subst (λ (a : AccountView g.row.V.Denot). Keeps a.history c.join.new.cursor.entries.log) c.self.view_is c.join.ensures.mine

pub returns-clause-theirs : goal.returns-clause-theirs
returns-clause-theirs g c = subst (λ (a : AccountView g.row.V.Denot). Keeps a.history c.join.new.cursor.entries.log) c.other.view_is c.join.ensures.theirs
