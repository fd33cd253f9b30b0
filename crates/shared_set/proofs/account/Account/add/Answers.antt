use Rattle.std.proofs.Common.{◌≡◌, ◌++◌, [], ◌∷◌, ℕ, List, refl, ap, sym, subst, ◌∙◌, arith}
use Rattle.table_slab.specs.Held.{AreDistinct}
use Rattle.table_slab.specs.declared.rights.Receipts.{Receipts}
use Rattle.table_numbered.specs.Words.{numbered}
use Rattle.table_numbered.specs.History.{IsEntry}
use Rattle.shared_set.specs.declared.cursor.Cursor.{Cursor}
use Rattle.shared_set.specs.Known.{SharedView, KnownView, Keeps}
use Rattle.shared_set.specs.Accounts.{AccountView}
use Rattle.shared_set.proofs.Accounting.{AreKnown, one_known, few_together, together}
use Rattle.shared_set.proofs.account.Account.add.Goals as goal

pub overflow_add-self : goal.overflow_add-self
overflow_add-self g c = let was = c.self.inside in let by = c.by.inside in let new = c.join.new.cursor in let r = c.args.receipt in let one : List (ℕ × g.row.V.Denot) = (r.number, r.value) ∷ [] in
    let theirs : Keeps by.cursor.entries.log new.entries.log = subst (λ (k : Cursor g.row.V.Denot g.row.L.Denot g.row.A.Denot). Keeps k.entries.log new.entries.log) c.again.ensures c.join.ensures.theirs in
    let there : AreKnown one by.cursor.entries.log = one_known r.number r.value by.cursor.entries.log (subst (λ (k : KnownView g.row.V.Denot). IsEntry k.history (numbered r.number r.value)) (sym c.by.view_is) c.requires.entry) in
    let all = c.with-self-inside.result.entries in
    let is : all ≡ was.receipts.entries ++ one = c.with-self-inside.ensures.entries ∙ ap (λ (rs : Receipts g.row.V.Denot). rs.entries ++ one) c.replace-receipts.ensures.value in
    let few = few_together g.L.Law.same g.L.Law.hash_of by.set.now.of was.cursor by.cursor new was.receipts.entries one all c.join.ensures.at c.join.ensures.mine theirs c.self.invariant.known there is c.apart.ensures.apart in
    omega (arith, few, c.self.invariant.counted)

pub invariant_of-self : goal.invariant_of-self
invariant_of-self g c = let was = c.self.inside in let by = c.by.inside in let new = c.join.new.cursor in let r = c.args.receipt in let one : List (ℕ × g.row.V.Denot) = (r.number, r.value) ∷ [] in
    let theirs : Keeps by.cursor.entries.log new.entries.log = subst (λ (k : Cursor g.row.V.Denot g.row.L.Denot g.row.A.Denot). Keeps k.entries.log new.entries.log) c.again.ensures c.join.ensures.theirs in
    let there : AreKnown one by.cursor.entries.log = one_known r.number r.value by.cursor.entries.log (subst (λ (k : KnownView g.row.V.Denot). IsEntry k.history (numbered r.number r.value)) (sym c.by.view_is) c.requires.entry) in
    let all = c.apart.new.self.entries in
    let is : all ≡ was.receipts.entries ++ one = ap (λ (rs : Receipts g.row.V.Denot). rs.entries) c.apart.ensures.same ∙ c.with-self-inside.ensures.entries ∙ ap (λ (rs : Receipts g.row.V.Denot). rs.entries ++ one) c.replace-receipts.ensures.value in
    let of : c.apart.new.self.slab ≡ by.set.now.of.slab = ap (λ (rs : Receipts g.row.V.Denot). rs.slab) c.apart.ensures.same ∙ c.with-self-inside.ensures.slab ∙ ap (λ (rs : Receipts g.row.V.Denot). rs.slab) c.replace-receipts.ensures.value
    ∙ c.self.invariant.of ∙ ap (λ (a : AccountView g.row.V.Denot). a.of.slab) c.self.view_is ∙ ap (λ (s : SharedView). s.slab) (sym c.requires.handle) ∙ ap (λ (k : KnownView g.row.V.Denot). k.of.slab) (sym c.by.view_is) in
    together g.L.Law.same g.L.Law.hash_of by.set.now.of was.cursor by.cursor new was.receipts.entries one all c.join.ensures.at c.join.ensures.mine theirs c.self.invariant.known there is
    (subst (λ (rs : Receipts g.row.V.Denot). AreDistinct rs.entries) (sym c.apart.ensures.same) c.apart.ensures.apart) c.apart.new.self.slab was.count 1 of c.self.invariant.counted refl

pub returns-clause-known : goal.returns-clause-known
returns-clause-known g c = subst (λ (a : AccountView g.row.V.Denot). Keeps a.history c.join.new.cursor.entries.log) c.self.view_is c.join.ensures.mine

pub returns-clause-theirs : goal.returns-clause-theirs
returns-clause-theirs g c = let new = c.join.new.cursor in
    subst (λ (k : KnownView g.row.V.Denot). Keeps k.history new.entries.log) c.by.view_is
    (subst (λ (k : Cursor g.row.V.Denot g.row.L.Denot g.row.A.Denot). Keeps k.entries.log new.entries.log) c.again.ensures c.join.ensures.theirs)
