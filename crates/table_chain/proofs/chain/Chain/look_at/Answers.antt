use Rattle.std.proofs.Common.{ℕ, ◌<◌, length, sym, ◌∙◌, ap, subst}
use Rattle.table_chain.specs.History.{Told}
use Rattle.table_chain.proofs.chain.Chain.look_at.Goals as goal

pub returns-clause-told : goal.returns-clause-told
returns-clause-told g c =
    let here : c.args.slot < length c.self.inside.words.items = subst (λ (n : ℕ). c.args.slot < n) (ap (λ x. x.slots) (sym c.self.view_is)) c.requires.inside in
    let word = c.self.invariant.0.words c.args.slot c.index.result.now here in
    subst (λ (p : ℕ). Told g.F.Follows.begins g.F.Follows.follows p c.look.result c.look.new.seen.log) (ap (λ w. w.key) c.index.ensures ∙ word.1) c.look.ensures.told
