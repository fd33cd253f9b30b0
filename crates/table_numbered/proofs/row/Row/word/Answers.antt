use Rattle.std.proofs.Common.{ℕ, ◌<◌, length, sym, ◌∙◌, ap, subst}
use Rattle.table_numbered.proofs.row.Row.word.Goals as goal

pub returns-clause-word : goal.returns-clause-word
returns-clause-word g c =
    let here : c.args.index < length c.self.inside.words.items = subst (λ (n : ℕ). c.args.index < n) (ap (λ x. x.of.size) (sym c.self.view_is)) c.requires.inside in
    let word = c.self.invariant.words c.args.index c.index.result.now here in
    (ap (λ w. w.tracked) c.index.ensures ∙ word.0.0, ap (λ w. w.book) c.index.ensures ∙ (word.0.1 ∙ ap (λ x. x.of.book) c.self.view_is))

pub returns-clause-key : goal.returns-clause-key
returns-clause-key g c =
    let here : c.args.index < length c.self.inside.words.items = subst (λ (n : ℕ). c.args.index < n) (ap (λ x. x.of.size) (sym c.self.view_is)) c.requires.inside in
    ap (λ w. w.key) c.index.ensures ∙ (c.self.invariant.words c.args.index c.index.result.now here).1
