use Rattle.std.proofs.Common.{◌≡◌, ◌+◌, ◌∙◌, ap, refl, subst, length, arith, rules}
use Rattle.std.proofs.lemmas.Bool.{false≢true}
use Rattle.table_shared.specs.Lineages.{IsNumber, shown_in}
use Rattle.table_shared.proofs.Numbered.{of_first, of_last}
use Rattle.table_shared.proofs.lineage.Lineage.number_of.Goals.{then-has_buckets, else-has_buckets}
use Rattle.table_shared.proofs.lineage.Lineage.number_of.Goals as goal

pub returns : goal.returns
returns g c =
    let first = c.args.first_capacity in let es = c.self.inside.earlier.items in let base = c.self.inside.base in let n = c.args.capacity in let k = c.doublings.result in
    let known = c.if-has_buckets.known in let number = known.1 + c.from.result in subst (λ l. IsNumber first l.shared n number) c.self.view_is (
    elim c.if-has_buckets.branch as (λ _. IsNumber first (shown_in es base) n number) [
      | then-has_buckets w ↦
          let wide : known.0 ≡ length base.contents = ap (λ p. p.0) w.known-is ∙ w.capacity.ensures in
          let before : known.1 ≡ length es = ap (λ p. p.1) w.known-is ∙ w.len.ensures ∙ search rules in
          of_last es base first n k number (w.if-has_buckets.ensures.some.0 refl) (λ less. c.doublings.ensures (omega (arith, less, wide)) ∙ rw wide refl) (rw (before, c.from.ensures) refl)
      | else-has_buckets w ↦
          let wide : known.0 ≡ first = ap (λ p. p.0) w.known-is in
          let before : known.1 ≡ 0 = ap (λ p. p.1) w.known-is in
          of_first es base first n k number (λ full. false≢true (w.if-has_buckets.ensures.some.1 full)) (λ less. c.doublings.ensures (omega (arith, less, wide)) ∙ rw wide refl)
          (omega (arith, before, c.from.ensures))
    ])
