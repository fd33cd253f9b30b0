use Rattle.std.proofs.Common.{◌≡◌, ◌∙◌, ◌+◌, ◌*◌, length, inl, inr, ap, arith, refl, add-one}
use Rattle.std.proofs.Math.Nat.{pow-suc}
use Rattle.table_generations.proofs.fixed.Generation.doubled.Goals as goal

pub returns-clause-power : goal.returns-clause-power
returns-clause-power g c =
    let long : c.len-capacity.result ≡ length c.self.inside.row.contents = omega arith in
    elim c.self.invariant.powered [
      | inl none ↦ absurd (c.if-capacity-eq0.false (long ∙ ap length none))
      | inr two ↦ (two.0 + 1, (let twice : c.in_ok-twice.twice ≡ length c.self.inside.row.contents * 2 = omega arith in let p = two.1 in rw (twice, add-one, pow-suc, ← p) refl))
    ]
