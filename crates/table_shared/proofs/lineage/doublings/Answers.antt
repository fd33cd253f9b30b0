use Rattle.std.proofs.Common.{◌*◌, ◌^◌, ℕ, ap, ◌∙◌, sym}
use Rattle.table_shared.proofs.Doubled.{doublings_make}
use Rattle.table_shared.proofs.lineage.doublings.Goals as goal

pub returns : goal.returns
returns c less =
    let made = doublings_make c.args.small c.args.large c.ilog2-2.result c.ilog2.result c.requires.powers.0 c.requires.powers.1 c.ilog2-2.ensures.power_le c.ilog2-2.ensures.next_power_gt c.ilog2.ensures.power_le
    c.ilog2.ensures.next_power_gt less in
    made ∙ ap (λ (k : ℕ). c.args.small * 2 ^ k) (sym c.saturating_sub.ensures)
