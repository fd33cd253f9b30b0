use Rattle.std.proofs.Common.{◌∙◌, ap}
use Rattle.std.specs.Option.{option_map}
use Rattle.table_core.specs.Generations.{Gen, bucket}
use Rattle.table_core.specs.Bound.{entry_of}
use Rattle.table_core.proofs.CodeEntries.{lookup_bucket}
use Rattle.table_core.proofs.generation.MachineGeneration.at.Goals as goal

pub returns-in-Some : goal.returns-in-Some
returns-in-Some g c =
    ap (option_map (λ s. entry_of (c.args.index, s))) c.in-Some.ensures.value ∙
    lookup_bucket c.args.index c.self.inside.slots.entries ∙
    ap (λ (g : Gen). bucket g.entries c.args.index) c.self.view_is

pub returns-in-None : goal.returns-in-None
returns-in-None g c =
    ap (option_map (λ s. entry_of (c.args.index, s))) c.in-None.ensures.value ∙
    lookup_bucket c.args.index c.self.inside.slots.entries ∙
    ap (λ (g : Gen). bucket g.entries c.args.index) c.self.view_is
