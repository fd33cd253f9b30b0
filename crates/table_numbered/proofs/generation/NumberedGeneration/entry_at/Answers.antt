use Rattle.std.proofs.Common.{sym, ◌∙◌, subst}
use Rattle.table_slab.specs.Held.{StandsAt}
use Rattle.table_slab.specs.Slabs.{SlabView}
use Rattle.table_numbered.specs.Words.{numbered}
use Rattle.table_numbered.specs.History.{Stands}
use Rattle.table_numbered.proofs.generation.NumberedGeneration.entry_at.Goals as goal

pub get-requires : goal.get-requires
get-requires g c = subst (λ (s : SlabView). StandsAt s c.args.number c.known-standing.result) (c.requires.of.1 ∙ sym c.requires.slab) c.known-standing.ensures.of

pub returns : goal.returns
returns g c = record { stands = subst (λ (x : g.row.V.Denot). Stands c.args.seen.now.log c.args.index (numbered c.args.number x)) (sym c.get.ensures) c.known-standing.ensures.value; one = c.known-standing.ensures.one }
