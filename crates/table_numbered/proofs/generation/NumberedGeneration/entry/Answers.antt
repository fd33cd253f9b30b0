use Rattle.std.proofs.Common.{sym, ◌∙◌, subst}
use Rattle.table_slab.specs.Held.{StandsAt}
use Rattle.table_slab.specs.Slabs.{SlabView}
use Rattle.table_numbered.specs.Words.{numbered}
use Rattle.table_numbered.specs.History.{IsEntry}
use Rattle.table_numbered.proofs.generation.NumberedGeneration.entry.Goals as goal

pub known_by-standing-requires : goal.known_by-standing-requires
known_by-standing-requires g c = let x = c.requires.there in record { there = (x.1.0, x.0, x.1.1) }

pub get-requires : goal.get-requires
get-requires g c = subst (λ (s : SlabView). StandsAt s c.args.number c.known_by-standing.result) (c.requires.of.1 ∙ sym c.requires.slab) c.known_by-standing.ensures.of

pub returns : goal.returns
returns g c = let e = c.known_by-standing.ensures in record {
  is = subst (λ (x : g.row.V.Denot). IsEntry c.args.seen.now.log (numbered c.args.number x)) (sym c.get.ensures) e.value;
  one = λ x at. c.get.ensures ∙ e.one e.value.0 at.0 c.args.number c.known_by-standing.result.written.value x e.value.1 at.1;
}
