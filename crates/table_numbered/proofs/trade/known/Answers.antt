use Rattle.std.proofs.Common.{subst}
use Rattle.table_numbered.specs.Words.{numbered}
use Rattle.table_numbered.specs.History.{Stands}
use Rattle.table_numbered.proofs.trade.known.Goals as goal

pub known_by-requires : goal.known_by-requires
known_by-requires g c = record { there = (c.args._place, c.requires.there.0, c.requires.there.1) }

pub returns : goal.returns
returns g c = let e = c.known_by.ensures in record {
  of = e.of;
  value = subst (λ (x : g.row.V.Denot). Stands c.args.seen.now.log c.args._place (numbered c.args.number x)) (e.one c.args._place e.value.0 c.args.number c.requires.there.0 c.known_by.result.written.value c.requires.there.1 e.value.1) c.requires.there.1;
  one = e.one;
}
