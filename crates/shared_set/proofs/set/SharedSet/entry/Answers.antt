use Rattle.shared_set.proofs.Keeping.{keeps_trans}
use Rattle.shared_set.proofs.set.SharedSet.entry.Goals as goal

pub returns : goal.returns
returns g c = let old = c.handle-handle.result.history in let new = c.entry-found.new.self.history in let apart = c.apart.ensures in record {
  finds = (
    new,
    keeps_trans c.args.self.now.known old new c.handle-handle.ensures.keeps c.entry-found.ensures.known.1,
    (record { entries = apart.entries; values = apart.values; numbers = apart.numbers }, c.entry-found.ensures.finds),
  );
}
