use Rattle.shared_set.proofs.Keeping.{keeps_trans}
use Rattle.shared_set.proofs.set.SharedSet.get_by_key.Goals as goal

pub returns : goal.returns
returns g c = let old = c.handle-handle.result.history in let new = c.get_by_key-found.new.self.history in let apart = c.apart.ensures in record {
  finds = (
    new,
    keeps_trans c.args.self.now.known old new c.handle-handle.ensures.keeps c.get_by_key-found.ensures.known.1,
    (record { entries = apart.entries; values = apart.values; numbers = apart.numbers }, c.get_by_key-found.ensures.finds),
  );
}
