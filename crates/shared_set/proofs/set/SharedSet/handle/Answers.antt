use Rattle.shared_set.proofs.set.SharedSet.handle.Goals as goal

pub invariant_of-result : goal.invariant_of-result
invariant_of-result g c = record { at = c.cursor-cursor.ensures.at; shown = c.get.ensures.there; supply = c.new.ensures c.args.self.now.of.slab }
