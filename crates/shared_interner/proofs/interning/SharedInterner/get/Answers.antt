use Rattle.shared_interner.proofs.interning.SharedInterner.get.Goals as goal

pub returns : goal.returns
returns g c = record { finds = (c.get.new.self.history, λ e there. c.get.ensures.known.1 e (c.names-names.ensures.keeps e there), c.get.ensures.finds) }
