use Rattle.shared_interner.proofs.interning.SharedInterner.text.Goals as goal

pub returns : goal.returns
returns g c = record { finds = (c.text.new.self.history, λ e there. c.text.ensures.known.1 e (c.names-names.ensures.keeps e there), c.text.ensures.finds) }
