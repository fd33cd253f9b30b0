use Rattle.table_shared.proofs.Words.{word_for}
use Rattle.table_shared.proofs.lineage.Lineage.slot.Goals as goal

pub returns-in-Some-slot-clause-word : goal.returns-in-Some-slot-clause-word
returns-in-Some-slot-clause-word g c =
    rw c.in_ok-later.ensures.known.1 (word_for c.in_ok-later.later.now.words.items c.in-Some.place c.in-Some-slot.slot c.args.self.now.shared c.args.number c.in-Some.ensures c.in-Some-slot.ensures.within c.in-Some-slot.ensures.there)
