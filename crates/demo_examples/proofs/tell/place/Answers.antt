use Rattle.std.proofs.Common.{ℕ, subst, sym}
use Rattle.table_terms.specs.Laws.{same_number}
use Rattle.table_numbered.specs.History.{IsEntry}
use Rattle.shared_set.specs.Known.{KnownView, SomePasses}
use Rattle.demo_examples.proofs.Told.{has_kept}
use Rattle.demo_examples.proofs.tell.place.Goals as goal

pub returns-clause-there : goal.returns-clause-there
returns-clause-there g c = let mine = c.put_below.new.mine in
    subst (λ (k : KnownView ℕ). SomePasses (same_number c.args.number) (IsEntry k.history)) (sym c.tell.ensures)
    (has_kept same_number c.put.new.mine.history mine.history c.args.number c.put_below.ensures.more.1 c.in_ok-put.ensures.there)
