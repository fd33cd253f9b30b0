use Rattle.std.proofs.Common.{List, ℕ, sym, subst}
use Rattle.table_numbered.specs.Words.{numbered}
use Rattle.table_numbered.specs.History.{IsEntry}
use Rattle.shared_set.specs.Known.{KnownView}
use Rattle.shared_interner.proofs.iter.Iter.symbol.Goals as goal

pub of_number-requires : goal.of_number-requires
of_number-requires g c = let known = c.requires.known in
    c.apart.ensures.numbers (numbered c.args.number known.0) (subst (λ (v : KnownView (List ℕ)). IsEntry v.history (numbered c.args.number known.0)) (sym c.tell-known.ensures) known.1)
