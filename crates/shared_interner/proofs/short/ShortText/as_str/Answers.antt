use Rattle.std.proofs.lemmas.Str.{IsUtf8-had}
use Rattle.shared_interner.proofs.short.ShortText.as_str.Goals as goal

pub unreachable-requires : goal.unreachable-requires
unreachable-requires c = absurd (c.in-Err.ensures.cases.0 (IsUtf8-had _ c.self.invariant.1))
