use Rattle.std.proofs.Common.{rules}
use Rattle.tool_lines.proofs.Kept.{none_kept, found_kept}
use Rattle.tool_lines.proofs.memo.Memo.recall.Goals as goal

pub returns-in_err-kept-clause-missing : goal.returns-in_err-kept-clause-missing
returns-in_err-kept-clause-missing g c =
    rw (c.from_residual.ensures, ← c.self.view_is) (none_kept _ c.self.inside.answers _ _ c.self.invariant (λ a yes h. search rules) c.hash_number.ensures c.in_err-kept.ensures.none)

pub returns-clause-found : goal.returns-clause-found
returns-clause-found g c =
    rw (← c.self.view_is) (found_kept _ c.self.inside.answers _ _ (λ a yes h. search rules) c.in_ok-kept.ensures.accepted)
