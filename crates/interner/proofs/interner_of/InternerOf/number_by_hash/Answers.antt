use Rattle.std.proofs.Common.{rules, Some, None}
use Rattle.std.specs.Int.NonZero.{non_zero_u32_get}
use Rattle.interner.proofs.Held.{looks_up}
use Rattle.interner.proofs.interner_of.InternerOf.number_by_hash.Goals as goal

pub returns-in_err-found-clause-finds : goal.returns-in_err-found-clause-finds
returns-in_err-found-clause-finds g c = rw (c.from_residual.ensures, ← c.self.view_is)
    (looks_up (λ v. v.0) (λ n. g.S.AsStr.text n.text.value) (λ n. non_zero_u32_get n.number) g.H.TextHash.hash_of _ _ c.self.invariant _ c.args.text.now _ None
    (λ v answer s. search rules) c.requires c.in_err-found.ensures.as_list)

pub returns-clause-finds : goal.returns-clause-finds
returns-clause-finds g c = rw (← c.self.view_is)
    (looks_up (λ v. v.0) (λ n. g.S.AsStr.text n.text.value) (λ n. non_zero_u32_get n.number) g.H.TextHash.hash_of _ _ c.self.invariant _ c.args.text.now _ (Some c.in_ok-found.found.now)
    (λ v answer s. search rules) c.requires c.in_ok-found.ensures.as_list)

pub returns-in_err-found-clause-different : goal.returns-in_err-found-clause-different
returns-in_err-found-clause-different g c = rw (← c.self.view_is) c.self.invariant.different

pub returns-clause-different : goal.returns-clause-different
returns-clause-different g c = rw (← c.self.view_is) c.self.invariant.different
