use Rattle.std.proofs.Common.{[], ◌∷◌, ◌∙◌, ap, sym, subst}
use Rattle.shared_set.specs.Known.{KnownView}
use Rattle.shared_set.specs.Sharing.{Moves}
use Rattle.shared_set.specs.declared.share.Shared.{Shared}
use Rattle.shared_set.specs.declared.share.Partly.{Partly}
use Rattle.shared_set.proofs.Sharing.{knows_each, has_part}
use Rattle.shared_set.proofs.share.move_into.Goals as goal

pub begin_with-requires : goal.begin_with-requires
begin_with-requires g c = record { of = ap (λ (k : KnownView g.row.T.Denot). k.of) (c.again.ensures ∙ c.tell-known.ensures) ∙ (c.insert_each-left.ensures.known.0 ∙ c.handle-handle.ensures.of) }

pub returns-in-None-clause-known : goal.returns-in-None-clause-known
returns-in-None-clause-known g c =
    let s : Shared g.row.T.Denot g.row.L.Denot g.row.A.Denot = record { set = c.begin_with.new.self; known = c.tell-known.result } in
    knows_each c.args.values s
    (ap (λ (k : KnownView g.row.T.Denot). k.of) c.tell-known.ensures ∙ (c.insert_each-left.ensures.known.0 ∙ (c.handle-handle.ensures.of ∙ sym c.begin_with.ensures.of)))
    (c.begin_with.ensures.known ∙ ap (λ (k : KnownView g.row.T.Denot). k.history) c.again.ensures)
    (subst (λ (k : KnownView g.row.T.Denot). Moves c.args.values k.history []) (sym c.tell-known.ensures) c.in-None.ensures.leaves)

pub returns-in-Some-clause-kept : goal.returns-in-Some-clause-kept
returns-in-Some-clause-kept g c =
    let s : Shared g.row.T.Denot g.row.L.Denot g.row.A.Denot = record { set = c.begin_with.new.self; known = c.tell-known.result } in
    let p : Partly g.row.T.Denot g.row.L.Denot g.row.A.Denot g.row.T-Target.Denot = record { shared = s; refused = c.in-Some.refused; rest = c.insert_each-left.new.values } in
    has_part c.args.values p
    (ap (λ (k : KnownView g.row.T.Denot). k.of) c.tell-known.ensures ∙ (c.insert_each-left.ensures.known.0 ∙ (c.handle-handle.ensures.of ∙ sym c.begin_with.ensures.of)))
    (c.begin_with.ensures.known ∙ ap (λ (k : KnownView g.row.T.Denot). k.history) c.again.ensures)
    (subst (λ (k : KnownView g.row.T.Denot). Moves c.args.values k.history (p.refused ∷ p.rest)) (sym c.tell-known.ensures) c.in-Some.ensures.leaves)
