use Rattle.std.proofs.Common.{◌≡◌, ◌∙◌, ap, sym, subst, refl}
use Rattle.table_numbered.specs.declared.event.Numbered.{Numbered}
use Rattle.table_numbered.specs.History.{History}
use Rattle.shared_set.specs.declared.cursor.Cursor.{Cursor}
use Rattle.shared_set.specs.Known.{SharedView, KnownView, known_view, KnowsMore, Keeps, IsCursor, set_of}
use Rattle.shared_set.proofs.Keeping.{one_set, seen_of_chain}
use Rattle.shared_set.proofs.handle.Handle.hear.Goals as goal

pub join-requires-clause-theirs : goal.join-requires-clause-theirs
join-requires-clause-theirs g c =
    let one : set_of c.known.inside.cursor ≡ c.self.inside.set.now.of = ap (λ (v : KnownView g.row.V.Denot). v.of) c.known.view_is ∙ (c.requires.of ∙ sym (ap (λ (v : KnownView g.row.V.Denot). v.of) c.self.view_is)) in
    subst (λ (k : Cursor g.row.V.Denot g.row.L.Denot g.row.A.Denot). IsCursor g.L.Law.same g.L.Law.hash_of c.self.inside.set.now.of k) (sym c.again.ensures)
    (subst (λ (x : SharedView). IsCursor g.L.Law.same g.L.Law.hash_of x c.known.inside.cursor) one c.known.invariant)

pub get-self-inside-requires-clause-of : goal.get-self-inside-requires-clause-of
get-self-inside-requires-clause-of g c = let t = c.join.new.cursor.stages in
    seen_of_chain g.L.Law.same g.L.Law.hash_of c.self.inside.set.now.of c.set.inside.chain c.set.inside.slab (one_set c.set.view_is) c.set.invariant.chain.slots t.book t.names t.log c.join.ensures.at.seen

pub get-self-inside-requires-clause-there : goal.get-self-inside-requires-clause-there
get-self-inside-requires-clause-there g c = let at = c.join.ensures.at in (at.stage, at.shown)

pub invariant_of-self : goal.invariant_of-self
invariant_of-self g c = record { at = c.join.ensures.at; shown = c.get-self-inside.ensures.there; supply = c.self.invariant.supply }

pub returns-clause-known : goal.returns-clause-known
returns-clause-known g c = subst (λ (x : KnownView g.row.V.Denot). KnowsMore x (known_view c.self.inside.set.now.of c.join.new.cursor.entries.log)) c.self.view_is (refl, c.join.ensures.mine)

pub returns-clause-theirs : goal.returns-clause-theirs
returns-clause-theirs g c = subst (λ (h : History (Numbered g.row.V.Denot)). Keeps h c.join.new.cursor.entries.log)
    (ap (λ (k : Cursor g.row.V.Denot g.row.L.Denot g.row.A.Denot). k.entries.log) c.again.ensures ∙ ap (λ (v : KnownView g.row.V.Denot). v.history) c.known.view_is) c.join.ensures.theirs
