use Rattle.std.proofs.Common.{◌≡◌, ◌∙◌, ap, sym, subst}
use Rattle.table_numbered.specs.History.{History}
use Rattle.table_numbered.specs.declared.event.Numbered.{Numbered}
use Rattle.shared_set.specs.declared.cursor.Cursor.{Cursor}
use Rattle.shared_set.specs.Known.{SharedView, KnownView, Keeps, IsCursor, set_of}
use Rattle.shared_set.proofs.ending.IntoValues.has_all.Goals as goal

pub reaches-requires : goal.reaches-requires
reaches-requires g c =
    let one : set_of c.known.inside.cursor ≡ c.args.self.now.of = ap (λ (v : KnownView g.row.V.Denot). v.of) c.known.view_is ∙ c.requires.of in record {
      at = subst (λ (k : Cursor g.row.V.Denot g.row.L.Denot g.row.A.Denot). IsCursor g.L.Law.same g.L.Law.hash_of c.args.self.now.of k) (sym c.again.ensures)
          (subst (λ (x : SharedView). IsCursor g.L.Law.same g.L.Law.hash_of x c.known.inside.cursor) one c.known.invariant);
    }

pub returns : goal.returns
returns g c = subst (λ (h : History (Numbered g.row.V.Denot)). Keeps h c.args.self.now.history)
    (ap (λ (k : Cursor g.row.V.Denot g.row.L.Denot g.row.A.Denot). k.entries.log) c.again.ensures ∙ ap (λ (v : KnownView g.row.V.Denot). v.history) c.known.view_is) c.reaches.ensures
