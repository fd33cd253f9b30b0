use Rattle.std.proofs.Common.{◌∙◌, ap, sym, subst}
use Rattle.table_numbered.specs.Words.{alike, marked}
use Rattle.table_numbered.specs.declared.event.Numbered.{Numbered}
use Rattle.table_numbered.specs.declared.event.Stored.TheVariants.{Entry}
use Rattle.table_numbered.specs.History.{History, IsEntry, size_of}
use Rattle.table_numbered.specs.Ending.{LeftView}
use Rattle.table_numbered.proofs.Histories.{full_says, stands_on}
use Rattle.table_numbered.proofs.ending.LeftValues.has_all.Goals as goal

pub learn-requires : goal.learn-requires
learn-requires g c = c.requires.of ∙ (sym (ap (λ (v : LeftView g.row.V.Denot). v.of.book) c.self.view_is) ∙ sym (ap (λ t. t.book) c.again-both.ensures))

pub returns : goal.returns
returns g c = λ e there. let inv = c.self.invariant in let log = c.self.inside.seen.log in let both = c.learn.new.self.log in
    subst (λ (h : History (Numbered g.row.V.Denot)). IsEntry h e) (ap (λ (v : LeftView g.row.V.Denot). v.history) c.self.view_is) (
      there.0,
      full_says (alike g.L.Law.same) (marked g.L.Law.hash_of) (size_of log) there.0 (Entry e) log both inv.full inv.of.2 (rw c.again-both.ensures at c.learn.ensures.2) c.learn.ensures.4
          (stands_on c.args.known.now.log both there.0 e c.learn.ensures.3 there.1),
    )
