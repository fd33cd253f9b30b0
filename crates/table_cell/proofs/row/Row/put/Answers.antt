use Rattle.std.proofs.Common.{arith, sym, ap, ◌∙◌}
use Rattle.std.proofs.lemmas.List.{map-set}
use Rattle.std.proofs.lemmas.List.Elements.{All-set}
use Rattle.table_cell.specs.Rows.{WordLies}
use Rattle.table_cell.proofs.Rows.{within_marks, within_words, marked_set, content_set}
use Rattle.table_cell.proofs.row.Row.put.Goals as goal

pub index_mut-requires : goal.index_mut-requires
index_mut-requires g c = omega (arith, within_marks c.args.index c.self.invariant c.self.view_is c.requires.within)

pub index_mut-requires-2 : goal.index_mut-requires-2
index_mut-requires-2 g c = omega (arith, within_words c.args.index c.self.invariant c.self.view_is c.requires.within)

pub invariant_of-self : goal.invariant_of-self
invariant_of-self g c = record {
  marked = marked_set c.self.inside.marks.items c.self.inside.words.items c.args.index c.new.inside.mark c.new.inside.word c.self.invariant.marked c.new.invariant;
  lies = All-set (WordLies c.self.inside.origin.home c.self.inside.alloc) c.self.inside.words.items c.args.index c.new.inside.word
      (ap (λ b. b.home) c.new.view_is ∙ c.requires.lies.0 ∙ sym (ap (λ r. r.home) c.self.view_is), ap (λ b. b.from) c.new.view_is ∙ c.requires.lies.1 ∙ sym (ap (λ r. r.from) c.self.view_is))
      c.self.invariant.lies;
}

pub returns-clause-put : goal.returns-clause-put
returns-clause-put g c = rw (← c.self.view_is, ← c.new.view_is) (content_set c.self.inside.marks.items c.self.inside.words.items c.args.index c.new.inside.mark c.new.inside.word c.self.invariant.marked)

pub returns-clause-ids : goal.returns-clause-ids
returns-clause-ids g c = rw (← c.self.view_is, ← c.new.view_is) (map-set (λ w. w.id) c.self.inside.words.items c.args.index c.new.inside.word)
