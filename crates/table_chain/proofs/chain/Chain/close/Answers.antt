use Rattle.std.proofs.Common.{ℕ, [], sym, ap, subst, ◌∙◌}
use Rattle.std.proofs.lemmas.List.{append-nil}
use Rattle.table_chain.specs.Chains.{IsWhole}
use Rattle.table_chain.proofs.Steps.{size_on}
use Rattle.table_chain.proofs.Chained.{ends, final}
use Rattle.table_chain.proofs.Ended.{laid_so}
use Rattle.table_chain.proofs.chain.Chain.close.Goals as goal

pub close_behind-requires-clause-words : goal.close_behind-requires-clause-words
close_behind-requires-clause-words g c = let s = c.self.inside in let seen = c.args.seen.now in
    (laid_so g.F.Follows.begins g.F.Follows.follows c.args.self.now s.start.book seen.book s.words.items s.start.names seen.names s.start.log seen.log (sym c.self.view_is) c.self.invariant.0 c.requires.of).words

pub close_behind-requires-clause-size : goal.close_behind-requires-clause-size
close_behind-requires-clause-size g c = let s = c.self.inside in let seen = c.args.seen.now in
    (laid_so g.F.Follows.begins g.F.Follows.follows c.args.self.now s.start.book seen.book s.words.items s.start.names seen.names s.start.log seen.log (sym c.self.view_is) c.self.invariant.0 c.requires.of).size

pub returns-clause-of : goal.returns-clause-of
returns-clause-of g c = let seen = c.args.seen.now in let e = c.close_behind.ensures in let new = c.close_behind.new.seen in
    (e.same.0 ∙ c.requires.of.0, e.same.1 ∙ c.requires.of.1, size_on c.args.self.now.slots seen.log new.log c.requires.of.2 e.longer, e.reached)

pub returns-clause-whole : goal.returns-clause-whole
returns-clause-whole g c = subst (λ (n : ℕ). IsWhole n c.close_behind.result c.close_behind.new.seen.log) (ap (λ x. x.slots) c.self.view_is) c.close_behind.ensures.whole

pub returns-clause-counted : goal.returns-clause-counted
returns-clause-counted g c = let e = c.close_behind.ensures in let log = c.close_behind.new.seen.log in
    λ p x there. ends g.F.Follows.begins g.F.Follows.follows c.close_behind.result c.args.self.now.slots log (size_on c.args.self.now.slots c.args.seen.now.log log c.requires.of.2 e.longer)
    (subst (λ (n : ℕ). IsWhole n c.close_behind.result log) (ap (λ x. x.slots) c.self.view_is) e.whole) log ([], append-nil log) e.reached p x there

pub returns-clause-ended : goal.returns-clause-ended
returns-clause-ended g c = let e = c.close_behind.ensures in let log = c.close_behind.new.seen.log in
    final g.F.Follows.begins g.F.Follows.follows c.close_behind.result c.args.self.now.slots log (size_on c.args.self.now.slots c.args.seen.now.log log c.requires.of.2 e.longer)
    (subst (λ (n : ℕ). IsWhole n c.close_behind.result log) (ap (λ x. x.slots) c.self.view_is) e.whole)
