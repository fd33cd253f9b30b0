use Rattle.std.proofs.Common.{◌≡◌, Option, Some, None, refl, rules}
use Rattle.std.specs.Borrow.{Bor}
use Rattle.std.specs.Prelude.{is_some, option_copied}
use Rattle.tool_lines.proofs.HeldLines.{looks_up}
use Rattle.tool_lines.proofs.line_set.LineSet.find.Goals as goal

is_some-copied : {V : Type 0} (found : Option (Bor V)) → is_some (option_copied found) ≡ is_some found
is_some-copied None = refl
is_some-copied (Some v) = refl

pub returns-clause-known : goal.returns-clause-known
returns-clause-known g c = λ lines held. rw (is_some-copied c.lookup_alone.result) at
    (looks_up g.T.StoredLine.bytes_of _ c.self.inside.lines c.args.line.bytes.now c.args.line.hash _ c.self.invariant (λ v answer s. search rules) c.args.line.hashed
    c.lookup_alone.ensures.as_list lines (rw (← c.self.view_is) at held))
