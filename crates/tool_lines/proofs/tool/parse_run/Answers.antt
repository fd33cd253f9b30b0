use Rattle.std.proofs.Common.{map}
use Rattle.tool_lines.proofs.tool.parse_run.Goals as goal

pub returns-in-Some-clause-asked : goal.returns-in-Some-clause-asked
returns-in-Some-clause-asked g c = record {
  rest = map g.S.AsStr.text c.in-Some.rest.now;
  threads_are = c.in-Some.ensures.asked;
  names_are = c.parse_names.ensures;
}

pub returns-in-None-clause-none : goal.returns-in-None-clause-none
returns-in-None-clause-none g c = λ threads names asks. c.in-None.ensures.none threads asks.rest asks.threads_are
