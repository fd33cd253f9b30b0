use Rattle.tool_commands.proofs.StressWords.{of_two, no_threads, no_jobs}
use Rattle.tool_commands.proofs.arguments.parse_stress.Goals as goal

pub returns-in_err-threads-clause-wrong : goal.returns-in_err-threads-clause-wrong
returns-in_err-threads-clause-wrong g c =
    let is = of_two c.args.words.now c.threads-item.result c.jobs-item.result c.in-len2.len_at_least c.in-len2.len_below c.threads-item.is c.jobs-item.is in
    rw c.from_residual.ensures
    (no_threads g.S.AsStr.text _ _ _ is (rw (c.as_bytes.ensures.value, c.as_str.ensures) at c.in_err-threads.ensures.wrong))

pub returns-in_err-jobs-clause-wrong : goal.returns-in_err-jobs-clause-wrong
returns-in_err-jobs-clause-wrong g c =
    let is = of_two c.args.words.now c.threads-item.result c.jobs-item.result c.in-len2.len_at_least c.in-len2.len_below c.threads-item.is c.jobs-item.is in
    rw c.from_residual-in_err-jobs.ensures
    (no_jobs g.S.AsStr.text _ _ _ is (rw (c.as_bytes-2.ensures.value, c.as_str-2.ensures) at c.in_err-jobs.ensures.wrong))
