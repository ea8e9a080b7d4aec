use Rattle.std.proofs.Common.{rules, sym, ◌∙◌}
use Rattle.kernel_calls.proofs.schedule.write_schedule.Goals as goal

pub returns-in-Err-clause-long : goal.returns-in-Err-clause-long
returns-in-Err-clause-long c = λ long. (
  c.in-Some.run'.value,
  search rules,
  λ text is. c.in-Err.ensures.long long c.in-Some.run'.value.events (search rules) (search rules) text is,
)
