use Rattle.std.proofs.Common.{subst, List, ℕ}
use Rattle.schedule_text.specs.ScheduleText.{IsSchedule}
use Rattle.schedule_text.proofs.print.print_schedule.Goals as goal

pub returns-clause-spelled : goal.returns-clause-spelled
returns-clause-spelled c = subst (λ (t : List ℕ). IsSchedule t c.args.events.now) (c.in_ok-text.ensures c.requires.0 c.requires.1) c.requires.1
