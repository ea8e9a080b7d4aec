use Rattle.schedule_core.proofs.Begun.{kept_all}
use Rattle.schedule_core.proofs.machine.Machine.keeps_schedules.Goals as goal

pub returns : goal.returns
returns c = kept_all c.args.self.now.stage c.program-accepted.ensures.accepted
