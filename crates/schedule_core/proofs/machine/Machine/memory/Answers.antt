use Rattle.schedule_core.proofs.Held.{memory_held}
use Rattle.schedule_core.proofs.machine.Machine.memory.Goals as goal

pub returns : goal.returns
returns c = memory_held c.args.self.now.stage c.args.self.now.kept c.with_row.result c.as_slice.result.now c.as_slice.ensures.value c.with_row.ensures
