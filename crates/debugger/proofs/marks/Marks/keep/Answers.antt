use Rattle.std.proofs.Common.{take}
use Rattle.debugger.proofs.marks.Marks.keep.Goals as goal

pub returns-in-Ok : goal.returns-in-Ok
returns-in-Ok c s are at = c.add-kept.ensures s are (c.in-Ok.ensures.same.replays s.program s.arguments s.globals s.workers (take c.args.position s.events) at)
