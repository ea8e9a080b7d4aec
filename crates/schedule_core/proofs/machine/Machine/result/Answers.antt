use Rattle.std.proofs.Common.{sym}
use Rattle.schedule_core.proofs.machine.Machine.result.Goals as goal

pub returns : goal.returns
returns c m s = sym s.shown.shows.result
