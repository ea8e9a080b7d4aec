use Rattle.schedule_core.proofs.Living.{counts_frames}
use Rattle.schedule_core.proofs.machine.Machine.live_frames.Goals as goal

pub returns : goal.returns
returns c m s = counts_frames c.args.self.now.stage m c.live_frames.result s c.live_frames.ensures
