use Rattle.schedule_core.proofs.laws_workers.strands.Law.{frames_go_as_strands}
use Rattle.schedule_core.proofs.laws_workers.strands.frames_go_as_strands.Goals as goal

pub returns : goal.returns
returns c = frames_go_as_strands
