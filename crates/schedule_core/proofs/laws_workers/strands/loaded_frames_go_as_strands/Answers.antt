use Rattle.schedule_core.proofs.laws_workers.strands.Loading.{loaded_frames_go_as_strands}
use Rattle.schedule_core.proofs.laws_workers.strands.loaded_frames_go_as_strands.Goals as goal

pub returns : goal.returns
returns c = loaded_frames_go_as_strands
