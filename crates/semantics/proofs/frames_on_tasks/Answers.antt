use Rattle.semantics.proofs.TaskLaws.{frames_on_tasks}
use Rattle.semantics.proofs.frames_on_tasks.Goals as goal

pub returns : goal.returns
returns c = frames_on_tasks
