use Rattle.laws_strands.proofs.Law.{frame_strands_are_steps}
use Rattle.laws_strands.proofs.frame_strands_are_steps.Goals as goal

pub returns : goal.returns
returns c = frame_strands_are_steps
