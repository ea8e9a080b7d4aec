use Rattle.laws_strands.proofs.Law.{frame_strands_are_steps_where_defined}
use Rattle.laws_strands.proofs.frame_strands_are_steps_where_defined.Goals as goal

pub returns : goal.returns
returns c = frame_strands_are_steps_where_defined
