use Rattle.laws_strands.proofs.Law.{frame_strands_go_over_borders}
use Rattle.laws_strands.proofs.frame_strands_go_over_borders.Goals as goal

pub returns : goal.returns
returns c = frame_strands_go_over_borders
