use Rattle.laws_strands.proofs.Law.{frame_reads_are_there}
use Rattle.laws_strands.proofs.frame_reads_are_there.Goals as goal

pub returns : goal.returns
returns c = frame_reads_are_there
