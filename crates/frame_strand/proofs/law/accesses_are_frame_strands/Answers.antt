use Rattle.frame_strand.proofs.Advancing as advancing
use Rattle.frame_strand.proofs.law.accesses_are_frame_strands.Goals as goal

pub returns : goal.returns
returns c = advancing.accesses_are_frame_strands
