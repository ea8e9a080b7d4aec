use Rattle.laws_verdict.proofs.sure.Reads.{reads_are_sure}
use Rattle.laws_verdict.proofs.reads_are_sure.Goals as goal

pub returns : goal.returns
returns c = reads_are_sure
