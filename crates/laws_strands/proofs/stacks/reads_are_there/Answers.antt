use Rattle.laws_strands.proofs.stacks.Law.{reads_are_there}
use Rattle.laws_strands.proofs.stacks.reads_are_there.Goals as goal

pub returns : goal.returns
returns c = reads_are_there
