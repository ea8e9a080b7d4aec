use Rattle.laws_strands.proofs.stacks.Counting.{strands_count}
use Rattle.laws_strands.proofs.stacks.strands_count.Goals as goal

pub returns : goal.returns
returns c = strands_count
