use Rattle.laws_strands.proofs.stacks.StrandsKept.{strands_keep}
use Rattle.laws_strands.proofs.stacks.strands_keep.Goals as goal

pub returns : goal.returns
returns c = strands_keep
