use Rattle.laws_strands.proofs.stacks.Law.{strands_go_over_borders}
use Rattle.laws_strands.proofs.stacks.strands_go_over_borders.Goals as goal

pub returns : goal.returns
returns c = strands_go_over_borders
