use Rattle.laws_strands.proofs.stacks.Law.{strands_are_steps}
use Rattle.laws_strands.proofs.stacks.strands_are_steps.Goals as goal

pub returns : goal.returns
returns c = strands_are_steps
