use Rattle.laws_strands.proofs.stacks.Reached.{reached_are_orderly}
use Rattle.laws_strands.proofs.stacks.reached_are_orderly.Goals as goal

pub returns : goal.returns
returns c = reached_are_orderly
