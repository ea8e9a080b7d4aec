use Rattle.laws_strands.proofs.stacks.Rising.{ends_match}
use Rattle.laws_strands.proofs.stacks.ends_match.Goals as goal

pub returns : goal.returns
returns c = ends_match
