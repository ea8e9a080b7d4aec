use Rattle.laws_strands.proofs.stacks.Memories.{writes_are_seen}
use Rattle.laws_strands.proofs.stacks.writes_are_seen.Goals as goal

pub returns : goal.returns
returns c = writes_are_seen
