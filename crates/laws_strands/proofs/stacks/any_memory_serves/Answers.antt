use Rattle.laws_strands.proofs.stacks.Memories.{any_memory_serves}
use Rattle.laws_strands.proofs.stacks.any_memory_serves.Goals as goal

pub returns : goal.returns
returns c = any_memory_serves
