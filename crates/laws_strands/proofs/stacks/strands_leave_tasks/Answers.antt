use Rattle.laws_strands.proofs.stacks.Tasks.{strands_leave_tasks}
use Rattle.laws_strands.proofs.stacks.strands_leave_tasks.Goals as goal

pub returns : goal.returns
returns c = strands_leave_tasks
