use Rattle.schedule_text.proofs.Parts.{task_of}
use Rattle.schedule_text.proofs.line.read_steal.Goals as goal

pub returns-in-None-task-clause-none : goal.returns-in-None-task-clause-none
returns-in-None-task-clause-none c = λ worker task is. let none = rw c.in-None-task.is at c.in_ok-task-in-Some.ensures.none in none task.numbers (task_of _ _ _ worker task c.in-Some.ensures.some is)
