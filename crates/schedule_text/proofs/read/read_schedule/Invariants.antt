use Rattle.std.proofs.Common.{length}
use Rattle.schedule_text.proofs.Progress.{Progress}
use Rattle.schedule_text.proofs.read.read_schedule.Given as goal

abbrev pub invariant-loop-rest : goal.invariant-loop-rest
invariant-loop-rest l = Progress l.text l.rest l.before l.number l.events.items

abbrev pub decreases-loop-rest : goal.decreases-loop-rest
decreases-loop-rest l = length l.rest
