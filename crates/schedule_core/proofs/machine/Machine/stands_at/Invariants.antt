use Rattle.std.proofs.Common.{◌≢◌, ◌<◌, ℕ, Some}
use Rattle.semantics.specs.Events.{Machine}
use Rattle.schedule_core.specs.Lines.{line_of_worker}
use Rattle.schedule_core.specs.Stages.{IsState, program_of}
use Rattle.schedule_core.proofs.machine.Machine.stands_at.Given as goal

abbrev pub invariant-loop-worker : goal.invariant-loop-worker
invariant-loop-worker l = (m : Machine) → IsState l.self.stage m → (w : ℕ) → w < l.worker → line_of_worker (program_of l.self.stage) m w ≢ Some l.line
