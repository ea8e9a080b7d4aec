use Rattle.std.proofs.Common.{length, List, ℕ}
use Rattle.std.specs.Prelude.{string_bytes}
use Rattle.schedule_text.specs.ScheduleText.{IsSchedule}
use Rattle.schedule_text.proofs.Printed.{Printed}
use Rattle.schedule_text.proofs.print.printed.Given as goal

abbrev pub invariant-loop-rest : goal.invariant-loop-rest
invariant-loop-rest l = (whole : List ℕ) → IsSchedule whole l.events → Printed whole (string_bytes l.text) l.rest

abbrev pub decreases-loop-rest : goal.decreases-loop-rest
decreases-loop-rest l = length l.rest
