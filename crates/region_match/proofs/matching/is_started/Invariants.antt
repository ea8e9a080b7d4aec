use Rattle.region_match.proofs.Started.{IsNotStarted}
use Rattle.region_match.proofs.matching.is_started.Given as goal

abbrev pub invariant-loop-b : goal.invariant-loop-b
invariant-loop-b l = IsNotStarted l.bodies l.tasks l.region l.task l.b
