use Rattle.std.proofs.Common.{take}
use Rattle.std.specs.List.{All}
use Rattle.program.specs.declared.annotation.Inequality.{Inequality}
use Rattle.ranges.specs.Walks.{StandsBefore}
use Rattle.ranges.proofs.past.stands_before_step.Given as goal

abbrev pub invariant-loop-inequality : goal.invariant-loop-inequality
invariant-loop-inequality l = All (λ (q : Inequality). StandsBefore l.named q.line) (take l.inequality-index l.shows)
