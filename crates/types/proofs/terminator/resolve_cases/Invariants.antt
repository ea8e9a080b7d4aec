use Rattle.std.proofs.Common.{take}
use Rattle.types.specs.names.Told.{Gives}
use Rattle.types.specs.Terminator as spec
use Rattle.types.proofs.terminator.resolve_cases.Given as goal

abbrev pub invariant-loop-case : goal.invariant-loop-case
invariant-loop-case l = Gives l.resolved (spec.cases_of l.scope l.line l.width (take l.case-index l.cases))
