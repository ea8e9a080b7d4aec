use Rattle.std.specs.Prelude.{slice_get}
use Rattle.program.specs.declared.function.Function.{Function}
use Rattle.refusal.specs.Earliest.{IsEarliest}
use Rattle.refusal.proofs.Places.{Below}
use Rattle.footprints.specs.Rules.{IsFunctionBroken}
use Rattle.ranges.specs.region_match.Tasks.{tasks_in}
use Rattle.footprints.proofs.check.program_fault.Given as goal

abbrev pub invariant-loop-index : goal.invariant-loop-index
invariant-loop-index l = IsEarliest (Below (λ f (function : Function). IsFunctionBroken l.program.functions function (tasks_in (slice_get l.regions.functions f))) l.functions l.index) l.named
