use Rattle.std.proofs.Common.{◌≡◌, take}
use Rattle.std.specs.List.{All}
use Rattle.program.specs.declared.instruction.Instruction.TheVariants.{StartRegion}
use Rattle.program.specs.declared.instruction.Step.{Step}
use Rattle.region_match.proofs.matching.is_start_among.Given as goal

abbrev pub invariant-loop-step : goal.invariant-loop-step
invariant-loop-step l = All (λ (step : Step). step.instruction ≡ StartRegion l.region → ⊥) (take l.step-index l.steps)
