use Rattle.std.proofs.Common.{◌≡◌, take_all}
use Rattle.std.proofs.lemmas.Bool.{false≢true}
use Rattle.program.specs.declared.instruction.Instruction.TheVariants.{StartRegion}
use Rattle.program.specs.declared.instruction.Step.{Step}
use Rattle.region_match.proofs.Lists.{none_any}
use Rattle.region_match.proofs.matching.is_start_among.Goals as goal

pub returns : goal.returns
returns c = (
  λ h. absurd (false≢true h),
  λ any. absurd (none_any (λ (step : Step). step.instruction ≡ StartRegion c.args.region) c.args.steps.now (rw (take_all {A = Step} c.loop-step.step-index c.args.steps.now c.loop-step-test.false) at c.loop-step.invariant) any),
)
