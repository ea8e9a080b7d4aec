use Rattle.std.proofs.Common.{◌≡◌, IsTrue}
use Rattle.program.specs.linear.declared.form.RegisterId.{RegisterId}
use Rattle.program.specs.declared.instruction.Instruction.TheVariants.{StartRegion}
use Rattle.program.specs.declared.instruction.Step.{Step}
use Rattle.refusal.specs.declared.broken.Broken.{Broken}
use Rattle.refusal.proofs.Elements.{earliest_next, earliest_all}
use Rattle.region_match.proofs.PlaceFacts.{start_here}
use Rattle.region_match.proofs.places.start_fault.Goals as goal

pub loop-step-preserved : goal.loop-step-preserved
loop-step-preserved c =
    earliest_next (λ (step : Step) (b : Broken). (IsTrue c.args.is_wrong) × (b.number ≡ 307) × (b.line ≡ step.line) × (region : RegisterId) × (step.instruction ≡ StartRegion region)) c.args.steps.now _ c.step-item.result _ _ _ c.loop-step-test.true c.step-item.is c.loop-step.invariant
    (start_here c.args.is_wrong _ _ c.step-item.result _ c.is_any_start.ensures c.is_both-is_broken.ensures c.named_at-broken.ensures)
    c.lower-named.ensures

pub returns : goal.returns
returns c = earliest_all (λ (step : Step) (b : Broken). (IsTrue c.args.is_wrong) × (b.number ≡ 307) × (b.line ≡ step.line) × (region : RegisterId) × (step.instruction ≡ StartRegion region)) c.args.steps.now _ _ c.loop-step-test.false c.loop-step.invariant
