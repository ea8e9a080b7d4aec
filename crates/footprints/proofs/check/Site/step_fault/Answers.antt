use Rattle.std.proofs.Common.{subst}
use Rattle.std.specs.Prelude.{IfOk}
use Rattle.refusal.specs.Earliest.{IsEarliest}
use Rattle.footprints.specs.Footprints.{Place, step_use}
use Rattle.footprints.specs.Rules.{IsUseBroken}
use Rattle.footprints.proofs.check.Site.step_fault.Goals as goal

pub returns : goal.returns
returns c =
    let step = c.args.step.now in
    let steps = c.args.self.now.block.now.steps in
    subst (λ (p : Place). IfOk c.step_fault.result (IsEarliest (IsUseBroken step.line (step_use p c.args.self.now.functions.now steps step.line step.instruction)))) c.place-place.ensures
    (c.step_fault.ensures steps c.requires)
