use Rattle.std.proofs.Common.{subst}
use Rattle.refusal.specs.Earliest.{IsEarliest}
use Rattle.footprints_feet.specs.footprints_zones.declared.place.Use.{Use}
use Rattle.footprints.specs.Rules.{IsUseBroken}
use Rattle.footprints.proofs.judge.step_fault.Goals as goal

pub returns : goal.returns
returns c = λ steps is. subst (λ (u : Use). IsEarliest (IsUseBroken c.args.step.now.line u) c.use_fault.result) (c.in_ok-used.ensures steps is) c.use_fault.ensures
