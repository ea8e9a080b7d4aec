use Rattle.laws_phases.proofs.costs.Shown.{costs_are_shown}
use Rattle.laws_phases.proofs.costs_are_shown.Goals as goal

pub returns : goal.returns
returns c = costs_are_shown
