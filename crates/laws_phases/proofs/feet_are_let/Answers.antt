use Rattle.laws_phases.proofs.zones.Children.{feet_let}
use Rattle.laws_phases.proofs.feet_are_let.Goals as goal

pub returns : goal.returns
returns c = feet_let
