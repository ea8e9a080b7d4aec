use Rattle.laws_phases.proofs.defined.Placed.{places_have_items}
use Rattle.laws_phases.proofs.places_have_items.Goals as goal

pub returns : goal.returns
returns c = places_have_items
