use Rattle.footprints.proofs.CellLaws.{covered_cells}
use Rattle.footprints.proofs.laws.covering_zones_have_the_cells.Goals as goal

pub returns : goal.returns
returns c = covered_cells
