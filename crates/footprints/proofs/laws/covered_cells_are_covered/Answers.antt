use Rattle.footprints.proofs.CellLaws.{covered_by_one}
use Rattle.footprints.proofs.laws.covered_cells_are_covered.Goals as goal

pub returns : goal.returns
returns c = covered_by_one
