use Rattle.footprints.proofs.CellLaws.{empty_cells}
use Rattle.footprints.proofs.laws.empty_zones_have_no_cell.Goals as goal

pub returns : goal.returns
returns c = empty_cells
