use Rattle.footprints.proofs.CellLaws.{apart_cells}
use Rattle.footprints.proofs.laws.zones_apart_share_no_cell.Goals as goal

pub returns : goal.returns
returns c = apart_cells
