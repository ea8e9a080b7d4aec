use Rattle.footprints.proofs.CellLaws.{shared_cells}
use Rattle.footprints.proofs.laws.shared_cells_agree.Goals as goal

pub returns : goal.returns
returns c = shared_cells
