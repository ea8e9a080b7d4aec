use Rattle.store.proofs.Made.{kept_if}
use Rattle.store.proofs.memory.Memory.set_global.Goals as goal

pub returns-in-Some-clause-cells : goal.returns-in-Some-clause-cells
returns-in-Some-clause-cells c program = kept_if program c.set_cell.result c.args.self.now c.set_cell.new.self c.in-Some.found c.args.index _ c.set_cell.ensures.set c.set_cell.ensures.not_there
