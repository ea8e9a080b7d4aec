use Rattle.schedule_core.proofs.Unchanged.{as_it_was}
use Rattle.schedule_core.proofs.machine.Machine.lend.Goals as goal

pub returns-in_default-clause-as_before : goal.returns-in_default-clause-as_before
returns-in_default-clause-as_before c = as_it_was c.args.self.now.stage

pub lend_cells-requires : goal.lend_cells-requires
lend_cells-requires c = c.args.self.now.kept

pub invariant_of-self : goal.invariant_of-self
invariant_of-self c = record { kept = c.lend_cells.ensures.machine }
